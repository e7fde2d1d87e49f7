-- Which rows name what a key declares, and that the spans have them all.
use Rattle.std.proofs.Common.{◌≡◌, refl, ap, sym, ◌∙◌, append_assoc}
use Rattle.std.proofs.lemmas.Bool.{and_parts, both_ways, or_parts}
use Rattle.std.specs.Prelude.{ℕ, Bool, true, false, cond, ◌&&◌, ◌||◌, List, [], ◌∷◌, ◌++◌, map, filter, Option, Some}
use Rattle.std.specs.Prelude.{None, is_some}
use Rattle.std.specs.BTreeSet as set
use Rattle.std.specs.BTreeSet.{BTreeSet, contains}
use Rattle.std.specs.List.{list_any}
use Rattle.std.specs.Map.{keys_of}
use Rattle.std.specs.Ordering.{is_eq, ordering_then}
use Rattle.alto_rows.specs.declared.entity.Entity.TheVariants as entity
use Rattle.alto_rows.specs.declared.key.Key.{Key}
use Rattle.alto_rows.specs.declared.key.Key.TheVariants as key
use Rattle.alto_rows.specs.declared.span.Span.{Span}
use Rattle.alto_rows.specs.declared.value.Value.{Value}
use Rattle.alto_rows.specs.declared.value.Value.TheVariants as value
use Rattle.alto_rows.specs.declared.write.Write.{Write}
use Rattle.alto_rows.specs.Good.{value_needs}
use Rattle.alto_rows.specs.Order.{key_cmp, name_cmp, same_name, entity_cmp}
use Rattle.alto_rows.specs.Rows.{Rows, AreSorted, has_row, value_of}
use Rattle.alto_rows.specs.Span.{is_in, rows_in}
use Rattle.alto_rows.proofs.OrderLemmas.{one_key}
use Rattle.alto_rows.proofs.ResourceLemmas.{or_false}
use Rattle.alto_rows.proofs.RowsLemmas.{same_key_back}
use Rattle.alto_rows.proofs.TouchesLemmas.{both_ties, same_name_ties}
use Rattle.alto_rows.proofs.WithinLemmas.{value_of-rows_in}
use Rattle.alto_edits.specs.Writes.{deleting, names, same_key, withdrawing}
use Rattle.alto_rules.proofs.PickLemmas.{picked}
use Rattle.alto_rows.proofs.WriteLemmas.{NoneWrites, value_of-after-none}
use Rattle.alto_rules.specs.Draft.{Drafted, drafted_rows}
use Rattle.alto_rules.specs.Withdrawal.{HasPicked, has_key, is_of, is_withdrawn, is_written_key, named_in, names_key}
use Rattle.alto_rules.specs.Withdrawal.{spans_of, withdraws}

-- ---- a row names by its key

-- one name of a key is that of another
one_tie : (a b : List ℕ) → (is_eq (name_cmp a b) || false) ≡ same_name a b
one_tie a b = or_false (is_eq (name_cmp a b)) ∙ sym (same_name_ties a b)

-- both are
two_tie : (a b c d : List ℕ) → is_eq (ordering_then (name_cmp a b) (name_cmp c d)) ≡ (same_name a b && same_name c d)
two_tie a b c d = both_ties (name_cmp a b) (name_cmp c d) ∙ rw (same_name_ties a b, same_name_ties c d) refl

two_ties : (a b c d : List ℕ) → (is_eq (ordering_then (name_cmp a b) (name_cmp c d)) || false)
    ≡ (same_name a b && same_name c d)
two_ties a b c d = or_false (is_eq (ordering_then (name_cmp a b) (name_cmp c d))) ∙ two_tie a b c d

-- one of two ends is
either : (n s d : Bool) → ((n && s) || ((n && d) || false)) ≡ (n && (s || d))
either true true d = refl
either true false d = or_false d
either false s d = refl

ends_tie : (net of pid source destination : List ℕ) (more : Bool) → more ≡ false
    → (is_eq (ordering_then (name_cmp net of) (name_cmp pid source))
    || (is_eq (ordering_then (name_cmp net of) (name_cmp pid destination)) || more))
    ≡ (same_name net of && (same_name pid source || same_name pid destination))
ends_tie net of pid source destination more none =
    rw (none, two_tie net of pid source, two_tie net of pid destination)
    (either (same_name net of) (same_name pid source) (same_name pid destination))

-- an abstract network element isn't withdrawn so
none_anes : (declared : Key) (net : List ℕ) (anes : List (List ℕ)) → withdraws declared ≡ true
    → list_any (same_key declared) (map (key.Ane net) anes) ≡ false
unfolding key_cmp
none_anes declared net [] h = refl
none_anes (key.Net of) net (ane ∷ anes) h = none_anes (key.Net of) net anes h
none_anes (key.Pid of pid) net (ane ∷ anes) h = none_anes (key.Pid of pid) net anes h
none_anes (key.Metric of metric) net (ane ∷ anes) h = none_anes (key.Metric of metric) net anes h
none_anes _ net (ane ∷ anes) h = cc

none_value : (declared : Key) (net : List ℕ) (v : Value) → withdraws declared ≡ true
    → list_any (same_key declared) (value_needs net v) ≡ false
none_value declared net (value.Names anes) h = none_anes declared net anes h
none_value declared net _ h = refl

and_false : (b : Bool) → (b && false) ≡ false
and_false true = refl
and_false false = refl

-- of a network
net_names : (net : List ℕ) (at : Key) (v : Value) → names (key.Net net) (at, v) ≡ is_of net at
unfolding key_cmp
net_names net (key.Net of) v = one_tie net of
net_names net (key.Pid of pid) v = one_tie net of
net_names net (key.Prefix of pid prefix) v = one_tie net of
net_names net (key.Metric of metric) v = one_tie net of
net_names net (key.Cost of metric source destination) v = one_tie net of
net_names net (key.Prop of (entity.Block block) name) v = one_tie net of
net_names net (key.Prop of (entity.Pid pid) name) v = one_tie net of
net_names net (key.Ane of ane) v = one_tie net of
net_names net (key.AneProp of ane name) v = one_tie net of
net_names net (key.Path of source destination) v =
    ap (λ b. is_eq (name_cmp net of) || b) (none_value (key.Net net) of v refl) ∙ one_tie net of
net_names net _ v = refl

-- of a PID
pid_names : (net pid : List ℕ) (at : Key) (v : Value) → names (key.Pid net pid) (at, v) ≡ names_key (key.Pid net pid) at
unfolding key_cmp
pid_names net pid (key.Pid of other) v = two_ties net of pid other
pid_names net pid (key.Prefix of other prefix) v = two_ties net of pid other
pid_names net pid (key.Cost of metric source destination) v = ends_tie net of pid source destination false refl
pid_names net pid (key.Prop of (entity.Block block) name) v = sym (and_false (same_name net of))
pid_names net pid (key.Prop of (entity.Pid other) name) v = two_ties net of pid other
pid_names net pid (key.Path of source destination) v =
    ends_tie net of pid source destination (list_any (same_key (key.Pid net pid)) (value_needs of v))
    (none_value (key.Pid net pid) of v refl)
pid_names net pid _ v = refl

-- of a metric
metric_names : (net metric : List ℕ) (at : Key) (v : Value)
    → names (key.Metric net metric) (at, v) ≡ names_key (key.Metric net metric) at
unfolding key_cmp
metric_names net metric (key.Metric of other) v = two_ties net of metric other
metric_names net metric (key.Cost of other source destination) v = two_ties net of metric other
metric_names net metric (key.Prop of (entity.Block block) name) v = refl
metric_names net metric (key.Prop of (entity.Pid other) name) v = refl
metric_names net metric (key.Path of source destination) v = none_value (key.Metric net metric) of v refl
metric_names net metric _ v = refl

pub names_by_key : (declared at : Key) (v : Value) → withdraws declared ≡ true
    → names declared (at, v) ≡ names_key declared at
names_by_key (key.Net net) at v h = net_names net at v
names_by_key (key.Pid net pid) at v h = pid_names net pid at v
names_by_key (key.Metric net metric) at v h = metric_names net metric at v
names_by_key _ at v h = cc

-- ---- the spans have all keys that name

in_net : (net : List ℕ) (at : Key) → is_of net at ≡ true → list_any (λ s. is_in s at) (spans_of (key.Net net)) ≡ true
in_net net (key.Net of) h = refl
in_net net (key.Pid of pid) h = rw h refl
in_net net (key.Prefix of pid prefix) h = rw h refl
in_net net (key.Metric of metric) h = rw h refl
in_net net (key.Cost of metric source destination) h = rw h refl
in_net net (key.Prop of entity name) h = rw h refl
in_net net (key.Ane of ane) h = rw h refl
in_net net (key.AneProp of ane name) h = rw h refl
in_net net (key.Path of source destination) h = rw h refl
in_net net _ h = cc

in_pid : (net pid : List ℕ) (at : Key) → names_key (key.Pid net pid) at ≡ true
    → list_any (λ s. is_in s at) (spans_of (key.Pid net pid)) ≡ true
unfolding entity_cmp
in_pid net pid (key.Pid of other) h = rw (and_parts (same_name net of) (same_name pid other) h).0 refl
in_pid net pid (key.Prefix of other prefix) h = rw h refl
in_pid net pid (key.Cost of metric source destination) h =
    rw (and_parts (same_name net of) (same_name pid source || same_name pid destination) h).0 refl
in_pid net pid (key.Prop of (entity.Block block) name) h =
    absurd (both_ways (same_name net of && false) (and_false (same_name net of)) h)
in_pid net pid (key.Prop of (entity.Pid other) name) h =
    rw (
      (and_parts (same_name net of) (same_name pid other) h).0,
      sym (same_name_ties pid other)
          ∙ (and_parts (same_name net of) (same_name pid other) h).1,
    ) refl
in_pid net pid (key.Path of source destination) h =
    rw (and_parts (same_name net of) (same_name pid source || same_name pid destination) h).0 refl
in_pid net pid _ h = cc

in_metric : (net metric : List ℕ) (at : Key) → names_key (key.Metric net metric) at ≡ true
    → list_any (λ s. is_in s at) (spans_of (key.Metric net metric)) ≡ true
in_metric net metric (key.Metric of other) h = rw (and_parts (same_name net of) (same_name metric other) h).0 refl
in_metric net metric (key.Cost of other source destination) h = rw h refl
in_metric net metric (key.Prop of (entity.Block block) name) h = cc
in_metric net metric (key.Prop of (entity.Pid other) name) h = cc
in_metric net metric _ h = cc

spans_reach : (declared at : Key) → withdraws declared ≡ true → names_key declared at ≡ true
    → list_any (λ s. is_in s at) (spans_of declared) ≡ true
spans_reach (key.Net net) at w h = in_net net at h
spans_reach (key.Pid net pid) at w h = in_pid net pid at h
spans_reach (key.Metric net metric) at w h = in_metric net metric at h
spans_reach _ at w h = cc

-- ---- keys picked one after another

-- the keys of rows that pass a test
has_key-filter : (test : Key → Bool) (rows : Rows) (at : Key)
    → has_key (filter test (keys_of rows)) at ≡ (test at && has_row rows at)
has_key-filter test [] at = sym (and_false (test at))
has_key-filter test (row ∷ rows) at =
    rw (same_key_back at row.0) (by (has_key-filter test rows at) (test row.0) refl (is_eq (key_cmp row.0 at)) refl)
  where
    by : has_key (filter test (keys_of rows)) at ≡ (test at && has_row rows at) → (t : Bool) → test row.0 ≡ t
        → (b : Bool) → is_eq (key_cmp row.0 at) ≡ b
        → has_key (cond t (row.0 ∷ filter test (keys_of rows)) (filter test (keys_of rows))) at
        ≡ (test at && is_some (cond b (Some row.1) (value_of rows at)))
    by below true e true f = rw (f, ← one_key row.0 at f, e) refl
    by below true e false f = rw f below
    by below false e true f = below ∙ rw (← one_key row.0 at f, e) refl
    by below false e false f = below

-- so of what is withdrawn the keys of a span that name what is declared are those with a row there
pub picked_named : (later rows : Rows) (span : Span) (declared : Key) (all all' : BTreeSet Key)
    → HasPicked (is_withdrawn later declared) (has_key (named_in rows span declared)) all all'
    → HasPicked (is_withdrawn later declared) (has_row (rows_in rows span)) all all'
picked_named later rows span declared all all' picked at =
    picked at
    ∙ rw (has_key-filter (names_key declared) (rows_in rows span) at)
    (ap (λ b. contains key_cmp all at || b)
    (twice (names_key declared at) (has_row later at) (has_row (rows_in rows span) at)))
  where
    twice : (n l r : Bool) → ((n && l) && (n && r)) ≡ ((n && l) && r)
    twice true l r = refl
    twice false l r = refl

-- one key more is named, or isn't
pub named_more : (test : Key → Bool) (keys all : List Key) (left rest : Rows) (row : Key × Value) (whole : List Key)
    → left ≡ row ∷ rest → all ≡ keys ++ filter test (row.0 ∷ []) → keys ++ filter test (keys_of left) ≡ whole
    → all ++ filter test (keys_of rest) ≡ whole
named_more test keys all left rest row whole first more before =
    rw more (append_assoc keys (filter test (row.0 ∷ [])) (filter test (keys_of rest)))
    ∙ (ap (λ (last : List Key). keys ++ last) (by (test row.0))
    ∙ (ap (λ (rows : Rows). keys ++ filter test (keys_of rows)) (sym first) ∙ before))
  where
    by : (b : Bool) → cond b (row.0 ∷ []) [] ++ filter test (keys_of rest)
        ≡ cond b (row.0 ∷ filter test (keys_of rest)) (filter test (keys_of rest))
    by true = refl
    by false = refl

-- a key that passes is put, and no other
pub picked_put : (test : Key → Bool) (key : Key) (all all' : BTreeSet Key) → test key ≡ true
    → set.Updates key_cmp all all' key true
    → HasPicked test (λ at. is_eq (key_cmp key at)) all all'
picked_put test key all all' h put at = put.0 at ∙ by (is_eq (key_cmp key at)) refl
  where
    by : (b : Bool) → is_eq (key_cmp key at) ≡ b
        → cond b true (contains key_cmp all at) ≡ (contains key_cmp all at || (test at && b))
    by true e = rw (← one_key key at e, h) (all_true (contains key_cmp all key))
      where
        all_true : (a : Bool) → true ≡ (a || true)
        all_true true = refl
        all_true false = refl
    by false e = keep (contains key_cmp all at) (test at)
      where
        keep : (a t : Bool) → a ≡ (a || (t && false))
        keep true t = refl
        keep false true = refl
        keep false false = refl

pub picked_none : (test : Key → Bool) (key : Key) (all : BTreeSet Key) → test key ≡ false
    → HasPicked test (λ at. is_eq (key_cmp key at)) all all
picked_none test key all h at = by (is_eq (key_cmp key at)) refl
  where
    keep : (a t : Bool) → a ≡ (a || (t && false))
    keep true t = refl
    keep false true = refl
    keep false false = refl

    by : (b : Bool) → is_eq (key_cmp key at) ≡ b → contains key_cmp all at ≡ (contains key_cmp all at || (test at && b))
    by true e = rw (← one_key key at e, h) (keep (contains key_cmp all key) false)
    by false e = keep (contains key_cmp all at) (test at)

-- a key has a row in some span where it is in some span and has a row
span_has : (rows : Rows) (at : Key) (spans : List Span)
    → list_any (λ s. has_row (rows_in rows s) at) spans ≡ (list_any (λ s. is_in s at) spans && has_row rows at)
span_has rows at [] = refl
span_has rows at (s ∷ spans) =
    rw (value_of-rows_in rows s at, span_has rows at spans)
    (spread (is_in s at) (list_any (λ s. is_in s at) spans) (value_of rows at))
  where
    spread : (i m : Bool) (v : Option Value) → (is_some (cond i v None) || (m && is_some v)) ≡ ((i || m) && is_some v)
    spread true true None = refl
    spread true false None = refl
    spread true m (Some x) = refl
    spread false m v = refl

written_case : (l r : Bool) → ((l && r) || (l && true)) ≡ l
written_case true true = refl
written_case true false = refl
written_case false r = refl

unwritten_case : (r : Bool) → ((r && r) || (r && false)) ≡ r
unwritten_case true = refl
unwritten_case false = refl

-- no write is of a key that none of them writes
none_writes : (at : Key) (writes : List Write) → is_written_key writes at ≡ false → NoneWrites at writes
none_writes at [] h = tt
none_writes at (write ∷ writes) h =
    let parts : (is_eq (key_cmp write.key at) ≡ false) × (is_written_key writes at ≡ false) =
    or_parts (is_eq (key_cmp write.key at)) (is_written_key writes at) h in
    (same_key_back at write.key ∙ parts.0, none_writes at writes parts.1)

-- what is picked from the spans and from the written keys is all that is withdrawn
pub all_withdrawn : (draft : Drafted) (declared : Key) (at : Key) → AreSorted draft.rows → withdraws declared ≡ true
    → ((is_withdrawn (drafted_rows draft) declared at && list_any (λ s. has_row (rows_in draft.rows s) at)
    (spans_of declared))
    || (is_withdrawn (drafted_rows draft) declared at && is_written_key draft.writes at))
    ≡ is_withdrawn (drafted_rows draft) declared at
all_withdrawn draft declared at s w = by (names_key declared at) refl (is_written_key draft.writes at) refl
  where
    later : Rows
    later = drafted_rows draft

    unwritten : has_row later at ≡ has_row draft.rows at
        → ((has_row later at && has_row draft.rows at) || (has_row later at && false)) ≡ has_row later at
    unwritten h = rw h (unwritten_case (has_row draft.rows at))

    by : (n : Bool) → names_key declared at ≡ n → (g : Bool) → is_written_key draft.writes at ≡ g
        → (((n && has_row later at) && list_any (λ s. has_row (rows_in draft.rows s) at) (spans_of declared))
        || ((n && has_row later at) && g)) ≡ (n && has_row later at)
    by false e g h = refl
    by true e true h = rw (span_has draft.rows at (spans_of declared), spans_reach declared at w e)
        (written_case (has_row later at) (has_row draft.rows at))
    by true e false h =
        rw (span_has draft.rows at (spans_of declared), spans_reach declared at w e)
        (unwritten (ap is_some (value_of-after-none draft.rows draft.writes at s (none_writes at draft.writes h))))

-- such keys in order are deleted as all rows are that name what is declared
pub withdrawn_all : (later : Rows) (declared : Key) (all : BTreeSet Key) → withdraws declared ≡ true → AreSorted later
    → set.IsOrdered key_cmp all
    → ((at : Key) → contains key_cmp all at ≡ is_withdrawn later declared at)
    → map deleting all.keys ≡ withdrawing later declared
withdrawn_all later declared all w s ordered among =
    picked (names declared) later all.keys s (λ at v. names_by_key declared at v w
    ∙ sym (names_by_key declared at value.Unit w)) ordered
    (λ at. among at ∙ ap (λ b. b && has_row later at) (sym (names_by_key declared at value.Unit w)))
