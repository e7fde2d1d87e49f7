-- A prefix stays in one PID of a network at most under a batch where each prefix that it gives has no other.
use Rattle.std.proofs.Common.{◌≡◌, refl, ap, sym, ◌∙◌}
use Rattle.std.proofs.lemmas.Bool.{both_ways, not_from_true, or_from, or_parts}
use Rattle.std.proofs.lemmas.List.Folds.{list_any-append}
use Rattle.std.proofs.Common.{inl, inr}
use Rattle.std.specs.Prelude.{ℕ, Bool, true, false, not, cond, ◌||◌, ◌⊎◌, Decides, List, [], ◌∷◌, ◌++◌, Option, Some}
use Rattle.std.specs.Prelude.{None, is_some}
use Rattle.std.specs.BTreeMap.{BTreeMap, get, is_at}
use Rattle.std.specs.BTreeSet.{BTreeSet, contains}
use Rattle.std.specs.List.{list_any}
use Rattle.std.specs.Ordering.{is_eq}
use Rattle.alto_addr.specs.declared.prefix.Prefix.{Prefix}
use Rattle.alto_rows.specs.declared.key.Key.{Key}
use Rattle.alto_rows.specs.declared.key.Key.TheVariants as key
use Rattle.alto_rows.specs.declared.span.Span.TheVariants as span
use Rattle.alto_rows.specs.declared.value.Value.{Value}
use Rattle.alto_rows.specs.declared.write.Write.{Write}
use Rattle.alto_rows.specs.Good.{AreGood}
use Rattle.alto_rows.specs.Order.{key_cmp, name_cmp, same_name}
use Rattle.alto_rows.specs.Rows.{Rows, AreSorted, value_of, has_row, after}
use Rattle.alto_rows.specs.Span.{is_in, rows_in}
use Rattle.alto_rows.proofs.OrderLemmas.{name_cmp_itself, one_key}
use Rattle.alto_rows.proofs.TouchesLemmas.{one_name, same_name_itself, same_name_ties}
use Rattle.alto_rows.proofs.WithinLemmas.{sorted_rows_in, value_of-rows_in}
use Rattle.alto_rows.proofs.WriteLemmas.{sorted_after}
use Rattle.batch_check.specs.declared.place.Place.{Place}
use Rattle.batch_check.specs.Named.{is_written_key}
use Rattle.batch_check.specs.Owners.{AreGiven, HasGiven, HasNetGiven, HasNets, HaveOnePid, is_elsewhere, is_other}
use Rattle.batch_check.specs.Owners.{is_shared_in, owner_given, owner_in, place_cmp, place_of}
use Rattle.batch_check.proofs.DeclaredLemmas.{all_fail, fails_at, unwritten}
use Rattle.batch_check.proofs.NumberLemmas.{HasValue, has_value}
use Rattle.batch_check.proofs.Orders.{one_place, place_itself}

-- ---- a prefix in one PID alone

-- what the map says of the prefix is that PID, in rows that have it
one_owner : (rows : Rows) (writes : List Write) (owners : BTreeMap Place (List ℕ)) (net pid : List ℕ) (prefix : Prefix)
    → HaveOnePid rows
    → AreGiven rows writes owners → has_row rows (key.Prefix net pid prefix) ≡ true → (o : Option (List ℕ))
    → get place_cmp owners (place_of net prefix) ≡ o
    → is_other o pid ≡ false
one_owner rows writes owners net pid prefix one given h None e = refl
one_owner rows writes owners net pid prefix one given h (Some owner) e =
    let same : owner ≡ pid = one net owner pid prefix (given.had net owner prefix e) h in
    rw same (not_from_true (same_name pid pid) (same_name_itself pid))

-- so no row gives its prefix to another
none_elsewhere : (rows : Rows) (writes : List Write) (owners : BTreeMap Place (List ℕ)) → HaveOnePid rows
    → AreGiven rows writes owners
    → (at : Key) → has_row rows at ≡ true → is_elsewhere owners at ≡ false
none_elsewhere rows writes owners one given (key.Prefix net pid prefix) h =
    one_owner rows writes owners net pid prefix one given h (get place_cmp owners (place_of net prefix)) refl
none_elsewhere rows writes owners one given _ h = refl

-- a row of a span is one of all
was_there : (rows : Rows) (net : List ℕ) (at : Key) (v : Value)
    → value_of (rows_in rows (span.Prefixes net)) at ≡ Some v → has_row rows at ≡ true
was_there rows net at v is = by (is_in (span.Prefixes net) at) (sym (value_of-rows_in rows (span.Prefixes net) at) ∙ is)
  where
    by : (b : Bool) → cond b (value_of rows at) None ≡ Some v → has_row rows at ≡ true
    by true e = ap is_some e
    by false e = cc

none_shared : (rows : Rows) (writes : List Write) (owners : BTreeMap Place (List ℕ)) (nets : List (List ℕ))
    → AreSorted rows → HaveOnePid rows
    → AreGiven rows writes owners → list_any (is_shared_in rows owners) nets ≡ false
none_shared rows writes owners [] s one given = refl
none_shared rows writes owners (net ∷ nets) s one given =
    or_from _ _
    (all_fail (λ row. is_elsewhere owners row.0) (rows_in rows (span.Prefixes net))
    (sorted_rows_in rows (span.Prefixes net) s)
    (λ at v is. none_elsewhere rows writes owners one given at (was_there rows net at v is)))
    (none_shared rows writes owners nets s one given)

-- ---- and the other way

-- of networks none of which has such a prefix each in the set has none
no_net : (test : List ℕ → Bool) (nets : List (List ℕ)) (net : List ℕ) → list_any test nets ≡ false
    → list_any (is_at (name_cmp net)) nets ≡ true
    → test net ≡ false
no_net test [] net h g = cc
no_net test (first ∷ nets) net h g = by (λ k f. no_net test nets net k f) (is_eq (name_cmp net first)) refl g
  where
    parts : (test first ≡ false) × (list_any test nets ≡ false)
    parts = or_parts (test first) (list_any test nets) h

    by : (list_any test nets ≡ false → list_any (is_at (name_cmp net)) nets ≡ true → test net ≡ false) → (b : Bool)
        → is_eq (name_cmp net first) ≡ b
        → (b || list_any (is_at (name_cmp net)) nets) ≡ true → test net ≡ false
    by more true e f = rw (one_name net first (same_name_ties net first ∙ e)) parts.0
    by more false e f = more parts.1 f

-- a prefix of a network where none is elsewhere is in the PID of the map
in_map : (rows : Rows) (owners : BTreeMap Place (List ℕ)) (net pid owner : List ℕ) (prefix : Prefix)
    → is_shared_in rows owners net ≡ false
    → get place_cmp owners (place_of net prefix) ≡ Some owner
    → has_row rows (key.Prefix net pid prefix) ≡ true → owner ≡ pid
in_map rows owners net pid owner prefix none is h =
    let there : HasValue rows (key.Prefix net pid prefix) = has_value rows (key.Prefix net pid prefix) h in
    let out : is_elsewhere owners (key.Prefix net pid prefix) ≡ false =
    fails_at (λ row. is_elsewhere owners row.0) (rows_in rows (span.Prefixes net))
    (key.Prefix net pid prefix) there.v none
    (value_of-rows_in rows (span.Prefixes net) (key.Prefix net pid prefix) ∙ rw (same_name_itself net) there.is) in
    one_name owner pid (by (same_name owner pid) (ap (λ (o : Option (List ℕ)). is_other o pid) (sym is) ∙ out))
  where
    by : (b : Bool) → not b ≡ false → b ≡ true
    by true e = refl
    by false e = cc

-- a prefix that a write gives to a PID is in no other
given_alone : (rows : Rows) (writes : List Write) (owners : BTreeMap Place (List ℕ)) (nets : BTreeSet (List ℕ))
    (net pid other : List ℕ) (prefix : Prefix)
    → AreGiven rows writes owners → HasNets rows writes nets → list_any (is_shared_in rows owners) nets.keys ≡ false
    → is_written_key writes (key.Prefix net pid prefix) ≡ true → has_row rows (key.Prefix net pid prefix) ≡ true
    → has_row rows (key.Prefix net other prefix) ≡ true → pid ≡ other
given_alone rows writes owners nets net pid other prefix given has none w h g =
    by (get place_cmp owners (place_of net prefix)) refl (given.all net pid prefix w h)
  where
    here : is_shared_in rows owners net ≡ false
    here = no_net (is_shared_in rows owners) nets.keys net none (has net pid prefix w h)

    by : (o : Option (List ℕ)) → get place_cmp owners (place_of net prefix) ≡ o → is_some o ≡ true → pid ≡ other
    by None e f = cc
    by (Some owner) e f = sym (in_map rows owners net pid owner prefix here e h)
        ∙ in_map rows owners net other owner prefix here e g

-- so a prefix is in one PID at most where the rows before a batch were so
one_after : (rows : Rows) (writes : List Write) (owners : BTreeMap Place (List ℕ)) (nets : BTreeSet (List ℕ))
    → AreGood rows
    → AreGiven (after rows writes) writes owners → HasNets (after rows writes) writes nets
    → list_any (is_shared_in (after rows writes) owners) nets.keys ≡ false → HaveOnePid (after rows writes)
one_after rows writes owners nets good given has none net first second prefix f s =
    by (is_written_key writes (key.Prefix net first prefix))
    refl (is_written_key writes (key.Prefix net second prefix)) refl
  where
    before : (pid : List ℕ) → is_written_key writes (key.Prefix net pid prefix) ≡ false
        → has_row (after rows writes) (key.Prefix net pid prefix) ≡ true
        → has_row rows (key.Prefix net pid prefix) ≡ true
    before pid out h = ap is_some (sym (unwritten rows writes (key.Prefix net pid prefix) good.sorted out)) ∙ h

    by : (v : Bool) → is_written_key writes (key.Prefix net first prefix) ≡ v → (w : Bool)
        → is_written_key writes (key.Prefix net second prefix) ≡ w
        → first ≡ second
    by true e w g = given_alone (after rows writes) writes owners nets net first second prefix given has none e f s
    by false e true g = sym (given_alone (after rows writes) writes owners nets net second first prefix
        given has none g s f)
    by false e false g = good.one_pid net first second prefix (before first e f) (before second g s)

-- what is told of the networks decides
pub one_told : (rows next : Rows) (writes : List Write) (owners : BTreeMap Place (List ℕ)) (nets : BTreeSet (List ℕ))
    (some : Bool) → AreGood rows
    → next ≡ after rows writes → AreGiven next writes owners → HasNets next writes nets
    → some ≡ list_any (is_shared_in next owners) nets.keys
    → Decides (not some) (HaveOnePid next)
one_told rows next writes owners nets some good is given has told = by some refl
  where
    by : (b : Bool) → some ≡ b → Decides (not b) (HaveOnePid next)
    by true e = (
      λ h. absurd (both_ways false refl h),
      λ one. absurd (both_ways (list_any (is_shared_in next owners) nets.keys)
          (none_shared next writes owners nets.keys (rw is (sorted_after rows writes good.sorted)) one given)
          (sym told ∙ e)),
    )
    by false e = (
      λ h. rw is (one_after rows writes owners nets good (rw is at given) (rw is at has)
          (ap (λ (r : Rows). list_any (is_shared_in r owners) nets.keys) (sym is) ∙ (sym told ∙ e))),
      λ one. refl,
    )

-- ---- the map and the set

-- a key is written by the writes so far or the next
written_more : (writes : List Write) (write : Write) (at : Key)
    → is_written_key (writes ++ write ∷ []) at ≡ (is_written_key writes at || (is_eq (key_cmp at write.key) || false))
written_more writes write at = list_any-append (λ (one : Write). is_eq (key_cmp at one.key)) writes (write ∷ [])

-- a key that is written and has a row is written before, or the write's key tells its owner
record IsNext (rows : Rows) (write : Write) (net pid : List ℕ) (prefix : Prefix) : Type 0 where
  told : owner_in rows write.key ≡ Some (place_of net prefix, pid)

next_or_before : (rows : Rows) (writes : List Write) (write : Write) (net pid : List ℕ) (prefix : Prefix)
    → is_written_key (writes ++ write ∷ []) (key.Prefix net pid prefix) ≡ true
    → has_row rows (key.Prefix net pid prefix) ≡ true
    → (is_written_key writes (key.Prefix net pid prefix) ≡ true) ⊎ IsNext rows write net pid prefix
next_or_before rows writes write net pid prefix w h =
    by (is_written_key writes (key.Prefix net pid prefix))
    refl (is_eq (key_cmp (key.Prefix net pid prefix) write.key)) refl
    (sym (written_more writes write (key.Prefix net pid prefix)) ∙ w)
  where
    at_next : (at : Key) → key.Prefix net pid prefix ≡ at → owner_in rows at ≡ Some (place_of net prefix, pid)
    at_next at e = rw (← e, h) refl

    by : (b : Bool) → is_written_key writes (key.Prefix net pid prefix) ≡ b → (c : Bool)
        → is_eq (key_cmp (key.Prefix net pid prefix) write.key) ≡ c
        → (b || (c || false)) ≡ true → (is_written_key writes (key.Prefix net pid prefix) ≡ true)
        ⊎ IsNext rows write net pid prefix
    by true e c f g = inl e
    by false e true f g = inr record { told = at_next write.key (one_key (key.Prefix net pid prefix) write.key f) }
    by false e false f g = cc

-- two pairs that are there are one
one_pair : (a b : Place × List ℕ) → Some a ≡ Some b → a ≡ b
one_pair a b h = cc

-- a pair that is there isn't missing
no_pair : (a : Place × List ℕ) → Some a ≡ None → ⊥
no_pair a h = cc

-- what the next write's key tells has a row
told_has : (rows : Rows) (at : Key) (place : Place) (owner : List ℕ) → owner_in rows at ≡ Some (place, owner)
    → has_row rows (key.Prefix place.net owner place.prefix) ≡ true
told_has rows at place owner h = by (has_row rows at) refl h
  where
    here : (at : Key) → owner_given at ≡ Some (place, owner) → key.Prefix place.net owner place.prefix ≡ at
    here (key.Prefix net pid prefix) e =
        let pair : (place_of net prefix, pid) ≡ (place, owner) = one_pair (place_of net prefix, pid) (place, owner) e in
        rw (← ap (λ (p : Place × List ℕ). p.0) pair, ← ap (λ (p : Place × List ℕ). p.1) pair) refl
    here _ e = cc

    by : (b : Bool) → has_row rows at ≡ b → cond b (owner_given at) None ≡ Some (place, owner)
        → has_row rows (key.Prefix place.net owner place.prefix) ≡ true
    by true e f = rw (here at f) e
    by false e f = cc

-- the map gains what the next write gives
given_by : (rows : Rows) (writes : List Write) (write : Write) (owners owners' : BTreeMap Place (List ℕ))
    (o : Option (Place × List ℕ))
    → owner_in rows write.key ≡ o → AreGiven rows writes owners → HasGiven o owners owners'
    → AreGiven rows (writes ++ write ∷ []) owners'
given_by rows writes write owners owners' None e given more = rw more record {
  had = given.had;
  all = λ net pid prefix w h. by net pid prefix h (next_or_before rows writes write net pid prefix w h);
}
  where
    by : (net pid : List ℕ) (prefix : Prefix) → has_row rows (key.Prefix net pid prefix) ≡ true
        → (is_written_key writes (key.Prefix net pid prefix) ≡ true) ⊎ IsNext rows write net pid prefix
        → is_some (get place_cmp owners (place_of net prefix)) ≡ true
    by net pid prefix h (inl w) = given.all net pid prefix w h
    by net pid prefix h (inr next) =
        absurd (no_pair (place_of net prefix, pid) (sym next.told ∙ e))
given_by rows writes write owners owners' (Some (place, owner)) e given more = record {
  had = λ net pid prefix g. had net pid prefix (is_eq (place_cmp place (place_of net prefix)))
      refl (sym (more.0 (place_of net prefix)) ∙ g);
  all = λ net pid prefix w h. rw (more.0 (place_of net prefix))
      (kept net pid prefix h (is_eq (place_cmp place (place_of net prefix)))
      refl (next_or_before rows writes write net pid prefix w h));
}
  where
    had : (net pid : List ℕ) (prefix : Prefix) (b : Bool) → is_eq (place_cmp place (place_of net prefix)) ≡ b
        → cond b (Some owner) (get place_cmp owners (place_of net prefix)) ≡ Some pid
        → has_row rows (key.Prefix net pid prefix) ≡ true
    had net pid prefix true f g =
        let same : (place.net ≡ net) × (place.prefix ≡ prefix) = one_place place.net net place.prefix prefix f in
        let own : owner ≡ pid = cc in
        rw (← same.0, ← same.1, ← own) (told_has rows write.key place owner e)
    had net pid prefix false f g = given.had net pid prefix g

    kept : (net pid : List ℕ) (prefix : Prefix) → has_row rows (key.Prefix net pid prefix) ≡ true → (b : Bool)
        → is_eq (place_cmp place (place_of net prefix)) ≡ b
        → (is_written_key writes (key.Prefix net pid prefix) ≡ true) ⊎ IsNext rows write net pid prefix
        → is_some (cond b (Some owner) (get place_cmp owners (place_of net prefix))) ≡ true
    kept net pid prefix h true f w = refl
    kept net pid prefix h false f (inl w) = given.all net pid prefix w h
    kept net pid prefix h false f (inr next) =
        let same : Some (place, owner) ≡ Some (place_of net prefix, pid) = sym e ∙ next.told in
        let places : place ≡ place_of net prefix =
        ap (λ (p : Place × List ℕ). p.0) (one_pair (place, owner) (place_of net prefix, pid) same) in
        absurd (both_ways (is_eq (place_cmp place (place_of net prefix)))
        f (ap (λ (p : Place). is_eq (place_cmp place p)) (sym places) ∙ place_itself place))

pub given_more : (rows : Rows) (writes : List Write) (write : Write) (owners owners' : BTreeMap Place (List ℕ))
    → AreGiven rows writes owners
    → HasGiven (owner_in rows write.key) owners owners' → AreGiven rows (writes ++ write ∷ []) owners'
given_more rows writes write owners owners' given more =
    given_by rows writes write owners owners' (owner_in rows write.key) refl given more

-- and the set its network
nets_by : (rows : Rows) (writes : List Write) (write : Write) (nets nets' : BTreeSet (List ℕ))
    (o : Option (Place × List ℕ))
    → owner_in rows write.key ≡ o → HasNets rows writes nets → HasNetGiven o nets nets'
    → HasNets rows (writes ++ write ∷ []) nets'
nets_by rows writes write nets nets' None e has more net pid prefix w h =
    rw more (by (next_or_before rows writes write net pid prefix w h))
  where
    by : (is_written_key writes (key.Prefix net pid prefix) ≡ true) ⊎ IsNext rows write net pid prefix
        → contains name_cmp nets net ≡ true
    by (inl v) = has net pid prefix v h
    by (inr next) =
        absurd (no_pair (place_of net prefix, pid) (sym next.told ∙ e))
nets_by rows writes write nets nets' (Some (place, owner)) e has more net pid prefix w h =
    rw (more.0 net) (by (is_eq (name_cmp place.net net)) refl (next_or_before rows writes write net pid prefix w h))
  where
    by : (b : Bool) → is_eq (name_cmp place.net net) ≡ b
        → (is_written_key writes (key.Prefix net pid prefix) ≡ true) ⊎ IsNext rows write net pid prefix
        → cond b true (contains name_cmp nets net) ≡ true
    by true f v = refl
    by false f (inl v) = has net pid prefix v h
    by false f (inr next) =
        let same : Some (place, owner) ≡ Some (place_of net prefix, pid) = sym e ∙ next.told in
        let places : place ≡ place_of net prefix =
        ap (λ (p : Place × List ℕ). p.0) (one_pair (place, owner) (place_of net prefix, pid) same) in
        absurd (both_ways (is_eq (name_cmp place.net net)) f
        (ap (λ (p : Place). is_eq (name_cmp place.net p.net)) (sym places) ∙ ap is_eq (name_cmp_itself place.net)))

pub nets_more : (rows : Rows) (writes : List Write) (write : Write) (nets nets' : BTreeSet (List ℕ))
    → HasNets rows writes nets
    → HasNetGiven (owner_in rows write.key) nets nets' → HasNets rows (writes ++ write ∷ []) nets'
nets_more rows writes write nets nets' has more =
    nets_by rows writes write nets nets' (owner_in rows write.key) refl has more

-- no writes give nothing
pub given_none : (rows : Rows) (owners : BTreeMap Place (List ℕ)) → owners.entries ≡ [] → AreGiven rows [] owners
given_none rows owners none = record {
  had = λ net pid prefix h. absurd (nothing (get place_cmp owners (place_of net prefix)) (rw none refl) pid h);
  all = λ net pid prefix w h. cc;
}
  where
    nothing : (o : Option (List ℕ)) → o ≡ None → (pid : List ℕ) → o ≡ Some pid → ⊥
    nothing o e pid h =
        let both : None ≡ Some pid = sym e ∙ h in
        cc
