-- What the owner of a prefix tells: whether it is free, and what takes it from its PID.
use Rattle.std.proofs.Common.{◌≡◌, refl, ap, sym, ◌∙◌}
use Rattle.std.proofs.lemmas.Bool.{and_parts, both_ways, false_from_ne_true}
use Rattle.std.specs.Prelude.{ℕ, Bool, true, false, cond, not, ◌&&◌, ◌||◌, List, [], ◌∷◌, Option, Some, None, is_some}
use Rattle.std.specs.List.{list_any}
use Rattle.std.specs.List.Sorted.{IsStrictlySortedBy}
use Rattle.std.specs.Ordering.{is_eq}
use Rattle.alto_addr.specs.declared.prefix.Prefix.{Prefix}
use Rattle.alto_addr.specs.Order.{prefix_cmp}
use Rattle.alto_rows.specs.declared.key.Key.{Key}
use Rattle.alto_rows.specs.declared.key.Key.TheVariants as key
use Rattle.alto_rows.specs.declared.value.Value.{Value}
use Rattle.alto_rows.specs.declared.value.Value.TheVariants as value
use Rattle.alto_rows.specs.Order.{key_cmp, same_name}
use Rattle.alto_rows.specs.Rows.{Rows, AreSorted, has_row, value_of, with_value}
use Rattle.alto_rows.proofs.OrderLemmas.{equal_tests, key_cmp_itself, one_key, prefix_cmp_exact}
use Rattle.alto_rows.proofs.TouchesLemmas.{one_name, same_name_itself}
use Rattle.alto_rows.proofs.WriteLemmas.{value_of-with_value}
use Rattle.alto_edits.specs.Writes.{deleting, is_free, owns, taking}
use Rattle.alto_edits.proofs.ClosedLemmas.{is_elsewhere, taking-elsewhere}
use Rattle.alto_rules.specs.Draft.{GivesAlone, HasOwner, is_owner}
use Rattle.alto_rules.proofs.PickLemmas.{GoesByKey, picked}

-- ---- whether a prefix is free

-- the key of a prefix in a PID
abbrev key_at : List ℕ → Prefix → List ℕ → Key
key_at net prefix pid = key.Prefix net pid prefix

-- a row that gives a prefix to a PID has its key
record IsGiven (net : List ℕ) (prefix : Prefix) (at : Key) : Type 0 where
  pid : List ℕ
  is : at ≡ key.Prefix net pid prefix

owned_key : (net : List ℕ) (prefix : Prefix) (at : Key) (v : Value) → owns net prefix (at, v) ≡ true
    → IsGiven net prefix at
owned_key net prefix (key.Prefix of pid other) v h =
    let parts : (same_name net of ≡ true) × (is_eq (prefix_cmp prefix other) ≡ true) =
    and_parts (same_name net of) (is_eq (prefix_cmp prefix other)) h in
    record {
      pid = pid;
      is = rw (
        one_name net of parts.0,
        prefix_cmp_exact prefix other (equal_tests (prefix_cmp prefix other) parts.1),
      ) refl;
    }
owned_key net prefix _ v h = cc

-- the key of a prefix is owned
owned_itself : (net pid : List ℕ) (prefix : Prefix) (v : Value) → owns net prefix (key.Prefix net pid prefix, v) ≡ true
unfolding key_cmp
owned_itself net pid prefix v = rw (same_name_itself net) (ap is_eq (key_cmp_itself (key.Prefix [] [] prefix)))

-- a prefix that no PID has isn't given
none_owns : (net : List ℕ) (prefix : Prefix) (rows : Rows)
    → ((pid : List ℕ) → has_row rows (key.Prefix net pid prefix) ≡ false)
    → list_any (owns net prefix) rows ≡ false
none_owns net prefix [] none = refl
none_owns net prefix (row ∷ rows) none = by (λ g. none_owns net prefix rows g) (owns net prefix row) refl
  where
    rest : (pid : List ℕ) → (b : Bool) → is_eq (key_cmp (key.Prefix net pid prefix) row.0) ≡ b
        → has_row (row ∷ rows) (key.Prefix net pid prefix) ≡ false
        → has_row rows (key.Prefix net pid prefix) ≡ false
    rest pid true e h = absurd (both_ways (has_row (row ∷ rows) (key.Prefix net pid prefix)) h (rw e refl))
    rest pid false e h = rw e at h

    by : (((pid : List ℕ) → has_row rows (key.Prefix net pid prefix) ≡ false) → list_any (owns net prefix) rows ≡ false)
        → (b : Bool) → owns net prefix row ≡ b → (b || list_any (owns net prefix) rows) ≡ false
    by below true e =
        let it : IsGiven net prefix row.0 = owned_key net prefix row.0 row.1 e in
        let tie : is_eq (key_cmp (key.Prefix net it.pid prefix) row.0) ≡ true =
        ap (λ (k : Key). is_eq (key_cmp (key.Prefix net it.pid prefix) k)) it.is
        ∙ ap is_eq (key_cmp_itself (key.Prefix net it.pid prefix)) in
        absurd (both_ways (has_row (row ∷ rows) (key.Prefix net it.pid prefix)) (none it.pid) (rw tie refl))
    by below false e =
        below (λ pid. rest pid (is_eq (key_cmp (key.Prefix net pid prefix) row.0)) refl (none pid))

-- a prefix that a PID has is given
some_owns : (net pid : List ℕ) (prefix : Prefix) (rows : Rows) → has_row rows (key.Prefix net pid prefix) ≡ true
    → list_any (owns net prefix) rows ≡ true
some_owns net pid prefix [] h = cc
some_owns net pid prefix (row ∷ rows) h =
    by (λ g. some_owns net pid prefix rows g) (is_eq (key_cmp (key.Prefix net pid prefix) row.0)) refl h
  where
    first : (b : Bool) → b ≡ true → (b || list_any (owns net prefix) rows) ≡ true
    first true e = refl
    first false e = cc

    later : (b : Bool) → list_any (owns net prefix) rows ≡ true → (b || list_any (owns net prefix) rows) ≡ true
    later true e = refl
    later false e = e

    by : (has_row rows (key.Prefix net pid prefix) ≡ true → list_any (owns net prefix) rows ≡ true)
        → (b : Bool) → is_eq (key_cmp (key.Prefix net pid prefix) row.0) ≡ b
        → is_some (cond b (Some row.1) (value_of rows (key.Prefix net pid prefix))) ≡ true
        → list_any (owns net prefix) (row ∷ rows) ≡ true
    by below true e g =
        first (owns net prefix row)
        (rw (← one_key (key.Prefix net pid prefix) row.0 e) (owned_itself net pid prefix row.1))
    by below false e g = later (owns net prefix row) (below g)

-- so its owner tells whether it is free
pub free_owner : (rows : Rows) (net : List ℕ) (prefix : Prefix) (owner : Option (List ℕ))
    → HasOwner rows net prefix owner
    → is_free rows net prefix ≡ not (is_some owner)
free_owner rows net prefix None has = ap not (none_owns net prefix rows has)
free_owner rows net prefix (Some o) has = ap not (some_owns net o prefix rows (has o ∙ same_name_itself o))

-- ---- what takes a prefix from its PID

-- no key and one key are in order
none_sorted : IsStrictlySortedBy key_cmp []
unfolding IsStrictlySortedBy
none_sorted = tt

one_sorted : (at : Key) → IsStrictlySortedBy key_cmp (at ∷ [])
unfolding IsStrictlySortedBy
one_sorted at = (tt, tt)

-- whether a row gives a prefix to another PID goes by its key
elsewhere_by_key : (net pid : List ℕ) (prefix : Prefix) → GoesByKey (is_elsewhere net pid prefix)
elsewhere_by_key net pid prefix (key.Prefix of other given) v = refl
elsewhere_by_key net pid prefix _ v = refl

-- a key that gives a prefix to another PID, which owns it
record IsTaken (net pid : List ℕ) (prefix : Prefix) (owner : Option (List ℕ)) (at : Key) : Type 0 where
  other : List ℕ
  is : at ≡ key.Prefix net other prefix
  owned : is_owner owner other ≡ true
  apart : is_eq (key_cmp (key.Prefix net pid prefix) (key.Prefix net other prefix)) ≡ false

taken_key : (rows : Rows) (net pid : List ℕ) (prefix : Prefix) (owner : Option (List ℕ)) (at : Key)
    → HasOwner rows net prefix owner
    → (is_elsewhere net pid prefix (at, value.Unit) && has_row rows at) ≡ true → IsTaken net pid prefix owner at
taken_key rows net pid prefix owner at has h =
    let both : (is_elsewhere net pid prefix (at, value.Unit) ≡ true) × (has_row rows at ≡ true) =
    and_parts (is_elsewhere net pid prefix (at, value.Unit)) (has_row rows at) h in
    let parts : (owns net prefix (at, value.Unit) ≡ true)
    × (not (is_eq (key_cmp (key.Prefix net pid prefix) at)) ≡ true) =
    and_parts (owns net prefix (at, value.Unit)) (not (is_eq (key_cmp (key.Prefix net pid prefix) at))) both.0 in
    let it : IsGiven net prefix at = owned_key net prefix at value.Unit parts.0 in
    record {
      other = it.pid;
      is = it.is;
      owned = sym (has it.pid) ∙ (rw it.is at both.1);
      apart = not_true (is_eq (key_cmp (key.Prefix net pid prefix) (key.Prefix net it.pid prefix)))
          (rw it.is at parts.1);
    }
  where
    not_true : (b : Bool) → not b ≡ true → b ≡ false
    not_true true e = cc
    not_true false e = refl

-- where none has it, or the PID itself, nothing is taken
pub taking_none : (rows : Rows) (net pid : List ℕ) (prefix : Prefix) (owner : Option (List ℕ)) → AreSorted rows
    → HasOwner rows net prefix owner
    → ((other : List ℕ) → is_owner owner other ≡ true → other ≡ pid) → taking rows net pid prefix ≡ []
taking_none rows net pid prefix owner s has mine =
    taking-elsewhere rows net pid prefix
    ∙ sym (picked (is_elsewhere net pid prefix) rows [] s (elsewhere_by_key net pid prefix) none_sorted
    (λ at. sym (false_from_ne_true (is_elsewhere net pid prefix (at, value.Unit) && has_row rows at) (λ h.
    let it : IsTaken net pid prefix owner at = taken_key rows net pid prefix owner at has h in
    both_ways (is_eq (key_cmp (key.Prefix net pid prefix) (key.Prefix net it.other prefix))) it.apart
    (rw (mine it.other it.owned) (ap is_eq (key_cmp_itself (key.Prefix net pid prefix))))))))

-- where another PID has it, its row is deleted
pub taking_one : (rows : Rows) (net pid other : List ℕ) (prefix : Prefix) → AreSorted rows
    → HasOwner rows net prefix (Some other)
    → same_name other pid ≡ false → taking rows net pid prefix ≡ deleting (key.Prefix net other prefix) ∷ []
taking_one rows net pid other prefix s has apart =
    taking-elsewhere rows net pid prefix
    ∙ sym (picked (is_elsewhere net pid prefix) rows (key.Prefix net other prefix ∷ [])
    s (elsewhere_by_key net pid prefix) (one_sorted (key.Prefix net other prefix))
    (λ at. by at (is_eq (key_cmp at (key.Prefix net other prefix))) refl))
  where
    two : is_eq (key_cmp (key.Prefix net pid prefix) (key.Prefix net other prefix)) ≡ false
    two = false_from_ne_true (is_eq (key_cmp (key.Prefix net pid prefix) (key.Prefix net other prefix))) (λ e.
        let same : key.Prefix net pid prefix ≡ key.Prefix net other prefix =
        one_key (key.Prefix net pid prefix) (key.Prefix net other prefix) e in
        let pids : pid ≡ other = cc in
        both_ways (same_name other pid) apart (rw pids (same_name_itself other)))

    by : (at : Key) (b : Bool) → is_eq (key_cmp at (key.Prefix net other prefix)) ≡ b
        → (b || false) ≡ (is_elsewhere net pid prefix (at, value.Unit) && has_row rows at)
    by at true e =
        rw (
          one_key at (key.Prefix net other prefix) e,
          owned_itself net other prefix value.Unit,
          two,
          has other,
          same_name_itself other,
        ) refl
    by at false e =
        sym (false_from_ne_true (is_elsewhere net pid prefix (at, value.Unit) && has_row rows at) (λ h.
        let it : IsTaken net pid prefix (Some other) at = taken_key rows net pid prefix (Some other) at has h in
        both_ways (is_eq (key_cmp at (key.Prefix net other prefix))) e
        (ap (λ (k : Key). is_eq (key_cmp k (key.Prefix net other prefix)))
        (it.is ∙ ap (key_at net prefix) (sym (one_name other it.other it.owned)))
        ∙ ap is_eq (key_cmp_itself (key.Prefix net other prefix)))))

-- ---- that no other PID has a prefix

gives_alone : (rows : Rows) (net pid : List ℕ) (prefix : Prefix)
    → ((q : List ℕ) → has_row rows (key.Prefix net q prefix) ≡ true → q ≡ pid)
    → GivesAlone rows (key.Prefix net pid prefix)
gives_alone rows net pid prefix alone n p q y e h =
    let nets : net ≡ n = cc in
    let pids : pid ≡ p = cc in
    let prefixes : prefix ≡ y = cc in
    alone q (rw (nets, prefixes) h) ∙ pids

-- where none has it, or the PID itself
pub alone_mine : (rows : Rows) (net pid : List ℕ) (prefix : Prefix) (owner : Option (List ℕ))
    → HasOwner rows net prefix owner
    → ((other : List ℕ) → is_owner owner other ≡ true → other ≡ pid) → GivesAlone rows (key.Prefix net pid prefix)
alone_mine rows net pid prefix owner has mine = gives_alone rows net pid prefix (λ q h. mine q (sym (has q) ∙ h))

-- where its owner's row is deleted
pub alone_taken : (rows : Rows) (net pid other : List ℕ) (prefix : Prefix) → AreSorted rows
    → HasOwner rows net prefix (Some other)
    → GivesAlone (with_value rows (key.Prefix net other prefix) None) (key.Prefix net pid prefix)
alone_taken rows net pid other prefix s has =
    gives_alone (with_value rows (key.Prefix net other prefix) None) net pid prefix each
  where
    by : (q : List ℕ) (b : Bool) → is_eq (key_cmp (key.Prefix net q prefix) (key.Prefix net other prefix)) ≡ b
        → is_some (cond b None (value_of rows (key.Prefix net q prefix))) ≡ true → q ≡ pid
    by q true e h = cc
    by q false e h =
        let same : other ≡ q = one_name other q (sym (has q) ∙ h) in
        absurd (both_ways (is_eq (key_cmp (key.Prefix net q prefix) (key.Prefix net other prefix))) e
        (rw same (ap is_eq (key_cmp_itself (key.Prefix net q prefix)))))

    each : (q : List ℕ) → has_row (with_value rows (key.Prefix net other prefix) None) (key.Prefix net q prefix) ≡ true
        → q ≡ pid
    each q h =
        by q (is_eq (key_cmp (key.Prefix net q prefix) (key.Prefix net other prefix))) refl
        (sym (ap is_some (value_of-with_value rows (key.Prefix net other prefix) None (key.Prefix net q prefix) s)) ∙ h)
