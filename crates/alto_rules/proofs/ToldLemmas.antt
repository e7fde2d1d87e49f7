-- The owners of prefixes that rows tell.
use Rattle.std.proofs.Common.{◌≡◌, refl, ap, sym, ◌∙◌, subst}
use Rattle.std.proofs.lemmas.Bool.{both_ways, false_from_ne_true}
use Rattle.std.specs.Prelude.{ℕ, Bool, true, false, cond, not, ◌&&◌, List, [], ◌∷◌, Option, Some, None, is_some}
use Rattle.std.specs.Prelude.{option_map, map}
use Rattle.std.specs.BTreeMap.{BTreeMap, get}
use Rattle.std.specs.BTreeSet as set
use Rattle.std.specs.BTreeSet.{BTreeSet, contains}
use Rattle.std.specs.List.{filter_map}
use Rattle.std.specs.Ordering.{is_eq}
use Rattle.alto_addr.specs.declared.prefix.Prefix.{Prefix}
use Rattle.alto_addr.specs.Order.{prefix_cmp}
use Rattle.alto_rows.specs.declared.key.Key.{Key}
use Rattle.alto_rows.specs.declared.key.Key.TheVariants as key
use Rattle.alto_rows.specs.declared.span.Span.{Span}
use Rattle.alto_rows.specs.declared.span.Span.TheVariants as span
use Rattle.alto_rows.specs.declared.value.Value.{Value}
use Rattle.alto_rows.specs.Order.{key_cmp, name_cmp, same_name}
use Rattle.alto_rows.specs.Prefixes.{prefix_declared, prefixes_in}
use Rattle.alto_rows.specs.Rows.{Rows, has_row, value_of}
use Rattle.alto_rows.specs.Span.{is_in, rows_in}
use Rattle.alto_rows.proofs.OrderLemmas.{key_cmp_itself, one_key}
use Rattle.alto_rows.proofs.TouchesLemmas.{both_ties, one_name, same_name_itself, same_name_ties}
use Rattle.alto_rows.proofs.WithinLemmas.{value_of-rows_in}
use Rattle.alto_rules.specs.declared.place.Place.{Place}
use Rattle.alto_rules.specs.Draft.{HasOwner, HaveOneOwner, is_owner}
use Rattle.alto_rules.specs.Owners.{AreOwners, HasFilled, kept_or, owner_among, owner_from}
use Rattle.alto_rules.specs.Owners.{owner_told, place_cmp, place_of, placed}
use Rattle.alto_rules.proofs.Orders.{one_place, place_back, place_itself}

-- ---- whether a key is that of a prefix

-- the key of a prefix in a PID
abbrev given : List ℕ → Prefix → List ℕ → Key
given net prefix pid = key.Prefix net pid prefix

-- keys of prefixes that are one are of one place and one PID
same_given : (n m p q : List ℕ) (x y : Prefix) → key.Prefix n p x ≡ key.Prefix m q y → (n ≡ m) × (p ≡ q) × (x ≡ y)
same_given n m p q x y h =
    let nets : n ≡ m = cc in
    let pids : p ≡ q = cc in
    let prefixes : x ≡ y = cc in
    (nets, pids, prefixes)

-- keys of prefixes at two places are two
pub apart_places : (n m p q : List ℕ) (x y : Prefix) → is_eq (place_cmp (place_of n x) (place_of m y)) ≡ false
    → is_eq (key_cmp (key.Prefix m q y) (key.Prefix n p x)) ≡ false
apart_places n m p q x y h =
    false_from_ne_true (is_eq (key_cmp (key.Prefix m q y) (key.Prefix n p x))) (λ e.
    let same : (m ≡ n) × (q ≡ p) × (y ≡ x) = same_given m n q p y x (one_key (key.Prefix m q y) (key.Prefix n p x) e) in
    both_ways (is_eq (place_cmp (place_of n x) (place_of m y))) h (rw (same.0, same.2) (place_itself (place_of n x))))

-- of two PIDs that aren't one, the keys aren't
pub apart_pids : (net p q : List ℕ) (x : Prefix) → same_name q p ≡ false
    → is_eq (key_cmp (key.Prefix net p x) (key.Prefix net q x)) ≡ false
apart_pids net p q x h =
    false_from_ne_true (is_eq (key_cmp (key.Prefix net p x) (key.Prefix net q x))) (λ e.
    let same : (net ≡ net) × (p ≡ q) × (x ≡ x) =
    same_given net net p q x x (one_key (key.Prefix net p x) (key.Prefix net q x) e) in
    both_ways (same_name q p) h (rw same.1 (same_name_itself q)))

-- where one PID alone may have a prefix, another hasn't
pub another_not : (rows : Rows) (net p q : List ℕ) (x : Prefix) → (has_row rows (key.Prefix net p x) ≡ true → p ≡ q)
    → same_name q p ≡ false
    → has_row rows (key.Prefix net p x) ≡ false
another_not rows net p q x alone h =
    false_from_ne_true (has_row rows (key.Prefix net p x))
    (λ e. both_ways (same_name q p) h (rw (alone e) (same_name_itself q)))

-- ---- the owners that rows tell

-- the prefix that a row gives a PID, and this PID
abbrev owner_in : Key × Value → Option (Place × List ℕ)
owner_in (key.Prefix net pid prefix, v) = Some (place_of net prefix, pid)
owner_in _ = None

-- the owner that rows tell of a prefix
abbrev told_in : Rows → Place → Option (List ℕ)
told_in rows at = owner_told (filter_map owner_in rows) at

-- what is behind a first row has one PID for a prefix too
rest_one : (row : Key × Value) (rows : Rows) → HaveOneOwner (row ∷ rows) → HaveOneOwner rows
rest_one row rows one net first second prefix f s =
    one net first second prefix (had (key.Prefix net first prefix) f) (had (key.Prefix net second prefix) s)
  where
    had : (at : Key) → has_row rows at ≡ true → has_row (row ∷ rows) at ≡ true
    had at h = by (is_eq (key_cmp at row.0)) refl
      where
        by : (b : Bool) → is_eq (key_cmp at row.0) ≡ b → has_row (row ∷ rows) at ≡ true
        by true e = rw e refl
        by false e = rw e h

-- the first row has its key
first_has : (at : Key) (v : Value) (rows : Rows) → has_row ((at, v) ∷ rows) at ≡ true
first_has at v rows = rw (key_cmp_itself at) refl

-- the PID of the first row has its prefix, and no other
first_owner : (net p pid : List ℕ) (x : Prefix) (v : Value) (rows : Rows)
    → HaveOneOwner ((key.Prefix net p x, v) ∷ rows)
    → has_row ((key.Prefix net p x, v) ∷ rows) (key.Prefix net pid x) ≡ same_name p pid
first_owner net p pid x v rows one = by (same_name p pid) refl
  where
    by : (b : Bool) → same_name p pid ≡ b → has_row ((key.Prefix net p x, v) ∷ rows) (key.Prefix net pid x) ≡ b
    by true e =
        subst (λ (q : List ℕ). has_row ((key.Prefix net p x, v) ∷ rows) (key.Prefix net q x) ≡ true) (one_name p pid e)
        (first_has (key.Prefix net p x) v rows)
    by false e =
        another_not ((key.Prefix net p x, v) ∷ rows) net pid p x
        (λ h. one net pid p x h (first_has (key.Prefix net p x) v rows)) e

-- behind a row of another key
other_row : (at other : Key) (v : Value) (rows : Rows) → is_eq (key_cmp at other) ≡ false
    → has_row ((other, v) ∷ rows) at ≡ has_row rows at
other_row at other v rows h = rw h refl

-- rows of which each prefix has one PID tell it
told_prefix : (n p : List ℕ) (x : Prefix) (v : Value) (rows : Rows) (net pid : List ℕ) (prefix : Prefix)
    → HaveOneOwner ((key.Prefix n p x, v) ∷ rows)
    → has_row rows (key.Prefix net pid prefix) ≡ is_owner (told_in rows (place_of net prefix)) pid
    → has_row ((key.Prefix n p x, v) ∷ rows) (key.Prefix net pid prefix)
    ≡ is_owner (told_in ((key.Prefix n p x, v) ∷ rows) (place_of net prefix)) pid
told_prefix n p x v rows net pid prefix one below = by (is_eq (place_cmp (place_of net prefix) (place_of n x))) refl
  where
    by : (b : Bool) → is_eq (place_cmp (place_of net prefix) (place_of n x)) ≡ b
        → has_row ((key.Prefix n p x, v) ∷ rows) (key.Prefix net pid prefix)
        ≡ is_owner (told_in ((key.Prefix n p x, v) ∷ rows) (place_of net prefix)) pid
    by true e =
        let same : (net ≡ n) × (prefix ≡ x) = one_place net n prefix x e in
        rw e
        (subst (λ (m : List ℕ). has_row ((key.Prefix n p x, v) ∷ rows) (key.Prefix m pid prefix)
        ≡ same_name p pid) (sym same.0)
        (subst (λ (y : Prefix). has_row ((key.Prefix n p x, v) ∷ rows) (key.Prefix n pid y)
        ≡ same_name p pid) (sym same.1)
        (first_owner n p pid x v rows one)))
    by false e =
        rw e (other_row (key.Prefix net pid prefix) (key.Prefix n p x) v rows
        (apart_places n net p pid x prefix (place_back (place_of n x) (place_of net prefix) ∙ e)) ∙ below)

pub told_owner : (rows : Rows) (net pid : List ℕ) (prefix : Prefix) → HaveOneOwner rows
    → has_row rows (key.Prefix net pid prefix) ≡ is_owner (told_in rows (place_of net prefix)) pid
unfolding key_cmp
told_owner [] net pid prefix one = refl
told_owner (row ∷ rows) net pid prefix one = by row.0 row.1 one (told_owner rows net pid prefix (rest_one row rows one))
  where
    by : (at : Key) (v : Value) → HaveOneOwner ((at, v) ∷ rows)
        → has_row rows (key.Prefix net pid prefix) ≡ is_owner (told_in rows (place_of net prefix)) pid
        → has_row ((at, v) ∷ rows) (key.Prefix net pid prefix)
        ≡ is_owner (told_in ((at, v) ∷ rows) (place_of net prefix)) pid
    by (key.Prefix n p x) v one below = told_prefix n p x v rows net pid prefix one below
    by _ v one below = below

-- the rows of a span have one PID for a prefix too
one_owner_in : (rows : Rows) (s : Span) → HaveOneOwner rows → HaveOneOwner (rows_in rows s)
one_owner_in rows s one net first second prefix f g =
    one net first second prefix (had (key.Prefix net first prefix) f) (had (key.Prefix net second prefix) g)
  where
    by : (at : Key) (b : Bool) → is_some (cond b (value_of rows at) None) ≡ true → has_row rows at ≡ true
    by at true h = h
    by at false h = cc

    had : (at : Key) → has_row (rows_in rows s) at ≡ true → has_row rows at ≡ true
    had at h = by at (is_in s at) (sym (ap is_some (value_of-rows_in rows s at)) ∙ h)

-- the rows of a network tell no owner in another
told_elsewhere : (rows : Rows) (net n : List ℕ) (prefix : Prefix) → HaveOneOwner rows → same_name net n ≡ false
    → told_in (rows_in rows (span.Prefixes net)) (place_of n prefix) ≡ None
told_elsewhere rows net n prefix one h = by (told_in (rows_in rows (span.Prefixes net)) (place_of n prefix)) refl
  where
    out : (pid : List ℕ) → has_row (rows_in rows (span.Prefixes net)) (key.Prefix n pid prefix) ≡ false
    out pid = ap is_some (value_of-rows_in rows (span.Prefixes net) (key.Prefix n pid prefix)) ∙ rw h refl

    by : (told : Option (List ℕ)) → told_in (rows_in rows (span.Prefixes net)) (place_of n prefix) ≡ told → told ≡ None
    by None e = refl
    by (Some o) e =
        absurd (both_ways (has_row (rows_in rows (span.Prefixes net)) (key.Prefix n o prefix)) (out o)
        (told_owner (rows_in rows (span.Prefixes net)) n o prefix (one_owner_in rows (span.Prefixes net) one)
        ∙ rw e (same_name_itself o)))

-- the rows of a network tell its owners
told_here : (rows : Rows) (net pid : List ℕ) (prefix : Prefix) → HaveOneOwner rows
    → has_row rows (key.Prefix net pid prefix)
    ≡ is_owner (told_in (rows_in rows (span.Prefixes net)) (place_of net prefix)) pid
told_here rows net pid prefix one =
    inside
    ∙ told_owner (rows_in rows (span.Prefixes net)) net pid prefix (one_owner_in rows (span.Prefixes net) one)
  where
    inside : has_row rows (key.Prefix net pid prefix)
        ≡ has_row (rows_in rows (span.Prefixes net)) (key.Prefix net pid prefix)
    inside = sym (ap is_some (value_of-rows_in rows (span.Prefixes net) (key.Prefix net pid prefix))
        ∙ rw (same_name_itself net) refl)

-- the prefixes of a network with their PIDs are what its rows tell
placed_prefixes : (rows : Rows) (net : List ℕ)
    → map (placed net) (prefixes_in rows net) ≡ filter_map owner_in (rows_in rows (span.Prefixes net))
placed_prefixes [] net = refl
placed_prefixes (row ∷ rows) net = by row.0 row.1 (placed_prefixes rows net)
  where
    tie : (of pid : List ℕ) (prefix : Prefix) (v : Value) (b : Bool) → same_name net of ≡ b
        → map (placed net) (prefixes_in rows net) ≡ filter_map owner_in (rows_in rows (span.Prefixes net))
        → map (placed net) (filter_map prefix_declared
        (cond b ((key.Prefix of pid prefix, v) ∷ rows_in rows (span.Prefixes net))
        (rows_in rows (span.Prefixes net))))
        ≡ filter_map owner_in (cond b ((key.Prefix of pid prefix, v) ∷ rows_in rows (span.Prefixes net))
        (rows_in rows (span.Prefixes net)))
    tie of pid prefix v true e below =
        ap (λ (n : List ℕ). (place_of n prefix, pid) ∷ map (placed net) (prefixes_in rows net)) (one_name net of e)
        ∙ ap (λ (told : List (Place × List ℕ)). (place_of of prefix, pid) ∷ told) below
    tie of pid prefix v false e below = below

    by : (at : Key) (v : Value) → map (placed net) (prefixes_in rows net)
        ≡ filter_map owner_in (rows_in rows (span.Prefixes net))
        → map (placed net) (prefixes_in ((at, v) ∷ rows) net)
        ≡ filter_map owner_in (rows_in ((at, v) ∷ rows) (span.Prefixes net))
    by (key.Prefix of pid prefix) v below = tie of pid prefix v (same_name net of) refl below
    by _ v below = below

-- in one network places are told apart by their prefixes
told_among : (net : List ℕ) (prefix : Prefix) (told : List (Prefix × List ℕ))
    → owner_told (map (placed net) told) (place_of net prefix) ≡ owner_among told prefix
unfolding place_cmp
told_among net prefix [] = refl
told_among net prefix (one ∷ told) =
    rw (both_ties (name_cmp net net) (prefix_cmp prefix one.0), ← same_name_ties net net, same_name_itself net)
    (ap (λ (rest : Option (List ℕ)). cond (is_eq (prefix_cmp prefix one.0)) (Some one.1) rest)
    (told_among net prefix told))

-- so the PID among its prefixes owns a prefix
pub among_owner : (rows : Rows) (net : List ℕ) (prefix : Prefix) → HaveOneOwner rows
    → HasOwner rows net prefix (owner_among (prefixes_in rows net) prefix)
among_owner rows net prefix one pid =
    told_here rows net pid prefix one
    ∙ ap (λ (owner : Option (List ℕ)). is_owner owner pid)
    (ap (λ (told : List (Place × List ℕ)). owner_told told (place_of net prefix)) (sym (placed_prefixes rows net))
    ∙ told_among net prefix (prefixes_in rows net))

-- the owners tell the same once a network is known
pub owners_known : (rows later : Rows) (net : List ℕ) (of of' : BTreeMap Place (Option (List ℕ)))
    (known known' : BTreeSet (List ℕ))
    → HaveOneOwner rows → contains name_cmp known net ≡ false
    → HasFilled (map (placed net) (prefixes_in rows net)) of of'
    → set.Updates name_cmp known known' net true → AreOwners rows later of known → AreOwners rows later of' known'
owners_known rows later net of of' known known' one unknown filled more old n pid prefix =
    old n pid prefix
    ∙ rw (filled (place_of n prefix), placed_prefixes rows net, more.0 n) (by (get place_cmp of (place_of n prefix)))
  where
    flat : (told : Option (List ℕ)) → is_owner told pid ≡ owner_from (option_map (λ owner. Some owner) told) false pid
    flat None = refl
    flat (Some o) = refl

    at : (b : Bool) → is_eq (name_cmp net n) ≡ b
        → (not (contains name_cmp known n) && has_row rows (key.Prefix n pid prefix))
        ≡ owner_from (option_map (λ owner. Some owner) (told_in (rows_in rows (span.Prefixes net)) (place_of n prefix)))
        (not (cond b true (contains name_cmp known n)) && has_row rows (key.Prefix n pid prefix)) pid
    at true e =
        rw (← one_name net n (same_name_ties net n ∙ e), unknown)
        (told_here rows net pid prefix one ∙ flat (told_in (rows_in rows (span.Prefixes net)) (place_of net prefix)))
    at false e = rw (told_elsewhere rows net n prefix one (same_name_ties net n ∙ e)) refl

    by : (g : Option (Option (List ℕ)))
        → owner_from g (not (contains name_cmp known n) && has_row rows (key.Prefix n pid prefix)) pid
        ≡ owner_from (kept_or g (told_in (rows_in rows (span.Prefixes net)) (place_of n prefix)))
        (not (cond (is_eq (name_cmp net n)) true (contains name_cmp known n)) && has_row rows (key.Prefix n pid prefix))
        pid
    by (Some o) = refl
    by None = at (is_eq (name_cmp net n)) refl
