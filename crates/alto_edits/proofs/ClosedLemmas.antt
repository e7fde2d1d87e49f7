-- Which deletions leave sound rows: those of all that names a declared thing, and those of rows that nothing needs.
use Rattle.std.proofs.Common.{◌≡◌, refl, ap, sym, ◌∙◌, subst}
use Rattle.std.proofs.lemmas.Bool.{both_ways, false_from_ne_true, not-false, or_from, or_parts}
use Rattle.std.specs.Prelude.{ℕ, Bool, true, false, not, ◌&&◌, List, [], ◌∷◌, map, filter, Option, Some, None, is_some}
use Rattle.std.specs.Ordering.{is_eq}
use Rattle.alto_addr.specs.Order.{prefix_cmp}
use Rattle.alto_addr.specs.declared.prefix.Prefix.{Prefix}
use Rattle.alto_rows.specs.declared.key.Key.{Key}
use Rattle.alto_rows.specs.declared.key.Key.TheVariants as key
use Rattle.alto_rows.specs.declared.value.Value.{Value}
use Rattle.alto_rows.specs.Good.{needs}
use Rattle.alto_rows.specs.Order.{key_cmp}
use Rattle.alto_rows.specs.Rows.{Rows, value_of, has_row, with_value, after}
use Rattle.alto_rows.proofs.OrderLemmas.{one_key, key_cmp_itself}
use Rattle.alto_rows.proofs.TouchesLemmas.{same_name_itself}
use Rattle.alto_rows.proofs.WriteLemmas.{sorted_after, sorted_with_value}
use Rattle.alto_rows.proofs.NeedsLemmas.{declares, is_among, need_declares, needs_transitive}
use Rattle.alto_rows.proofs.SoundLemmas.{AreSound, GivesAlone, IsClosed, left_of, left_was, left_stays, sound_without}
use Rattle.alto_rows.proofs.DeletionLemmas.{deletion, value_of-deletions, value_of-deletion}
use Rattle.alto_edits.specs.Writes.{same_key, names, withdrawing, owns, taking}

-- ---- what names a declared thing

apart_epoch : (at : Key) → declares at ≡ true → same_key at key.Epoch ≡ false
unfolding key_cmp
apart_epoch (key.Net net) h = refl
apart_epoch (key.Pid net pid) h = refl
apart_epoch (key.Metric net metric) h = refl
apart_epoch (key.Ane net ane) h = refl
apart_epoch _ h = cc

apart_window : (at : Key) → declares at ≡ true → same_key at key.Window ≡ false
unfolding key_cmp
apart_window (key.Net net) h = refl
apart_window (key.Pid net pid) h = refl
apart_window (key.Metric net metric) h = refl
apart_window (key.Ane net ane) h = refl
apart_window _ h = cc

-- of the rows that don't name a declared thing none needs one that does
pub names_closed : (declared : Key) → declares declared ≡ true → IsClosed (names declared)
names_closed declared h = record {
  epoch = λ v. rw (apart_epoch declared h) refl;
  window = λ v. rw (apart_window declared h) refl;
  needs = λ at need v w stays among. apart at need v w
      among (or_parts (same_key declared at) (is_among declared (needs at v)) stays).1;
}
  where
    apart : (at need : Key) (v w : Value) → is_among need (needs at v) ≡ true → is_among declared (needs at v) ≡ false
        → names declared (need, w) ≡ false
    apart at need v w among out =
        or_from (same_key declared need) (is_among declared (needs need w))
        (false_from_ne_true (same_key declared need)
        (λ e. both_ways (is_among declared (needs at v)) out (rw (one_key declared need e) among)))
        (false_from_ne_true (is_among declared (needs need w))
        (λ e. both_ways (is_among declared (needs at v)) out (needs_transitive declared need at v w among e)))

-- sound rows stay so when a declared thing is withdrawn
pub sound_withdrawing : (rows : Rows) (declared : Key) → AreSound rows → declares declared ≡ true
    → AreSound (after rows (withdrawing rows declared))
sound_withdrawing rows declared sound h =
    sound_without (names declared) rows (after rows (withdrawing rows declared)) sound (names_closed declared h)
    (sorted_after rows (withdrawing rows declared) sound.sorted)
    (λ at. value_of-deletions (names declared) rows at sound.sorted)

-- ---- rows that nothing needs

-- a row of the key is neither the epoch nor the window, and declares no name
abbrev pub is_leaf : Key → Bool
is_leaf key.Epoch = false
is_leaf key.Window = false
is_leaf at = not (declares at)

declares_no_leaf : (at : Key) → declares at ≡ true → is_leaf at ≡ false
declares_no_leaf (key.Net net) h = refl
declares_no_leaf (key.Pid net pid) h = refl
declares_no_leaf (key.Metric net metric) h = refl
declares_no_leaf (key.Ane net ane) h = refl
declares_no_leaf _ h = cc

-- no row needs one that passes a test of leaves alone
pub leaves_closed : (goes : Key × Value → Bool) → ((at : Key) (v : Value) → is_leaf at ≡ false → goes (at, v) ≡ false)
    → IsClosed goes
leaves_closed goes leaves = record {
  epoch = λ v. leaves key.Epoch v refl;
  window = λ v. leaves key.Window v refl;
  needs = λ at need v w stays among. leaves need w (declares_no_leaf need (need_declares need at v among));
}

-- sound rows stay so without one leaf
pub sound_deleting : (rows : Rows) (gone : Key) → AreSound rows → is_leaf gone ≡ true
    → AreSound (with_value rows gone None)
sound_deleting rows gone sound leaf =
    sound_without goes rows (with_value rows gone None) sound (leaves_closed goes apart)
    (sorted_with_value rows gone None sound.sorted) (λ at. value_of-deletion rows gone at sound.sorted)
  where
    goes : Key × Value → Bool
    goes row = is_eq (key_cmp row.0 gone)

    apart : (at : Key) (v : Value) → is_leaf at ≡ false → is_eq (key_cmp at gone) ≡ false
    apart at v h = false_from_ne_true (is_eq (key_cmp at gone))
        (λ e. both_ways (is_leaf at) h (rw (one_key at gone e) leaf))

-- ---- a prefix that is taken from other PIDs

-- a row gives the prefix to another PID of the network
abbrev pub is_elsewhere : List ℕ → List ℕ → Prefix → Key × Value → Bool
is_elsewhere net pid prefix row = owns net prefix row && not (same_key (key.Prefix net pid prefix) row.0)

-- what passes two tests in turn passes both
filter-both : {X : Type 0} (p q : X → Bool) (xs : List X) → filter q (filter p xs) ≡ filter (λ x. p x && q x) xs
filter-both p q [] = refl
filter-both p q (x ∷ xs) = by (filter-both p q xs) (p x) (q x) refl refl
  where
    by : filter q (filter p xs) ≡ filter (λ x. p x && q x) xs → (b c : Bool) → p x ≡ b → q x ≡ c
        → filter q (filter p (x ∷ xs)) ≡ filter (λ x. p x && q x) (x ∷ xs)
    by below true true e f = rw (e, f) (ap (λ (more : List _). x ∷ more) below)
    by below true false e f = rw (e, f) below
    by below false c e f = rw e below

-- the deletions that take a prefix are of all rows that give it to another PID
pub taking-elsewhere : (rows : Rows) (net pid : List ℕ) (prefix : Prefix)
    → taking rows net pid prefix ≡ map deletion (filter (is_elsewhere net pid prefix) rows)
taking-elsewhere rows net pid prefix =
    ap (λ (gone : Rows). map deletion gone)
    (filter-both (owns net prefix) (λ row. not (same_key (key.Prefix net pid prefix) row.0)) rows)

-- rows that give a prefix are leaves
pub elsewhere_leaf : (net pid : List ℕ) (prefix : Prefix) (at : Key) (v : Value) → is_leaf at ≡ false
    → is_elsewhere net pid prefix (at, v) ≡ false
elsewhere_leaf net pid prefix (key.Prefix of other given) v h = cc
elsewhere_leaf net pid prefix _ v h = refl

-- the value at a key after a prefix is taken
pub value_of-taking : (rows : Rows) (net pid : List ℕ) (prefix : Prefix) (at : Key) → AreSound rows
    → value_of (after rows (taking rows net pid prefix)) at
    ≡ left_of (is_elsewhere net pid prefix) at (value_of rows at)
value_of-taking rows net pid prefix at sound =
    rw (taking-elsewhere rows net pid prefix) (value_of-deletions (is_elsewhere net pid prefix) rows at sound.sorted)

-- sound rows stay so when a prefix is taken
pub sound_taking : (rows : Rows) (net pid : List ℕ) (prefix : Prefix) → AreSound rows
    → AreSound (after rows (taking rows net pid prefix))
sound_taking rows net pid prefix sound =
    sound_without (is_elsewhere net pid prefix) rows (after rows (taking rows net pid prefix)) sound
    (leaves_closed (is_elsewhere net pid prefix) (elsewhere_leaf net pid prefix))
    (sorted_after rows (taking rows net pid prefix) sound.sorted) (λ at. value_of-taking rows net pid prefix at sound)

-- a row that is no leaf stays when a prefix is taken
pub has_row-taking : (rows : Rows) (net pid : List ℕ) (prefix : Prefix) (at : Key) → AreSound rows → is_leaf at ≡ false
    → has_row rows at ≡ true
    → has_row (after rows (taking rows net pid prefix)) at ≡ true
has_row-taking rows net pid prefix at sound leaf h =
    rw (value_of-taking rows net pid prefix at sound)
    (left_stays (is_elsewhere net pid prefix) at (value_of rows at) (λ v. elsewhere_leaf net pid prefix at v leaf) h)

-- a prefix is itself
prefix_itself : (prefix : Prefix) → is_eq (prefix_cmp prefix prefix) ≡ true
unfolding key_cmp
prefix_itself prefix = ap is_eq (key_cmp_itself (key.Prefix [] [] prefix))

-- once taken, a prefix is in its PID alone
pub taken_alone : (rows : Rows) (net pid : List ℕ) (prefix : Prefix) → AreSound rows
    → GivesAlone (after rows (taking rows net pid prefix)) (key.Prefix net pid prefix)
taken_alone rows net pid prefix sound of owner other given e h =
    let nets : net ≡ of = cc in
    let pids : pid ≡ owner = cc in
    let prefixes : prefix ≡ given = cc in
    let here : has_row (after rows (taking rows net pid prefix)) (key.Prefix net other given) ≡ true =
    subst (λ (n : List ℕ). has_row (after rows (taking rows net pid prefix)) (key.Prefix n other given)
    ≡ true) (sym nets) h in
    alone other (subst (λ (x : Prefix). has_row (after rows (taking rows net pid prefix)) (key.Prefix net other x)
    ≡ true) (sym prefixes) here) ∙ pids
  where
    one : (other : List ℕ) → key.Prefix net pid prefix ≡ key.Prefix net other prefix → other ≡ pid
    one other e = cc

    mine : (other : List ℕ) (v : Value) → is_elsewhere net pid prefix (key.Prefix net other prefix, v) ≡ false
        → same_key (key.Prefix net pid prefix) (key.Prefix net other prefix) ≡ true
    mine other v h = not-false (same_key (key.Prefix net pid prefix) (key.Prefix net other prefix))
        (rw (same_name_itself net, prefix_itself prefix) at h)

    by : (other : List ℕ) (o : Option Value)
        → value_of (after rows (taking rows net pid prefix)) (key.Prefix net other prefix) ≡ o
        → is_some o ≡ true → other ≡ pid
    by other None e h = cc
    by other (Some v) e h =
        let was : (value_of rows (key.Prefix net other prefix) ≡ Some v)
        × (is_elsewhere net pid prefix (key.Prefix net other prefix, v) ≡ false) =
        left_was (is_elsewhere net pid prefix) (key.Prefix net other prefix)
        (value_of rows (key.Prefix net other prefix)) v
        (sym (value_of-taking rows net pid prefix (key.Prefix net other prefix) sound) ∙ e) in
        one other (one_key (key.Prefix net pid prefix) (key.Prefix net other prefix) (mine other v was.1))

    alone : (other : List ℕ) → has_row (after rows (taking rows net pid prefix)) (key.Prefix net other prefix) ≡ true
        → other ≡ pid
    alone other h = by other (value_of (after rows (taking rows net pid prefix)) (key.Prefix net other prefix)) refl h
