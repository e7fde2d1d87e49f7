-- The rows that pass a test, by their keys.
use Rattle.std.proofs.Common.{◌≡◌, refl, ap, sym, ◌∙◌}
use Rattle.std.proofs.lemmas.List.Kept.{IsStrictlySortedBy-filter}
use Rattle.std.proofs.lemmas.Map.Lookups.{btree_set_from_contains}
use Rattle.std.proofs.lemmas.Map.Views.{any-filter_same}
use Rattle.std.specs.Prelude.{Bool, true, false, cond, ◌&&◌, List, [], ◌∷◌, filter, map}
use Rattle.std.specs.BTreeMap.{is_at}
use Rattle.std.specs.List.{list_any}
use Rattle.std.specs.List.Sorted.{IsStrictlySortedBy}
use Rattle.std.specs.Map.{keys_of}
use Rattle.std.specs.Ordering.{is_eq}
use Rattle.alto_rows.specs.declared.key.Key.{Key}
use Rattle.alto_rows.specs.declared.value.Value.{Value}
use Rattle.alto_rows.specs.declared.value.Value.TheVariants as value
use Rattle.alto_rows.specs.declared.write.Write.{Write}
use Rattle.alto_rows.specs.Order.{key_cmp}
use Rattle.alto_rows.specs.Rows.{Rows, AreSorted, has_row}
use Rattle.alto_rows.proofs.OrderLemmas.{key_cmp_exact, key_cmp_total, one_key}
use Rattle.alto_edits.specs.Writes.{deleting}

-- the test of a row goes by its key alone
abbrev pub GoesByKey : (Key × Value → Bool) → Type 0
GoesByKey test = (at : Key) (v : Value) → test (at, v) ≡ test (at, value.Unit)

-- the keys of the rows that pass such a test
keys_of-filter : (test : Key × Value → Bool) (rows : Rows) → GoesByKey test
    → keys_of (filter test rows) ≡ filter (λ at. test (at, value.Unit)) (keys_of rows)
keys_of-filter test [] same = refl
keys_of-filter test (row ∷ rows) same =
    rw (same row.0 row.1) (by (keys_of-filter test rows same) (test (row.0, value.Unit)))
  where
    by : keys_of (filter test rows) ≡ filter (λ at. test (at, value.Unit)) (keys_of rows)
        → (b : Bool) → keys_of (cond b (row ∷ filter test rows) (filter test rows))
        ≡ cond b (row.0 ∷ filter (λ at. test (at, value.Unit)) (keys_of rows))
        (filter (λ at. test (at, value.Unit)) (keys_of rows))
    by below true = ap (λ (keys : List Key). row.0 ∷ keys) below
    by below false = below

-- a key is among those of rows where it has a row
among_keys : (rows : Rows) (at : Key) → list_any (is_at (key_cmp at)) (keys_of rows) ≡ has_row rows at
among_keys [] at = refl
among_keys (row ∷ rows) at = by (among_keys rows at) (is_eq (key_cmp at row.0)) refl
  where
    by : list_any (is_at (key_cmp at)) (keys_of rows) ≡ has_row rows at
        → (b : Bool) → is_eq (key_cmp at row.0) ≡ b
        → list_any (is_at (key_cmp at)) (keys_of (row ∷ rows)) ≡ has_row (row ∷ rows) at
    by below true e = rw e refl
    by below false e = rw e below

-- the deletions of keys are those of the rows that have them
deletings : (rows : Rows) → map deleting (keys_of rows) ≡ map (λ (row : Key × Value). deleting row.0) rows
deletings [] = refl
deletings (row ∷ rows) = ap (λ (writes : List Write). deleting row.0 ∷ writes) (deletings rows)

-- keys in order, exactly those that have rows which pass a test, are deleted as these rows are
pub picked : (test : Key × Value → Bool) (rows : Rows) (keys : List Key) → AreSorted rows → GoesByKey test
    → IsStrictlySortedBy key_cmp keys
    → ((at : Key) → list_any (is_at (key_cmp at)) keys ≡ (test (at, value.Unit) && has_row rows at))
    → map deleting keys ≡ map (λ (row : Key × Value). deleting row.0) (filter test rows)
picked test rows keys s same sorted among =
    ap (map deleting) (all ∙ sym (keys_of-filter test rows same)) ∙ deletings (filter test rows)
  where
    all : keys ≡ filter (λ at. test (at, value.Unit)) (keys_of rows)
    all =
        btree_set_from_contains key_cmp_total (record { keys = keys })
        (record { keys = filter (λ at. test (at, value.Unit)) (keys_of rows) })
        sorted (IsStrictlySortedBy-filter key_cmp (λ at. test (at, value.Unit)) (keys_of rows) s)
        (λ at.
        among at
        ∙ (ap (λ b. test (at, value.Unit) && b) (sym (among_keys rows at))
        ∙ sym (any-filter_same (is_at (key_cmp at)) (λ q. test (q, value.Unit)) (test (at, value.Unit))
        (λ q e. ap (λ (k : Key). test (k, value.Unit)) (sym (one_key at q e))) (keys_of rows))))
        key_cmp_exact
