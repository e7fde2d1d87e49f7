-- What is listed from rows, where the rows that it is listed from are the same.
use Rattle.std.proofs.Common.{◌≡◌, refl, ap, sym, ◌∙◌}
use Rattle.std.proofs.lemmas.List.Kept.{IsStrictlySortedBy-filter}
use Rattle.std.proofs.lemmas.Map.Entries.{lookup-filter-keys}
use Rattle.std.specs.Prelude.{Bool, true, false, cond, List, [], ◌∷◌, filter, Option, None}
use Rattle.std.specs.BTreeMap.{is_at}
use Rattle.std.specs.List.{cons_option, filter_map}
use Rattle.std.specs.Map.{keys_of}
use Rattle.alto_rows.specs.declared.key.Key.{Key}
use Rattle.alto_rows.specs.declared.value.Value.{Value}
use Rattle.alto_rows.specs.Order.{key_cmp}
use Rattle.alto_rows.specs.Rows.{Rows, AreSorted, value_of}
use Rattle.alto_rows.proofs.OrderLemmas.{one_key}
use Rattle.alto_rows.proofs.RowsLemmas.{same_rows}

-- the rows whose keys pass a test
abbrev rows_passing : (Key → Bool) → Rows → Rows
rows_passing test rows = filter (λ row. test row.0) rows

-- their keys are those of the rows that pass
keys_passing : (test : Key → Bool) (rows : Rows) → keys_of (rows_passing test rows) ≡ filter test (keys_of rows)
keys_passing test [] = refl
keys_passing test (row ∷ rows) = by (test row.0) refl (keys_passing test rows)
  where
    by : (b : Bool) → test row.0 ≡ b → keys_of (rows_passing test rows) ≡ filter test (keys_of rows)
        → keys_of (rows_passing test (row ∷ rows)) ≡ filter test (keys_of (row ∷ rows))
    by true e below = rw e (ap (λ (more : List Key). row.0 ∷ more) below)
    by false e below = rw e below

-- they are sorted
sorted_passing : (test : Key → Bool) (rows : Rows) → AreSorted rows → AreSorted (rows_passing test rows)
sorted_passing test rows s = rw (keys_passing test rows) (IsStrictlySortedBy-filter key_cmp test (keys_of rows) s)

-- and have the values of the keys that pass
value_of-passing : (test : Key → Bool) (rows : Rows) (at : Key)
    → value_of (rows_passing test rows) at ≡ cond (test at) (value_of rows at) None
value_of-passing test rows at =
    lookup-filter-keys (is_at (key_cmp at)) test (test at) (λ other e. let same : at ≡ other = one_key at other e in
    rw same refl) rows

-- sorted rows with the same values at the keys that pass have the same rows that pass
same_passing : (test : Key → Bool) (rows others : Rows) → AreSorted rows → AreSorted others
    → ((at : Key) → test at ≡ true → value_of rows at ≡ value_of others at)
    → rows_passing test rows ≡ rows_passing test others
same_passing test rows others s t same =
    same_rows (rows_passing test rows) (rows_passing test others) (sorted_passing test rows s)
    (sorted_passing test others t)
    (λ at. value_of-passing test rows at ∙ (by at (test at) refl ∙ sym (value_of-passing test others at)))
  where
    by : (at : Key) (b : Bool) → test at ≡ b → cond b (value_of rows at) None ≡ cond b (value_of others at) None
    by at true e = same at e
    by at false e = refl

-- only what is listed counts
only_listed : {X : Type 0} (listed : Key × Value → Option X) (test : Key → Bool)
    → ((row : Key × Value) → test row.0 ≡ false → listed row ≡ None)
    → (rows : Rows) → filter_map listed rows ≡ filter_map listed (rows_passing test rows)
only_listed listed test other [] = refl
only_listed listed test other (row ∷ rows) = by (test row.0) refl (only_listed listed test other rows)
  where
    by : (b : Bool) → test row.0 ≡ b → filter_map listed rows ≡ filter_map listed (rows_passing test rows)
        → filter_map listed (row ∷ rows)
        ≡ filter_map listed (cond b (row ∷ rows_passing test rows) (rows_passing test rows))
    by true e rest = ap (cons_option (listed row)) rest
    by false e rest = rw (other row e) rest

-- sorted rows with the same values at these keys list the same, where nothing else is listed
pub same_listed : {X : Type 0} (listed : Key × Value → Option X) (test : Key → Bool)
    → ((row : Key × Value) → test row.0 ≡ false → listed row ≡ None)
    → (rows others : Rows) → AreSorted rows → AreSorted others
    → ((at : Key) → test at ≡ true → value_of rows at ≡ value_of others at)
    → filter_map listed rows ≡ filter_map listed others
same_listed listed test other rows others s t same =
    only_listed listed test other rows ∙ (ap (filter_map listed) (same_passing test rows others s t same)
    ∙ sym (only_listed listed test other others))
