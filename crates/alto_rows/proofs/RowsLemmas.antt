-- Laws of sorted rows: parts of them, the value at a key, and two lists with the same values.
use Rattle.std.proofs.Common.{◌≡◌, refl, ap, sym, ◌∙◌}
use Rattle.std.proofs.lemmas.Cmp.{eq_by_cmp_equiv}
use Rattle.std.proofs.lemmas.Map.Keys.{sorted_head, sorted_tail}
use Rattle.std.specs.Prelude.{Bool, true, false, [], ◌∷◌, ◌++◌, Some, None}
use Rattle.std.specs.List.{AllByRecursion}
use Rattle.std.specs.List.Sorted.{IsStrictlySortedBy}
use Rattle.std.specs.Map.{keys_of}
use Rattle.std.specs.Ordering.{is_eq, ordering_reverse}
use Rattle.std.specs.declared.cmp.Ordering.{Ordering}
use Rattle.std.specs.declared.cmp.Ordering.TheVariants.{Less, Equal, Greater}
use Rattle.alto_rows.specs.declared.key.Key.{Key}
use Rattle.alto_rows.specs.declared.value.Value.{Value}
use Rattle.alto_rows.specs.Order.{key_cmp}
use Rattle.alto_rows.specs.Rows.{Rows, AreSorted, value_of}
use Rattle.alto_rows.proofs.OrderLemmas.{key_cmp_total, key_cmp_exact, key_cmp_itself, one_key}

-- each row is before the key
abbrev pub AreBefore : Key → Rows → Type 0
AreBefore key rows = AllByRecursion (λ row. key_cmp key row.0 ≡ Greater) rows

-- each row is after the key
abbrev pub ArePast : Key → Rows → Type 0
ArePast key rows = AllByRecursion (λ row. key_cmp key row.0 ≡ Less) rows

-- ---- two comparisons

-- a key that is less than another is the lesser from both sides
pub less_back : (a b : Key) → key_cmp a b ≡ Less → key_cmp b a ≡ Greater
less_back a b h = key_cmp_total.antisymm b a ∙ ap ordering_reverse h

-- and a greater the greater
pub greater_back : (a b : Key) → key_cmp a b ≡ Greater → key_cmp b a ≡ Less
greater_back a b h = key_cmp_total.antisymm b a ∙ ap ordering_reverse h

-- a test of two keys for being one may be turned round
pub same_key_back : (a b : Key) → is_eq (key_cmp a b) ≡ is_eq (key_cmp b a)
same_key_back a b = (eq_by_cmp_equiv key_cmp_total).symm a b

-- ---- sorted rows by their parts

-- the rows after the first are after its key
pub past_first : (row : Key × Value) (rows : Rows) → AreSorted (row ∷ rows) → ArePast row.0 rows
past_first row rows s = by rows (sorted_head key_cmp row.0 (keys_of rows) s)
  where
    by : (rest : Rows) → AllByRecursion (λ y. key_cmp row.0 y ≡ Less) (keys_of rest) → ArePast row.0 rest
    by [] h = h
    by (next ∷ rest) h = (h.0, by rest h.1)

-- the rows without the first are sorted
pub sorted_rest : (row : Key × Value) (rows : Rows) → AreSorted (row ∷ rows) → AreSorted rows
sorted_rest row rows s = sorted_tail key_cmp row.0 (keys_of rows) s

-- a row before sorted rows makes sorted rows
pub sorted_more : (row : Key × Value) (rows : Rows) → ArePast row.0 rows → AreSorted rows → AreSorted (row ∷ rows)
unfolding IsStrictlySortedBy
sorted_more row rows past s = (by rows past, s)
  where
    by : (rest : Rows) → ArePast row.0 rest → AllByRecursion (λ y. key_cmp row.0 y ≡ Less) (keys_of rest)
    by [] h = h
    by (next ∷ rest) h = (h.0, by rest h.1)

-- what is after a key is after a lesser one
pub past_lesser : (low high : Key) → key_cmp low high ≡ Less → (rows : Rows) → ArePast high rows → ArePast low rows
past_lesser low high less [] h = h
past_lesser low high less (row ∷ rows) h =
    (key_cmp_total.trans low high row.0 less h.0, past_lesser low high less rows h.1)

-- rows that are all before a key, and rows from it on, are sorted together
pub sorted_join : (key : Key) (before rest : Rows) → AreSorted before → AreBefore key before → AreSorted rest
    → ((low : Key) → key_cmp key low ≡ Greater → ArePast low rest) → AreSorted (before ++ rest)
sorted_join key [] rest s b t past = t
sorted_join key (row ∷ before) rest s b t past =
    sorted_more row (before ++ rest) (by before (past_first row before s))
    (sorted_join key before rest (sorted_rest row before s) b.1 t past)
  where
    by : (more : Rows) → ArePast row.0 more → ArePast row.0 (more ++ rest)
    by [] h = past row.0 b.0
    by (next ∷ more) h = (h.0, by more h.1)

-- the first rows of sorted rows are sorted
pub sorted_left : (front back : Rows) → AreSorted (front ++ back) → AreSorted front
unfolding IsStrictlySortedBy
sorted_left [] back s = tt
sorted_left (row ∷ front) back s = sorted_more row front (by front (past_first row (front ++ back) s))
    (sorted_left front back (sorted_rest row (front ++ back) s))
  where
    by : (more : Rows) → ArePast row.0 (more ++ back) → ArePast row.0 more
    by [] h = tt
    by (next ∷ more) h = (h.0, by more h.1)

-- the last rows of sorted rows are sorted
pub sorted_right : (front back : Rows) → AreSorted (front ++ back) → AreSorted back
sorted_right [] back s = s
sorted_right (row ∷ front) back s = sorted_right front back (sorted_rest row (front ++ back) s)

-- the rows that stand before a row of sorted rows are before its key
pub before_middle : (front : Rows) (row : Key × Value) (back : Rows) → AreSorted (front ++ row ∷ back)
    → AreBefore row.0 front
before_middle [] row back s = tt
before_middle (first ∷ front) row back s = (
  less_back first.0 row.0 (by front (past_first first (front ++ row ∷ back) s)),
  before_middle front row back (sorted_rest first (front ++ row ∷ back) s),
)
  where
    by : (more : Rows) → ArePast first.0 (more ++ row ∷ back) → key_cmp first.0 row.0 ≡ Less
    by [] h = h.0
    by (next ∷ more) h = by more h.1

-- the rows that stand after a row of sorted rows are after its key
pub past_middle : (front : Rows) (row : Key × Value) (back : Rows) → AreSorted (front ++ row ∷ back)
    → ArePast row.0 back
past_middle front row back s = past_first row back (sorted_right front (row ∷ back) s)

-- ---- the value at a key

-- the rows before a key don't tell its value
pub value_of-before : (key : Key) (before rest : Rows) → AreBefore key before
    → value_of (before ++ rest) key ≡ value_of rest key
value_of-before key [] rest h = refl
value_of-before key (row ∷ before) rest h = rw h.0 (value_of-before key before rest h.1)

-- a key that is before all rows has none
pub value_of-past : (key : Key) (rows : Rows) → ArePast key rows → value_of rows key ≡ None
value_of-past key [] h = refl
value_of-past key (row ∷ rows) h = rw h.0 (value_of-past key rows h.1)

-- the value at the key of the first row is that row's
pub value_of-first : (key : Key) (row : Key × Value) (rows : Rows) → key_cmp key row.0 ≡ Equal
    → value_of (row ∷ rows) key ≡ Some row.1
value_of-first key row rows h = rw h

-- the value at any other key is that in the other rows
pub value_of-other : (key : Key) (row : Key × Value) (rows : Rows) → is_eq (key_cmp key row.0) ≡ false
    → value_of (row ∷ rows) key ≡ value_of rows key
value_of-other key row rows h = rw h

-- the value at the key of a row of sorted rows is that row's
pub value_of-middle : (front : Rows) (row : Key × Value) (back : Rows) → AreSorted (front ++ row ∷ back)
    → value_of (front ++ row ∷ back) row.0 ≡ Some row.1
value_of-middle front row back s =
    value_of-before row.0 front (row ∷ back) (before_middle front row back s)
    ∙ value_of-first row.0 row back (key_cmp_itself row.0)

-- a row stands among rows
pub record IsRow (rows : Rows) (key : Key) (value : Value) : Type 0 where
  pub front : Rows
  pub back : Rows
  pub whole : rows ≡ front ++ (key, value) ∷ back

-- a value has its row
pub row_of_value : (rows : Rows) (key : Key) (value : Value) → value_of rows key ≡ Some value → IsRow rows key value
row_of_value [] key value h = cc
row_of_value (row ∷ rows) key value h = by (λ g. row_of_value rows key value g) (key_cmp key row.0) refl
  where
    later : (value_of rows key ≡ Some value → IsRow rows key value) → value_of rows key ≡ Some value
        → IsRow (row ∷ rows) key value
    later below g =
        let found : IsRow rows key value = below g in
        record { front = row ∷ found.front; back = found.back; whole = ap (λ (more : Rows). row ∷ more) found.whole }

    by : (value_of rows key ≡ Some value → IsRow rows key value) → (o : Ordering) → key_cmp key row.0 ≡ o
        → IsRow (row ∷ rows) key value
    by below Equal e =
        let same : key ≡ row.0 = key_cmp_exact key row.0 e in
        let is : Some row.1 ≡ Some value = sym (value_of-first key row rows e) ∙ h in
        let named : row.1 ≡ value = cc in
        record { front = []; back = rows; whole = rw (same, ← named) refl }
    by below Less e = later below (sym (value_of-other key row rows (ap is_eq e)) ∙ h)
    by below Greater e = later below (sym (value_of-other key row rows (ap is_eq e)) ∙ h)

-- a row of sorted rows is what its key tells
pub value_of_row : (rows : Rows) (key : Key) (value : Value) → AreSorted rows → IsRow rows key value
    → value_of rows key ≡ Some value
value_of_row rows key value s row =
    rw row.whole (value_of-middle row.front (key, value) row.back (rw row.whole at s))

-- ---- two lists of rows

-- of two sorted lists with the same values neither has its first key before the other's
no_earlier : (row next : Key × Value) (rows others : Rows) → AreSorted (next ∷ others)
    → value_of (row ∷ rows) row.0 ≡ value_of (next ∷ others) row.0
    → key_cmp row.0 next.0 ≡ Less → ⊥
no_earlier row next rows others s same e =
    let past : ArePast row.0 (next ∷ others) = (e, past_lesser row.0 next.0 e others (past_first next others s)) in
    let none : value_of (next ∷ others) row.0 ≡ None = value_of-past row.0 (next ∷ others) past in
    let some : value_of (row ∷ rows) row.0 ≡ Some row.1 = value_of-first row.0 row rows (key_cmp_itself row.0) in
    let both : Some row.1 ≡ None = sym some ∙ (same ∙ none) in
    cc

-- rows behind equal first rows have the same values
same_behind : (row : Key × Value) (rows others : Rows) → AreSorted (row ∷ rows) → AreSorted (row ∷ others)
    → ((key : Key) → value_of (row ∷ rows) key ≡ value_of (row ∷ others) key) → (key : Key)
    → value_of rows key ≡ value_of others key
same_behind row rows others s t same key = by (is_eq (key_cmp key row.0)) refl
  where
    by : (b : Bool) → is_eq (key_cmp key row.0) ≡ b → value_of rows key ≡ value_of others key
    by true e =
        let one : key ≡ row.0 = one_key key row.0 e in
        rw one (value_of-past row.0 rows (past_first row rows s)
        ∙ sym (value_of-past row.0 others (past_first row others t)))
    by false e = sym (value_of-other key row rows e) ∙ (same key ∙ value_of-other key row others e)

-- sorted rows with the same value at each key are the same rows
pub same_rows : (rows others : Rows) → AreSorted rows → AreSorted others
    → ((key : Key) → value_of rows key ≡ value_of others key) → rows ≡ others
same_rows [] [] s t same = refl
same_rows [] (next ∷ others) s t same =
    let one : None ≡ Some next.1 = same next.0 ∙ value_of-first next.0 next others (key_cmp_itself next.0) in
    cc
same_rows (row ∷ rows) [] s t same =
    let one : Some row.1 ≡ None = sym (value_of-first row.0 row rows (key_cmp_itself row.0)) ∙ same row.0 in
    cc
same_rows (row ∷ rows) (next ∷ others) s t same =
    by (λ behind. same_rows rows others (sorted_rest row rows s) (sorted_rest next others t) behind)
    (key_cmp row.0 next.0) refl
  where
    by : (((key : Key) → value_of rows key ≡ value_of others key) → rows ≡ others) → (o : Ordering)
        → key_cmp row.0 next.0 ≡ o → row ∷ rows ≡ next ∷ others
    by tails Less e = absurd (no_earlier row next rows others t (same row.0) e)
    by tails Greater e = absurd (no_earlier next row others rows s (sym (same next.0)) (greater_back row.0 next.0 e))
    by tails Equal e =
        let keys : row.0 ≡ next.0 = key_cmp_exact row.0 next.0 e in
        let some : Some row.1 ≡ Some next.1 = sym (value_of-first row.0 row rows (key_cmp_itself row.0))
        ∙ (same row.0 ∙ value_of-first row.0 next others e) in
        let values : row.1 ≡ next.1 = cc in
        let heads : row ≡ next = ap (λ (key : Key). (key, row.1)) keys
        ∙ ap (λ (value : Value). (next.0, value)) values in
        let same_tails : rows ≡ others =
        tails (same_behind row rows others s (rw (← heads) at t) (rw (← heads) at same)) in
        cc
