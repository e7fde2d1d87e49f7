-- The rows of the table: the next one, one more piece, those that a base takes in, and what they are read as.
use Rattle.std.proofs.Common.{◌≡◌, ℕ, zero, suc, ◌+◌, ℤ, ◌<ℤ◌, ◌≤ℤ◌, ◌-ℤ◌, pos, int_eq, int_le, int_lt, Bool, true}
use Rattle.std.proofs.Common.{false, cond, not, ◌&&◌, ◌||◌, List, [], ◌∷◌, ◌++◌, length, map, reverse, filter, fold}
use Rattle.std.proofs.Common.{All, refl, sym, ap, ap₂, subst, ◌∙◌, arith, append-nil, IsPermutation}
use Rattle.std.specs.List.{AllByRecursion, list_any}
use Rattle.std.specs.declared.cmp.Ordering.TheVariants.{Less, Greater}
use Rattle.std.specs.Ordering.{match_ordering, is_eq}
use Rattle.std.proofs.lemmas.Int.{ints}
use Rattle.std.proofs.lemmas.List.{map-append, append_assoc, reverse-append, reverse-reverse}
use Rattle.std.proofs.lemmas.List.Elements.{recursion_from_All, filter-append}
use Rattle.std.proofs.lemmas.List.Sorted.{list_any-IsPermutation}
use Rattle.std.proofs.lemmas.Bool.Decides.{nat_tests}
use Rattle.sqlite_value.proofs.OrderLemmas.{value_cmp-Int}
use Rattle.sqlite_keyed.specs.Lists.{without_key, delete_where}
use Rattle.sqlite_keyed.proofs.ListLemmas.{map-map, filter-map, all_weaker, all_map, all-append, all-filter, filter_all}
use Rattle.sqlite_keyed.proofs.ListLemmas.{filter_none, filter_same, ascending-append}
use Rattle.sqlite_keyed.proofs.WriteLemmas.{removes_delete}
use Rattle.sqlite_trees.specs.Tree.{IsAscending, put_row, has_rowid, without_rowid}
use Rattle.sqlite_rules.specs.Edit.{without_all}
use Rattle.sqlite.specs.Order.{Row, value_cmp}
use Rattle.sqlite.specs.declared.types.Value.TheVariants.{Int}
use Rattle.alto_keeper.specs.Stored.{RowData, StoredData, IsNext, with_row, numbered, is_taken_in, rebased}
use Rattle.keeper_sqlite.specs.Store.{table_row, flipped, all_rows, table_rows, with_base}
use Rattle.keeper_sqlite.specs.Reading.{stored_in}

abbrev Rising : List RowData → Type 0
Rising = IsAscending (λ row later. row.n <ℤ later.n)

pub below : (k n : ℤ) → k <ℤ n → value_cmp (Int k) (Int n) ≡ Less
below k n h = value_cmp-Int k n ∙ grind (arith, ints, nat_tests)

above : (k n : ℤ) → n <ℤ k → value_cmp (Int k) (Int n) ≡ Greater
above k n h = value_cmp-Int k n ∙ grind (arith, ints, nat_tests)

-- a row with a greater number goes to the end
put_last : (row : RowData) (rows : List RowData) → AllByRecursion (λ r. r.n <ℤ row.n) rows
    → put_row (table_row row) (map table_row rows) ≡ map table_row (rows ++ row ∷ [])
put_last row [] low = refl
put_last row (r ∷ rows) low =
    let more = map table_row rows in
    ap (λ o. match_ordering o (table_row r ∷ put_row (table_row row) more) (table_row row ∷ more)
    (table_row row ∷ table_row r ∷ more))
    (below r.n row.n low.0)
    ∙ ap (λ l. table_row r ∷ l) (put_last row rows low.1)

-- one with a smaller number to the front
put_first : (row : RowData) (rows : List RowData) → AllByRecursion (λ r. row.n <ℤ r.n) rows
    → put_row (table_row row) (map table_row rows) ≡ map table_row (row ∷ rows)
put_first row [] high = refl
put_first row (r ∷ rows) high =
    let more = map table_row rows in
    ap (λ o. match_ordering o (table_row r ∷ put_row (table_row row) more) (table_row row ∷ more)
    (table_row row ∷ table_row r ∷ more))
    (above r.n row.n high.0)

-- what holds of all holds of all in reverse
all-reverse : (P : RowData → Type 0) (rows : List RowData) → AllByRecursion P rows → AllByRecursion P (reverse rows)
all-reverse P [] all = tt
all-reverse P (r ∷ rows) all =
    subst (AllByRecursion P) (sym (reverse-append (r ∷ []) rows))
    (all-append P (reverse rows) (r ∷ []) (all-reverse P rows all.1) (all.0, tt))

all_flipped : (P : RowData → Type 0) (base : List RowData) → AllByRecursion (λ piece. P (flipped piece)) base
    → AllByRecursion P (map flipped (reverse base))
all_flipped P base all = all_map P flipped (reverse base) (all-reverse _ base all)

-- ---- the next row

next_above : (n : ℤ) (stored : StoredData) → IsNext stored n → AllByRecursion (λ piece. pos 0 ≤ℤ piece.n) stored.base
    → AllByRecursion (λ r. r.n <ℤ n) (all_rows stored)
next_above n stored next base =
    all-append (λ r. r.n <ℤ n) (map flipped (reverse stored.base)) stored.rows
    (all_flipped (λ r. r.n <ℤ n) stored.base
    (all_weaker _ (λ piece. (flipped piece).n <ℤ n)
    (λ piece low. let up = next.0 in grind (arith, ints)) stored.base base))
    (recursion_from_All (λ r. r.n <ℤ n) stored.rows next.1)

more_rows : (row : RowData) (stored : StoredData) → all_rows (with_row row.n row.bytes stored)
    ≡ all_rows stored ++ row ∷ []
more_rows row stored = sym (append_assoc (map flipped (reverse stored.base)) stored.rows (row ∷ []))

-- it goes behind all that are kept
pub put_next : (row : RowData) (stored : StoredData) → IsNext stored row.n
    → AllByRecursion (λ piece. pos 0 ≤ℤ piece.n) stored.base
    → put_row (table_row row) (table_rows stored) ≡ table_rows (with_row row.n row.bytes stored)
put_next row stored next base =
    put_last row (all_rows stored) (next_above row.n stored next base) ∙ ap (map table_row) (sym (more_rows row stored))

pub rising_next : (row : RowData) (stored : StoredData) → IsNext stored row.n
    → AllByRecursion (λ piece. pos 0 ≤ℤ piece.n) stored.base
    → Rising (all_rows stored) → Rising (all_rows (with_row row.n row.bytes stored))
rising_next row stored next base up =
    subst Rising (sym (more_rows row stored))
    (ascending-append (λ row later. row.n <ℤ later.n) (all_rows stored) (row ∷ []) up (tt, tt)
    (all_weaker (λ r. r.n <ℤ row.n) (λ r. AllByRecursion (λ later. r.n <ℤ later.n) (row ∷ [])) (λ r low. (low, tt))
    (all_rows stored)
    (next_above row.n stored next base)))

-- ---- one more piece

numbered_more : (k : ℕ) (pieces : List (List ℕ)) (bytes : List ℕ)
    → numbered k (pieces ++ bytes ∷ []) ≡ numbered k pieces ++ record
    { n = pos (k + length pieces); bytes = bytes } ∷ []
numbered_more k [] bytes = ap (λ n. record { n = pos n; bytes = bytes } ∷ []) (omega arith)
numbered_more k (piece ∷ pieces) bytes =
    ap (λ l. record { n = pos k; bytes = piece } ∷ l) (numbered_more (k + 1) pieces bytes
    ∙ ap (λ n. numbered (k + 1) pieces ++ record { n = pos n; bytes = bytes } ∷ []) (omega arith))

numbered_from : (k : ℕ) (pieces : List (List ℕ)) → AllByRecursion (λ piece. pos k ≤ℤ piece.n) (numbered k pieces)
numbered_from k [] = tt
numbered_from k (bytes ∷ pieces) = (
  grind (arith, ints),
  all_weaker (λ piece. pos (k + 1) ≤ℤ piece.n) _ (λ piece low. grind (arith, ints)) _
      (numbered_from (k + 1) pieces),
)

numbered_below : (k : ℕ) (pieces : List (List ℕ))
    → AllByRecursion (λ piece. piece.n <ℤ pos (k + length pieces)) (numbered k pieces)
numbered_below k [] = tt
numbered_below k (bytes ∷ pieces) = (
  grind (arith, ints),
  subst (λ n. AllByRecursion (λ piece. piece.n <ℤ pos n) (numbered (k + 1) pieces)) (omega arith)
      (numbered_below (k + 1) pieces),
)

pub base_from : (pieces : List (List ℕ)) → AllByRecursion (λ piece. pos 0 ≤ℤ piece.n) (numbered 0 pieces)
base_from = numbered_from 0

abbrev piece : List (List ℕ) → List ℕ → RowData
piece pieces bytes = record { n = pos (length pieces); bytes = bytes }

more_pieces : (pieces : List (List ℕ)) (bytes : List ℕ) (stored : StoredData)
    → all_rows (with_base (pieces ++ bytes ∷ []) stored)
    ≡ flipped (piece pieces bytes) ∷ all_rows (with_base pieces stored)
more_pieces pieces bytes stored =
    ap (λ base. map flipped (reverse base) ++ stored.rows) (numbered_more 0 pieces bytes
    ∙ ap (λ n. numbered 0 pieces ++ record { n = pos n; bytes = bytes } ∷ []) (omega arith))
    ∙ ap (λ base. map flipped base ++ stored.rows) (reverse-append (numbered 0 pieces) (piece pieces bytes ∷ []))

piece_first : (pieces : List (List ℕ)) (bytes : List ℕ) (stored : StoredData)
    → AllByRecursion (λ row. pos 0 ≤ℤ row.n) stored.rows
    → AllByRecursion (λ r. (flipped (piece pieces bytes)).n <ℤ r.n) (all_rows (with_base pieces stored))
piece_first pieces bytes stored own =
    let n = (flipped (piece pieces bytes)).n in
    all-append (λ r. n <ℤ r.n) (map flipped (reverse (numbered 0 pieces))) stored.rows
    (all_flipped (λ r. n <ℤ r.n) (numbered 0 pieces)
    (all_weaker _ (λ q. n <ℤ (flipped q).n) (λ q low. grind (arith, ints)) _ (numbered_below 0 pieces)))
    (all_weaker _ (λ r. n <ℤ r.n) (λ r low. grind (arith, ints)) stored.rows own)

-- it goes before all that are kept
pub put_piece : (pieces : List (List ℕ)) (bytes : List ℕ) (stored : StoredData)
    → AllByRecursion (λ row. pos 0 ≤ℤ row.n) stored.rows
    → put_row (table_row (flipped (piece pieces bytes))) (table_rows (with_base pieces stored))
    ≡ table_rows (with_base (pieces ++ bytes ∷ []) stored)
put_piece pieces bytes stored own =
    put_first (flipped (piece pieces bytes)) (all_rows (with_base pieces stored)) (piece_first pieces bytes stored own)
    ∙ ap (map table_row) (sym (more_pieces pieces bytes stored))

pub rising_piece : (pieces : List (List ℕ)) (bytes : List ℕ) (stored : StoredData)
    → AllByRecursion (λ row. pos 0 ≤ℤ row.n) stored.rows → Rising (all_rows (with_base pieces stored))
    → Rising (all_rows (with_base (pieces ++ bytes ∷ []) stored))
rising_piece pieces bytes stored own up =
    subst Rising (sym (more_pieces pieces bytes stored)) (piece_first pieces bytes stored own, up)

-- ---- the rows that a base takes in

-- what DELETE takes away
abbrev pub is_gone : ℤ → RowData → Bool
is_gone upto row = int_le row.n upto && not (int_eq row.n (pos 0))

filter_twice : (p q : RowData → Bool) (rows : List RowData) → filter p (filter q rows) ≡ filter (λ r. q r && p r) rows
filter_twice p q [] = refl
filter_twice p q (r ∷ rows) =
    elim (q r) as (λ b. filter p (cond b (r ∷ filter q rows) (filter q rows))
    ≡ cond (b && p r) (r ∷ filter (λ r. q r && p r) rows) (filter (λ r. q r && p r) rows))
    [ true ↦ ap (λ l. cond (p r) (r ∷ l) l) (filter_twice p q rows) | false ↦ filter_twice p q rows ]

one_less : (a b : Bool) → (not a && not b) ≡ not (a || b)
one_less true b = refl
one_less false b = refl

-- without rows by their numbers, in any order
without_keys : (ids : List ℤ) (rows : List RowData)
    → fold (without_key (λ r. r.n)) rows ids ≡ filter (λ r. not (list_any (λ id. int_eq r.n id) ids)) rows
without_keys [] rows = sym (filter_all _ rows (all_of rows))
  where
    all_of : (rows : List RowData) → AllByRecursion (λ r. true ≡ true) rows
    all_of [] = tt
    all_of (r ∷ rows) = (refl, all_of rows)
without_keys (id ∷ ids) rows =
    without_keys ids (without_key (λ r. r.n) rows id)
    ∙ filter_twice _ _ rows
    ∙ filter_same _ _ (λ r. one_less (int_eq r.n id) (list_any (λ id. int_eq r.n id) ids)) rows

same_number : (id : ℤ) (r : RowData) → has_rowid id (table_row r) ≡ int_eq r.n id
same_number id r = ap is_eq (value_cmp-Int r.n id) ∙ grind (arith, ints, nat_tests)

without_rows : (ids : List ℤ) (rows : List RowData)
    → without_all (map table_row rows) ids ≡ map table_row (fold (without_key (λ r. r.n)) rows ids)
without_rows [] rows = refl
without_rows (id ∷ ids) rows =
    ap (λ l. without_all l ids) (filter-map (λ r. not (has_rowid id r)) table_row rows
    ∙ ap (map table_row) (filter_same _ _ (λ r. ap not (same_number id r)) rows))
    ∙ without_rows ids (without_key (λ r. r.n) rows id)

-- DELETE takes its rows away in any order
pub without_gone : (p : RowData → Bool) (ids : List ℤ) (rows : List RowData) → Rising rows
    → IsPermutation (map (λ r. r.n) (filter p rows)) ids
    → without_all (map table_row rows) ids ≡ map table_row (filter (λ r. not (p r)) rows)
without_gone p ids rows up same =
    without_rows ids rows
    ∙ ap (map table_row) (without_keys ids rows
    ∙ filter_same _ _ (λ r. ap not (sym (list_any-IsPermutation (λ id. int_eq r.n id) _ ids same))) rows
    ∙ sym (without_keys _ rows) ∙ removes_delete (λ r. r.n) p rows up)

none_of_base : (upto : ℤ) (base : List RowData) → pos 0 ≤ℤ upto → AllByRecursion (λ piece. pos 0 ≤ℤ piece.n) base
    → AllByRecursion (λ r. not (is_gone upto r) ≡ false) (map flipped (reverse base))
none_of_base upto base low all =
    all_flipped (λ r. not (is_gone upto r) ≡ false) base
    (all_weaker _ (λ q. not (is_gone upto (flipped q)) ≡ false) (λ q from. grind (arith, ints, nat_tests)) base all)

stays_same : (upto : ℤ) (rows : List RowData) → AllByRecursion (λ row. pos 0 ≤ℤ row.n) rows
    → filter (λ r. not (is_gone upto r)) rows ≡ filter (λ r. not (is_taken_in upto r)) rows
stays_same upto [] all = refl
stays_same upto (r ∷ rows) all =
    let here : is_gone upto r ≡ is_taken_in upto r = let from = all.0 in grind (arith, ints, nat_tests) in
    ap (λ b. cond (not b) (r ∷ filter (λ r. not (is_gone upto r)) rows) (filter (λ r. not (is_gone upto r)) rows)) here
    ∙ ap (λ l. cond (not (is_taken_in upto r)) (r ∷ l) l) (stays_same upto rows all.1)

-- the base goes, and the rows that it takes in
pub rows_left : (upto : ℤ) (stored : StoredData) → pos 0 ≤ℤ upto
    → AllByRecursion (λ piece. pos 0 ≤ℤ piece.n) stored.base
    → AllByRecursion (λ row. pos 0 ≤ℤ row.n) stored.rows
    → filter (λ r. not (is_gone upto r)) (all_rows stored) ≡ all_rows (rebased [] upto stored)
rows_left upto stored low base own =
    let pieces = map flipped (reverse stored.base) in
    filter-append (λ r. not (is_gone upto r)) pieces stored.rows
    ∙ ap₂ ◌++◌ (filter_none (λ r. not (is_gone upto r)) pieces (none_of_base upto stored.base low base))
    (stays_same upto stored.rows own)

-- ---- what the rows are read as

flipped_back : (rows : List RowData) → map flipped (map flipped rows) ≡ rows
flipped_back [] = refl
flipped_back (r ∷ rows) =
    ap₂ (λ n l. record { n = n; bytes = r.bytes } ∷ l) (twice r.n) (flipped_back rows)
  where
    twice : (n : ℤ) → pos 0 -ℤ pos 1 -ℤ (pos 0 -ℤ pos 1 -ℤ n) ≡ n
    twice n = grind (arith, ints)

pub read_back : (stored : StoredData) → AllByRecursion (λ piece. pos 0 ≤ℤ piece.n) stored.base
    → AllByRecursion (λ row. pos 0 ≤ℤ row.n) stored.rows → stored_in (all_rows stored) ≡ stored
read_back stored base own =
    let pieces = map flipped (reverse stored.base) in
    let under : RowData → Bool = λ r. int_lt r.n (pos 0) in
    let low = all_flipped (λ r. under r ≡ true) stored.base
    (all_weaker _ (λ q. under (flipped q) ≡ true) (λ q from. grind (arith, ints, nat_tests)) stored.base base) in
    let high = all_weaker _ (λ r. under r ≡ false) (λ r from. grind (arith, ints, nat_tests)) stored.rows own in
    let not_low = all_weaker _ (λ r. not (under r) ≡ false) (λ r h. ap not h) pieces low in
    let not_high = all_weaker _ (λ r. not (under r) ≡ true) (λ r h. ap not h) stored.rows high in
    let first = filter-append under pieces stored.rows
    ∙ ap₂ ◌++◌ (filter_all under pieces low) (filter_none under stored.rows high) ∙ append-nil pieces in
    let second = filter-append (λ r. not (under r)) pieces stored.rows
    ∙ ap₂ ◌++◌ (filter_none (λ r. not (under r)) pieces not_low)
    (filter_all (λ r. not (under r)) stored.rows not_high) in
    ap₂ (λ base rows. record { base = base; rows = rows })
    (ap (λ l. reverse (map flipped l)) first ∙ ap reverse (flipped_back (reverse stored.base))
    ∙ reverse-reverse stored.base) second
