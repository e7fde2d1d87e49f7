-- Chunks laid one behind another: what one more adds, and how many rows there are.
use Rattle.std.proofs.Common.{◌≡◌, ℕ, zero, suc, ◌+◌, ◌<◌, ◌≤◌, refl, ap, sym, ◌∙◌, arith, append-nil, length-append}
use Rattle.std.proofs.Common.{drop, get_or}
use Rattle.std.proofs.lemmas.List.Filters.{length-filter_both}
use Rattle.std.specs.Prelude.{not, List, [], ◌∷◌, ◌++◌, filter, length, Some, None}
use Rattle.alto_rows.specs.declared.key.Key.{Key}
use Rattle.alto_rows.specs.Rows.{Rows, AreSorted}
use Rattle.row_chunks.specs.declared.cut.Cut.{Cut}
use Rattle.row_chunks.specs.Blocks.{AllBegin, AreCounted, BeginsAt, Placed, first_key, first_rows, joined}
use Rattle.row_chunks.specs.Cut.{keeps, rows_behind}
use Rattle.row_chunks.specs.Passed.{IsPassed}
use Rattle.row_chunks.proofs.BlockLemmas.{behind_none, behind_round, joined-append}

-- one block more begins at its first key too
pub begin_more : (slots : List Placed) (slot : Placed) → AllBegin slots → BeginsAt slot.first slot.rows
    → AllBegin (slots ++ slot ∷ [])
begin_more [] slot b begins = (begins, tt)
begin_more (first ∷ slots) slot b begins = (b.0, begin_more slots slot b.1 begins)

-- and has its number of rows before it
pub counted_more : (before total after : ℕ) (slots : List Placed) (slot : Placed) → AreCounted before total slots
    → slot.before ≡ total
    → after ≡ total + length slot.rows → AreCounted before after (slots ++ slot ∷ [])
counted_more before total after [] slot c place sum = (place ∙ sym c, rw c (sym sum))
counted_more before total after (first ∷ slots) slot c place sum =
    (c.0, counted_more (before + length first.rows) total after slots slot c.1 place sum)

-- its rows come last
pub joined_more : (slots : List Placed) (slot : Placed) → joined (slots ++ slot ∷ []) ≡ joined slots ++ slot.rows
joined_more slots slot = joined-append slots (slot ∷ [])
    ∙ ap (λ (more : Rows). joined slots ++ more) (append-nil slot.rows)

-- so many rows there are
pub counted_total : (before total : ℕ) (slots : List Placed) → AreCounted before total slots
    → before + length (joined slots) ≡ total
counted_total before total [] c = omega arith
counted_total before total (slot ∷ slots) c =
    let below : before + length slot.rows + length (joined slots) ≡ total =
    counted_total (before + length slot.rows) total slots c.1 in
    let sum : length (slot.rows ++ joined slots) ≡ length slot.rows + length (joined slots) =
    length-append slot.rows (joined slots) in
    omega arith

-- from a block on there are so many as aren't before it
counted_at : (before total : ℕ) (slots : List Placed) (at : ℕ) (d : Placed) → AreCounted before total slots
    → at < length slots
    → (get_or slots at d).before + length (joined (drop at slots)) ≡ total
counted_at before total [] at d c within = absurd (omega arith)
counted_at before total (first ∷ slots) zero d c within = rw c.0 (counted_total before total (first ∷ slots) c)
counted_at before total (first ∷ slots) (suc at) d c within =
    counted_at (before + length first.rows) total slots at d c.1 (omega arith)

-- and so from the block at a place
pub counted_from : (total : ℕ) (slots : List Placed) (at : ℕ) (slot : Placed) → AreCounted 0 total slots
    → at < length slots → slot ≡ get_or slots at slot
    → slot.before + length (joined (drop at slots)) ≡ total
counted_from total slots at slot c within is =
    ap (λ (one : Placed). one.before + length (joined (drop at slots))) is ∙ counted_at 0 total slots at slot c within

-- so many rows there are in all
pub counted_all : (total : ℕ) (slots : List Placed) → AreCounted 0 total slots → total ≡ length (joined slots)
counted_all total slots c =
    let all : 0 + length (joined slots) ≡ total = counted_total 0 total slots c in
    omega arith

-- there are no more behind a cut
pub counted_behind : (cut : Cut) (total : ℕ) (slots : List Placed) → AreCounted 0 total slots
    → length (rows_behind cut (joined slots)) ≤ total
counted_behind cut total slots c =
    let all : total ≡ length (joined slots) = counted_all total slots c in
    let both : length (rows_behind cut (joined slots)) + length (filter (λ row. not (keeps cut row.0)) (joined slots))
    ≡ length (joined slots) =
    length-filter_both (λ row. keeps cut row.0) (λ row. not (keeps cut row.0)) (λ row. refl) (joined slots) in
    omega arith

-- where no block begins before a cut, all rows are behind it
pub count_at_start : (cut : Cut) (slots : List Placed) (at n : ℕ) → at ≡ 0 → AllBegin slots → AreSorted (joined slots)
    → IsPassed cut slots at
    → n ≡ length (joined (drop at slots)) → n ≡ length (rows_behind cut (joined slots))
count_at_start cut slots at n start b s p is =
    let none : IsPassed cut slots 0 = rw start at p in
    let all : n ≡ length (joined slots) = is ∙ rw start refl in
    all ∙ ap length (sym (behind_none cut slots b s none))

-- otherwise those of the block that the cut goes through, and all of those behind
pub count_in_round : (cut : Cut) (slots : List Placed) (last at m n : ℕ) → at ≡ suc last → AllBegin slots
    → AreSorted (joined slots) → IsPassed cut slots at
    → m ≡ length (rows_behind cut (first_rows (drop last slots))) → n ≡ length (joined (drop at slots))
    → m + n ≡ length (rows_behind cut (joined slots))
count_in_round cut slots last at m n next b s p is count =
    let round : IsPassed cut slots (suc last) = rw next at p in
    let later : n ≡ length (joined (drop (suc last) slots)) = count ∙ rw next refl in
    rw (is, later, behind_round cut slots last b s round)
    (sym (length-append (rows_behind cut (first_rows (drop last slots))) (joined (drop (suc last) slots))))

-- ---- first keys

-- rows begin at their first key
pub begins_at_first : (rows : Rows) (key : Key) → first_key rows ≡ Some key → BeginsAt key rows
begins_at_first [] key is = cc
begins_at_first (row ∷ rows) key is =
    let same : row.0 ≡ key = cc in
    record { value = row.1; rest = rows; whole = ap (λ (first : Key). (first, row.1) ∷ rows) same }

-- and none without one
pub none_without_first : (rows : Rows) → first_key rows ≡ None → rows ≡ []
none_without_first [] is = refl
none_without_first (row ∷ rows) is = cc
