-- Rows in blocks, cut: which blocks are passed over, and what is left of the others.
use Rattle.std.proofs.Common.{◌≡◌, ℕ, zero, suc, ◌<◌, ◌≤◌, ◌-◌, refl, ap, sym, ◌∙◌, arith, append_assoc, append-nil}
use Rattle.std.proofs.Common.{get_or, take, drop, map}
use Rattle.std.proofs.lemmas.List.{nil_from_length, take-append-drop}
use Rattle.std.proofs.lemmas.List.Elements.{filter-append}
use Rattle.std.specs.Prelude.{not, true, false, List, [], ◌∷◌, ◌++◌, length, Some, slice_get}
use Rattle.std.specs.List.{AllByRecursion}
use Rattle.std.specs.List.Sorted.{IsPartitionPoint, IsStrictlySortedBy}
use Rattle.std.specs.declared.cmp.Ordering.TheVariants.{Less}
use Rattle.alto_rows.specs.declared.key.Key.{Key}
use Rattle.alto_rows.specs.declared.value.Value.{Value}
use Rattle.alto_rows.specs.Order.{key_cmp}
use Rattle.alto_rows.specs.Rows.{Rows, AreSorted, IsRunOf}
use Rattle.alto_rows.proofs.RowsLemmas.{AreBefore, ArePast, before_middle, greater_back, past_first, sorted_left}
use Rattle.alto_rows.proofs.RowsLemmas.{sorted_right}
use Rattle.row_chunks.specs.declared.cut.Cut.{Cut}
use Rattle.row_chunks.specs.Blocks.{AllBegin, BeginsAt, Placed, first_rows, joined}
use Rattle.row_chunks.specs.Cut.{keeps, rows_behind}
use Rattle.row_chunks.specs.Passed.{IsPassed}
use Rattle.row_chunks.proofs.CutLemmas.{keeps_later, passes_earlier, kept_at_point, passed_at_point}

-- ---- rows that are cut

-- rows before a cut aren't behind it
pub rows_behind-passed : (cut : Cut) (front rest : Rows) → AllByRecursion (λ row. keeps cut row.0 ≡ false) front
    → rows_behind cut (front ++ rest) ≡ rows_behind cut rest
rows_behind-passed cut [] rest h = refl
rows_behind-passed cut (row ∷ front) rest h = rw h.0 (rows_behind-passed cut front rest h.1)

-- rows behind it all are
pub rows_behind-kept : (cut : Cut) (rows : Rows) → AllByRecursion (λ row. keeps cut row.0 ≡ true) rows
    → rows_behind cut rows ≡ rows
rows_behind-kept cut [] h = refl
rows_behind-kept cut (row ∷ rows) h = rw h.0 (ap (λ (more : Rows). row ∷ more) (rows_behind-kept cut rows h.1))

-- where the last of sorted rows isn't behind it, none is
last_passed : (cut : Cut) (first : Key × Value) (rows : Rows) (row : Key × Value) → AreSorted (first ∷ rows)
    → Some row ≡ slice_get (first ∷ rows) (length rows) → keeps cut row.0 ≡ false
    → AllByRecursion (λ row. keeps cut row.0 ≡ false) (first ∷ rows)
last_passed cut first [] row s is k = let one : row ≡ first = cc in (rw one at k, tt)
last_passed cut first (next ∷ rows) row s is k =
    let below = last_passed cut next rows row (sorted_right (first ∷ []) (next ∷ rows) s) is k in
    (passes_earlier cut first.0 next.0 (past_first first (next ∷ rows) s).0 below.0, below)

pub none_behind : (cut : Cut) (rows : Rows) (row : Key × Value) → AreSorted rows
    → Some row ≡ slice_get rows (length rows - 1)
    → keeps cut row.0 ≡ false → rows_behind cut rows ≡ []
none_behind cut [] row s is k = refl
none_behind cut (first ∷ rows) row s is k =
    let place : length (first ∷ rows) - 1 ≡ length rows = omega arith in
    let passed = last_passed cut first rows row s (is ∙ ap (slice_get (first ∷ rows)) place) k in
    ap (rows_behind cut) (sym (append-nil (first ∷ rows))) ∙ rows_behind-passed cut (first ∷ rows) [] passed

-- what stands behind the place of a cut
pub drop_at_cut : (cut : Cut) (rows : Rows) (at : ℕ)
    → IsPartitionPoint (λ row. not (keeps cut row.0) ≡ true) (λ row. not (keeps cut row.0) ≡ false) rows at
    → drop at rows ≡ rows_behind cut rows
drop_at_cut cut rows at point =
    sym
    (ap (λ all. rows_behind cut all) (sym (take-append-drop at rows))
    ∙ rows_behind-passed cut (take at rows) (drop at rows)
    (passed_at_point (λ (row : Key × Value). row.0) cut rows at point)
    ∙ rows_behind-kept cut (drop at rows) (kept_at_point (λ (row : Key × Value). row.0) cut rows at point))

-- rows before a key that isn't behind a cut aren't either
passed_before : (cut : Cut) (key : Key) (rows : Rows) → keeps cut key ≡ false → AreBefore key rows
    → AllByRecursion (λ row. keeps cut row.0 ≡ false) rows
passed_before cut key [] k h = tt
passed_before cut key (row ∷ rows) k h =
    (passes_earlier cut row.0 key (greater_back key row.0 h.0) k, passed_before cut key rows k h.1)

-- rows after a key that is behind a cut are too
kept_past : (cut : Cut) (key : Key) (rows : Rows) → keeps cut key ≡ true → ArePast key rows
    → AllByRecursion (λ row. keeps cut row.0 ≡ true) rows
kept_past cut key [] k h = tt
kept_past cut key (row ∷ rows) k h = (keeps_later cut key row.0 h.0 k, kept_past cut key rows k h.1)

-- ---- first keys

-- the rows of blocks that come after one another
pub joined-append : (front back : List Placed) → joined (front ++ back) ≡ joined front ++ joined back
joined-append [] back = refl
joined-append (slot ∷ front) back =
    ap (λ (more : Rows). slot.rows ++ more) (joined-append front back)
    ∙ sym (append_assoc slot.rows (joined front) (joined back))

-- where rows are past a key, so are the last of them
past_right : (key : Key) (front back : Rows) → ArePast key (front ++ back) → ArePast key back
past_right key [] back h = h
past_right key (row ∷ front) back h = past_right key front back h.1

-- the first keys of blocks past a key are
past_firsts : (key : Key) (slots : List Placed) → AllBegin slots → ArePast key (joined slots)
    → AllByRecursion (λ y. key_cmp key y ≡ Less) (map (λ slot. slot.first) slots)
past_firsts key [] b h = tt
past_firsts key (slot ∷ slots) b h =
    let begun : ArePast key (((slot.first, b.0.value) ∷ b.0.rest) ++ joined slots) = rw b.0.whole at h in
    (begun.0, past_firsts key slots b.1 (past_right key slot.rows (joined slots) h))

-- the first keys of sorted blocks are sorted
pub sorted_firsts : (slots : List Placed) → AllBegin slots → AreSorted (joined slots)
    → IsStrictlySortedBy key_cmp (map (λ slot. slot.first) slots)
unfolding IsStrictlySortedBy
sorted_firsts [] b s = tt
sorted_firsts (slot ∷ slots) b s =
    let begun : AreSorted ((slot.first, b.0.value) ∷ (b.0.rest ++ joined slots)) = rw b.0.whole at s in (
      past_firsts slot.first slots b.1 (past_right slot.first b.0.rest (joined slots)
          (past_first (slot.first, b.0.value) (b.0.rest ++ joined slots) begun)),
      sorted_firsts slots b.1 (sorted_right slot.rows (joined slots) s),
    )

-- ---- blocks that are cut

-- what a search of first keys tells
pub passed_from_point : (cut : Cut) (slots : List Placed) (at : ℕ) → at ≤ length slots
    → IsPartitionPoint (λ slot. not (keeps cut slot.first) ≡ true) (λ slot. not (keeps cut slot.first) ≡ false) slots at
    → IsPassed cut slots at
passed_from_point cut slots at within point =
    record {
      within = within;
      passed = passed_at_point (λ (slot : Placed). slot.first) cut slots at point;
      kept = kept_at_point (λ (slot : Placed). slot.first) cut slots at point;
    }

-- blocks that all begin behind a cut stand behind it
kept_blocks : (cut : Cut) (slots : List Placed) → AllBegin slots → AreSorted (joined slots)
    → AllByRecursion (λ slot. keeps cut slot.first ≡ true) slots
    → rows_behind cut (joined slots) ≡ joined slots
kept_blocks cut [] b s k = refl
kept_blocks cut (slot ∷ slots) b s k =
    let begun : AreSorted ((slot.first, b.0.value) ∷ (b.0.rest ++ joined slots)) = rw b.0.whole at s in
    rw b.0.whole
    (rows_behind-kept cut ((slot.first, b.0.value) ∷ (b.0.rest ++ joined slots)) (
      k.0,
      kept_past cut slot.first (b.0.rest ++ joined slots)
          k.0 (past_first (slot.first, b.0.value) (b.0.rest ++ joined slots) begun),
    ))

-- where no block begins before a cut, all rows are behind it
pub behind_none : (cut : Cut) (slots : List Placed) → AllBegin slots → AreSorted (joined slots) → IsPassed cut slots 0
    → rows_behind cut (joined slots) ≡ joined slots
behind_none cut slots b s p = kept_blocks cut slots b s p.kept

-- a block behind which another begins before a cut is passed over
passed_block : (cut : Cut) (front : Rows) (slot : Placed) (slots : List Placed) → BeginsAt slot.first slot.rows
    → AreSorted (front ++ joined (slot ∷ slots))
    → keeps cut slot.first ≡ false
    → rows_behind cut (front ++ joined (slot ∷ slots)) ≡ rows_behind cut (joined (slot ∷ slots))
passed_block cut front slot slots b s k =
    let begun : AreSorted (front ++ (slot.first, b.value) ∷ (b.rest ++ joined slots)) = rw b.whole at s in
    rows_behind-passed cut front (joined (slot ∷ slots))
    (passed_before cut slot.first front
    k (before_middle front (slot.first, b.value) (b.rest ++ joined slots) begun))

-- otherwise the last block that begins before it is cut, and those behind stand behind it
pub behind_round : (cut : Cut) (slots : List Placed) (last : ℕ) → AllBegin slots → AreSorted (joined slots)
    → IsPassed cut slots (suc last)
    → rows_behind cut (joined slots) ≡ rows_behind cut (first_rows (drop last slots)) ++ joined (drop (suc last) slots)
behind_round cut [] last b s p = absurd (let none : suc last ≤ 0 = p.within in omega arith)
behind_round cut (slot ∷ slots) zero b s p =
    filter-append (λ row. keeps cut row.0) slot.rows (joined slots)
    ∙ ap (λ (more : Rows). rows_behind cut slot.rows ++ more)
    (kept_blocks cut slots b.1 (sorted_right slot.rows (joined slots) s) p.kept)
behind_round cut (slot ∷ []) (suc last) b s p = absurd (let none : suc (suc last) ≤ 1 = p.within in omega arith)
behind_round cut (slot ∷ (next ∷ slots)) (suc last) b s p =
    passed_block cut slot.rows next slots b.1.0 s p.passed.1.0
    ∙ behind_round cut (next ∷ slots) last b.1 (sorted_right slot.rows (joined (next ∷ slots)) s)
    (record {
      within = let most : suc (suc last) ≤ suc (length (next ∷ slots)) = p.within in
          omega arith;
      passed = p.passed.1;
      kept = p.kept;
    })

-- ---- places of a list

-- the blocks from a place on begin at their first keys
pub begin_drop : (slots : List Placed) (at : ℕ) → AllBegin slots → AllBegin (drop at slots)
begin_drop [] zero b = tt
begin_drop [] (suc at) b = tt
begin_drop (slot ∷ slots) zero b = b
begin_drop (slot ∷ slots) (suc at) b = begin_drop slots at b.1

-- they are sorted
pub sorted_drop : (slots : List Placed) (at : ℕ) → AreSorted (joined slots) → AreSorted (joined (drop at slots))
sorted_drop [] zero s = s
sorted_drop [] (suc at) s = s
sorted_drop (slot ∷ slots) zero s = s
sorted_drop (slot ∷ slots) (suc at) s = sorted_drop slots at (sorted_right slot.rows (joined slots) s)

-- so is a block of sorted rows
sorted_at : (slots : List Placed) (at : ℕ) → AreSorted (joined slots) → AreSorted (first_rows (drop at slots))
sorted_at [] zero s = s
sorted_at [] (suc at) s = s
sorted_at (slot ∷ slots) zero s = sorted_left slot.rows (joined slots) s
sorted_at (slot ∷ slots) (suc at) s = sorted_at slots at (sorted_right slot.rows (joined slots) s)

-- the block at a place is the first from there on
pub rows_at : (slots : List Placed) (at : ℕ) (slot : Placed) → at < length slots → slot ≡ get_or slots at slot
    → first_rows (drop at slots) ≡ slot.rows
rows_at [] at slot within is = absurd (omega arith)
rows_at (first ∷ slots) zero slot within is = ap (λ (one : Placed). one.rows) (sym is)
rows_at (first ∷ slots) (suc at) slot within is = rows_at slots at slot (omega arith) is

-- and it is sorted
pub sorted_rows_at : (slots : List Placed) (at : ℕ) (slot : Placed) → at < length slots → slot ≡ get_or slots at slot
    → AreSorted (joined slots) → AreSorted slot.rows
sorted_rows_at slots at slot within is s = rw (← rows_at slots at slot within is) (sorted_at slots at s)

-- ---- runs

-- all rows are a run
pub run_of_all : (rows : Rows) → IsRunOf rows rows
run_of_all rows = record { rest = []; whole = sym (append-nil rows); some = λ none. none }

-- a run of the first rows is one of all, where it has rows
run_of_front : (front back run : Rows) → IsRunOf front run → (run ≡ [] → ⊥) → IsRunOf (front ++ back) run
run_of_front front back run r some =
    record {
      rest = r.rest ++ back;
      whole = ap (λ (more : Rows). more ++ back) r.whole ∙ append_assoc run r.rest back;
      some = λ none. absurd (some none);
    }

-- a run of the first block is one of all rows
pub first_run : (slots : List Placed) (run : Rows) → AllBegin slots → IsRunOf (first_rows slots) run
    → IsRunOf (joined slots) run
first_run [] run b r = r
first_run (slot ∷ slots) run b r = run_of_front slot.rows (joined slots) run r (λ none. some (r.some none))
  where
    some : slot.rows ≡ [] → ⊥
    some none = let begun : (slot.first, b.0.value) ∷ b.0.rest ≡ [] = rw b.0.whole at none in cc

-- where no block begins before a cut, a run of all rows is one behind it
pub run_at_start : (cut : Cut) (slots : List Placed) (at : ℕ) (run : Rows) → at ≡ 0 → AllBegin slots
    → AreSorted (joined slots)
    → IsPassed cut slots at → IsRunOf (joined slots) run → IsRunOf (rows_behind cut (joined slots)) run
run_at_start cut slots at run start b s p r = rw (behind_none cut slots b s (rw start at p)) r

-- otherwise a run of the block that the cut goes through, if there is one
pub run_in_round : (cut : Cut) (slots : List Placed) (last at : ℕ) (run : Rows) → at ≡ suc last → AllBegin slots
    → AreSorted (joined slots) → IsPassed cut slots at
    → IsRunOf (rows_behind cut (first_rows (drop last slots))) run → (run ≡ [] → ⊥)
    → IsRunOf (rows_behind cut (joined slots)) run
run_in_round cut slots last at run next b s p r some =
    let round : IsPassed cut slots (suc last) = rw next at p in
    rw (behind_round cut slots last b s round) (run_of_front (rows_behind cut (first_rows (drop last slots)))
    (joined (drop (suc last) slots)) run r some)

-- and of the blocks behind it, if there is none
pub run_past_round : (cut : Cut) (slots : List Placed) (last at : ℕ) (rest run : Rows) → at ≡ suc last → AllBegin slots
    → AreSorted (joined slots) → IsPassed cut slots at
    → IsRunOf (rows_behind cut (first_rows (drop last slots))) rest → length rest ≡ 0
    → IsRunOf (joined (drop at slots)) run
    → IsRunOf (rows_behind cut (joined slots)) run
run_past_round cut slots last at rest run next b s p r none later =
    let used : rows_behind cut (first_rows (drop last slots)) ≡ [] = r.some (nil_from_length rest none) in
    rw (behind_round cut slots last b s (rw next at p), used, ← next) later
