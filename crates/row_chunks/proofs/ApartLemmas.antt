-- Rows in two parts, before a key and from it on: changes of either part leave the other as it is.
use Rattle.std.proofs.Common.{◌≡◌, ℕ, ◌+◌, ◌-◌, ◌≤◌, refl, ap, sym, ◌∙◌, arith, append_assoc, append-nil, length-append}
use Rattle.std.proofs.Common.{take, drop}
use Rattle.std.proofs.Math.Seq.{take-append_seam}
use Rattle.std.specs.Prelude.{Bool, true, false, not, List, [], ◌∷◌, ◌++◌, filter, length, Option, Some, None}
use Rattle.std.specs.List.{AllByRecursion}
use Rattle.std.specs.Ordering.{is_eq, is_gt}
use Rattle.std.specs.declared.cmp.Ordering.{Ordering}
use Rattle.std.specs.declared.cmp.Ordering.TheVariants.{Less, Equal, Greater}
use Rattle.alto_rows.specs.declared.key.Key.{Key}
use Rattle.alto_rows.specs.declared.value.Value.{Value}
use Rattle.alto_rows.specs.Changes.{Changes, changed}
use Rattle.alto_rows.specs.Order.{key_cmp}
use Rattle.alto_rows.specs.Place.{rows_before}
use Rattle.alto_rows.specs.Rows.{Rows, AreSorted, rows_from, with_value}
use Rattle.alto_rows.proofs.OrderLemmas.{key_cmp_exact, key_cmp_itself, key_cmp_total}
use Rattle.alto_rows.proofs.PlaceLemmas.{delete-past, put-past, rows_before-past, with_value-before}
use Rattle.alto_rows.proofs.RowsLemmas.{AreBefore, ArePast, before_middle, greater_back, less_back, past_first}
use Rattle.alto_rows.proofs.RowsLemmas.{past_lesser, sorted_rest, sorted_right}
use Rattle.alto_rows.proofs.RunLemmas.{AreFrom, rows_from-at, rows_from-past}
use Rattle.row_chunks.specs.Blocks.{AllBegin, Placed, joined}
use Rattle.row_chunks.specs.Split.{later_changes, own_changes}
use Rattle.row_chunks.proofs.BlockLemmas.{begin_drop, sorted_drop}

-- ---- the rows before a key

-- sorted rows are those before a key, and those from it on
rows_apart : (rows : Rows) (key : Key) → AreSorted rows → rows_before rows key ++ rows_from rows key ≡ rows
rows_apart [] key s = refl
rows_apart (row ∷ rows) key s = by (rows_apart rows key (sorted_rest row rows s)) (key_cmp key row.0) refl
  where
    by : rows_before rows key ++ rows_from rows key ≡ rows → (o : Ordering) → key_cmp key row.0 ≡ o
        → rows_before (row ∷ rows) key ++ rows_from (row ∷ rows) key ≡ row ∷ rows
    by below Greater e = rw e (ap (λ (more : Rows). row ∷ more) below)
    by below Equal e =
        let same : key ≡ row.0 = key_cmp_exact key row.0 e in
        let past : ArePast key rows = rw same (past_first row rows s) in
        let none : rows_before (row ∷ rows) key ≡ [] = rw e (rows_before-past key rows past) in
        rw (none, rows_from-at key row rows e past) refl
    by below Less e =
        let past : ArePast key (row ∷ rows) = (e, past_lesser key row.0 e rows (past_first row rows s)) in
        rw (rows_before-past key (row ∷ rows) past, rows_from-past key (row ∷ rows) past) refl

-- those from it on are no more than all
pub from_within : (rows : Rows) (key : Key) (tail : Rows) → AreSorted rows → tail ≡ rows_from rows key
    → length tail ≤ length rows
from_within rows key tail s is =
    let all : length (rows_before rows key) + length (rows_from rows key) ≡ length rows =
    sym (length-append (rows_before rows key) (rows_from rows key)) ∙ ap length (rows_apart rows key s) in
    let same : length tail ≡ length (rows_from rows key) = ap length is in
    omega arith

-- those before it come first
pub take_before : (rows : Rows) (key : Key) (tail : Rows) → AreSorted rows → tail ≡ rows_from rows key
    → take (length rows - length tail) rows ≡ rows_before rows key
take_before rows key tail s is =
    let all : length (rows_before rows key) + length (rows_from rows key) ≡ length rows =
    sym (length-append (rows_before rows key) (rows_from rows key)) ∙ ap length (rows_apart rows key s) in
    let same : length tail ≡ length (rows_from rows key) = ap length is in
    let count : length rows - length tail ≡ length (rows_before rows key) = omega arith in
    rw count
    (ap (λ (more : Rows). take (length (rows_before rows key)) more) (sym (rows_apart rows key s))
    ∙ take-append_seam (rows_before rows key) (rows_from rows key))

-- ---- one write

-- what holds of the keys of rows and of a written key holds of those after the write
with_value-all : (P : Key → Type 0) (rows : Rows) (key : Key) (value : Option Value)
    → AllByRecursion (λ row. P row.0) rows → P key
    → AllByRecursion (λ row. P row.0) (with_value rows key value)
with_value-all P [] key None h p = tt
with_value-all P [] key (Some value) h p = (p, tt)
with_value-all P (row ∷ rows) key None h p = by (with_value-all P rows key None h.1 p) (is_eq (key_cmp key row.0)) refl
  where
    by : AllByRecursion (λ row. P row.0) (with_value rows key None) → (b : Bool) → is_eq (key_cmp key row.0) ≡ b
        → AllByRecursion (λ row. P row.0) (with_value (row ∷ rows) key None)
    by below true e = rw e h.1
    by below false e = rw e (h.0, below)
with_value-all P (row ∷ rows) key (Some value) h p =
    by (with_value-all P rows key (Some value) h.1 p) (key_cmp key row.0) refl
  where
    by : AllByRecursion (λ row. P row.0) (with_value rows key (Some value)) → (o : Ordering) → key_cmp key row.0 ≡ o
        → AllByRecursion (λ row. P row.0) (with_value (row ∷ rows) key (Some value))
    by below Less e = rw e (p, h)
    by below Equal e = rw e h
    by below Greater e = rw e (h.0, below)

-- a write of a key leaves the rows after it
with_value-past : (key : Key) (value : Option Value) (front back : Rows) → ArePast key back
    → with_value (front ++ back) key value ≡ with_value front key value ++ back
with_value-past key None [] back h = delete-past key back h
with_value-past key (Some value) [] back h = put-past key value back h
with_value-past key None (row ∷ front) back h =
    by (with_value-past key None front back h) (is_eq (key_cmp key row.0)) refl
  where
    by : with_value (front ++ back) key None ≡ with_value front key None ++ back → (b : Bool)
        → is_eq (key_cmp key row.0) ≡ b
        → with_value ((row ∷ front) ++ back) key None ≡ with_value (row ∷ front) key None ++ back
    by below true e = rw e refl
    by below false e = rw e (ap (λ (more : Rows). row ∷ more) below)
with_value-past key (Some value) (row ∷ front) back h =
    by (with_value-past key (Some value) front back h) (key_cmp key row.0) refl
  where
    by : with_value (front ++ back) key (Some value) ≡ with_value front key (Some value) ++ back → (o : Ordering)
        → key_cmp key row.0 ≡ o
        → with_value ((row ∷ front) ++ back) key (Some value) ≡ with_value (row ∷ front) key (Some value) ++ back
    by below Less e = rw e refl
    by below Equal e = rw e refl
    by below Greater e = rw e (ap (λ (more : Rows). row ∷ more) below)

-- ---- many changes

-- rows from a key on are past a key before it
past_from : (low key : Key) → key_cmp low key ≡ Greater → (rows : Rows) → AreFrom low rows → ArePast key rows
past_from low key less [] h = tt
past_from low key less (row ∷ rows) h = (by (key_cmp low row.0) refl, past_from low key less rows h.1)
  where
    by : (o : Ordering) → key_cmp low row.0 ≡ o → key_cmp key row.0 ≡ Less
    by Less e = key_cmp_total.trans key low row.0 (greater_back low key less) e
    by Equal e = let same : low ≡ row.0 = key_cmp_exact low row.0 e in rw (← same) (greater_back low key less)
    by Greater e = let both : is_gt Greater ≡ false = rw e at h.0 in cc

-- rows before a key are before one from it on
before_from : (low key : Key) → is_gt (key_cmp low key) ≡ false → (rows : Rows) → AreBefore low rows
    → AreBefore key rows
before_from low key from [] h = tt
before_from low key from (row ∷ rows) h = (by (key_cmp low key) refl, before_from low key from rows h.1)
  where
    by : (o : Ordering) → key_cmp low key ≡ o → key_cmp key row.0 ≡ Greater
    by Less e = less_back row.0 key (key_cmp_total.trans row.0 low key (greater_back low row.0 h.0) e)
    by Equal e = let same : low ≡ key = key_cmp_exact low key e in rw (← same) h.0
    by Greater e = let both : is_gt Greater ≡ false = rw e at from in cc

-- changes before a key change the rows before it, and the others those from it on
changed-apart : (low : Key) (changes : Changes) (front back : Rows) → AreBefore low front → AreFrom low back
    → changed (front ++ back) changes
    ≡ changed front (filter (λ change. is_gt (key_cmp low change.0)) changes)
    ++ changed back (filter (λ change. not (is_gt (key_cmp low change.0))) changes)
changed-apart low [] front back b f = refl
changed-apart low (change ∷ changes) front back b f = by (changed-apart low changes) (is_gt (key_cmp low change.0)) refl
  where
    greater : (o : Ordering) → is_gt o ≡ true → o ≡ Greater
    greater Less e = cc
    greater Equal e = cc
    greater Greater e = refl

    by : ((front back : Rows) → AreBefore low front → AreFrom low back
        → changed (front ++ back) changes
        ≡ changed front (filter (λ change. is_gt (key_cmp low change.0)) changes)
        ++ changed back (filter (λ change. not (is_gt (key_cmp low change.0))) changes))
        → (g : Bool) → is_gt (key_cmp low change.0) ≡ g
        → changed (front ++ back) (change ∷ changes)
        ≡ changed front (filter (λ change. is_gt (key_cmp low change.0)) (change ∷ changes))
        ++ changed back (filter (λ change. not (is_gt (key_cmp low change.0))) (change ∷ changes))
    by rest true e =
        let before : key_cmp low change.0 ≡ Greater = greater (key_cmp low change.0) e in
        rw e
        (ap (λ (rows : Rows). changed rows changes)
        (with_value-past change.0 change.1 front back (past_from low change.0 before back f))
        ∙ rest (with_value front change.0 change.1) back (with_value-all (λ key. key_cmp low key ≡ Greater) front
        change.0 change.1 b before) f)
    by rest false e =
        rw e
        (ap (λ (rows : Rows). changed rows changes)
        (with_value-before change.0 change.1 front back (before_from low change.0 e front b))
        ∙ rest front (with_value back change.0 change.1) b (with_value-all (λ key. is_gt (key_cmp low key) ≡ false) back
        change.0 change.1 f e))

-- ---- blocks

-- rows after a key are from it on
past_are_from : (low : Key) (rows : Rows) → ArePast low rows → AreFrom low rows
past_are_from low [] h = tt
past_are_from low (row ∷ rows) h = (ap is_gt h.0, past_are_from low rows h.1)

-- a block has its own changes, and the blocks behind it the others
pub changed_block : (slot : Placed) (slots : List Placed) (changes : Changes) → AllBegin slots
    → AreSorted (slot.rows ++ joined slots)
    → changed (slot.rows ++ joined slots) changes ≡ changed slot.rows (own_changes slots changes)
    ++ changed (joined slots) (later_changes slots changes)
changed_block slot [] changes b s = rw (append-nil slot.rows) (sym (append-nil (changed slot.rows changes)))
changed_block slot (next ∷ slots) changes b s =
    let more = b.0.rest ++ joined slots in
    let begun : AreSorted (slot.rows ++ (next.first, b.0.value) ∷ more) = rw b.0.whole at s in
    let past : ArePast next.first more =
    past_first (next.first, b.0.value) more (sorted_right slot.rows ((next.first, b.0.value) ∷ more) begun) in
    let from : AreFrom next.first ((next.first, b.0.value) ∷ more) =
    (ap is_gt (key_cmp_itself next.first), past_are_from next.first more past) in
    rw b.0.whole
    (changed-apart next.first changes slot.rows ((next.first, b.0.value) ∷ more)
    (before_middle slot.rows (next.first, b.0.value) more begun) from)

-- the step of a pass over blocks
pub changed_more : (done whole : Rows) (slots : List Placed) (at : ℕ) (slot : Placed) (rest : Changes) → AllBegin slots
    → AreSorted (joined slots)
    → drop at slots ≡ slot ∷ drop (at + 1) slots → done ++ changed (joined (drop at slots)) rest ≡ whole
    → (done ++ changed slot.rows (own_changes (drop (at + 1) slots) rest)) ++ changed (joined (drop (at + 1) slots))
    (later_changes (drop (at + 1) slots) rest) ≡ whole
changed_more done whole slots at slot rest b s step e =
    let sorted : AreSorted (slot.rows ++ joined (drop (at + 1) slots)) = rw step at (sorted_drop slots at s) in
    let all : done ++ changed (slot.rows ++ joined (drop (at + 1) slots)) rest ≡ whole = rw step at e in
    append_assoc done (changed slot.rows (own_changes (drop (at + 1) slots) rest))
    (changed (joined (drop (at + 1) slots)) (later_changes (drop (at + 1) slots) rest))
    ∙ ap (λ (more : Rows). done ++ more)
    (sym (changed_block slot (drop (at + 1) slots) rest (begin_drop slots (at + 1) b) sorted))
    ∙ all
