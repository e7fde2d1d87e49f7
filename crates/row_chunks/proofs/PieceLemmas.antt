-- Lists of items in pieces, and the blocks that are made of them.
use Rattle.std.proofs.Common.{◌≡◌, ℕ, ◌*◌, ◌≤◌, ap, sym, ◌∙◌, arith, append_assoc, append-nil}
use Rattle.std.proofs.lemmas.List.Concat.{flat_map-append}
use Rattle.std.proofs.lemmas.Nat.{mul-le}
use Rattle.std.specs.Prelude.{List, [], ◌∷◌, ◌++◌}
use Rattle.std.specs.List.{AllByRecursion, flat_map}
use Rattle.alto_rows.specs.Rows.{Rows}
use Rattle.row_chunks.specs.Blocks.{AllBegin, Placed, joined}
use Rattle.row_chunks.proofs.BlockLemmas.{joined-append}

-- what holds of each holds with one more
pub all_push : {X : Type 0} (P : X → Type 0) (xs : List X) (x : X) → AllByRecursion P xs → P x
    → AllByRecursion P (xs ++ x ∷ [])
all_push P [] x h p = (p, tt)
all_push P (y ∷ xs) x h p = (h.0, all_push P xs x h.1 p)

-- blocks that begin at their first keys, in two parts
pub begin_left : (front back : List Placed) → AllBegin (front ++ back) → AllBegin front
begin_left [] back b = tt
begin_left (slot ∷ front) back b = (b.0, begin_left front back b.1)

pub begin_right : (front back : List Placed) → AllBegin (front ++ back) → AllBegin back
begin_right [] back b = b
begin_right (slot ∷ front) back b = begin_right front back b.1

-- a list more, and the pieces left are all
pub list_more : (lists : List Rows) (list : Rows) (piece others : List Placed) (whole : Rows) → list ≡ joined piece
    → flat_map (λ list. list) lists ++ joined (piece ++ others) ≡ whole
    → flat_map (λ list. list) (lists ++ list ∷ []) ++ joined others ≡ whole
list_more lists list piece others whole is e =
    ap (λ (more : Rows). more ++ joined others)
    (flat_map-append (λ (list : Rows). list) lists (list ∷ [])
    ∙ ap (λ (more : Rows). flat_map (λ (list : Rows). list) lists ++ more) (append-nil list ∙ is))
    ∙ append_assoc (flat_map (λ (list : Rows). list) lists) (joined piece) (joined others)
    ∙ ap (λ (more : Rows). flat_map (λ (list : Rows). list) lists ++ more) (sym (joined-append piece others))
    ∙ e

-- a list of so few blocks has no more rows than they may have
pub small_list : (blocks rows most : ℕ) → blocks ≤ 16 → rows ≤ blocks * most → rows ≤ 16 * most
small_list blocks rows most few room =
    let all : blocks * most ≤ 16 * most = mul-le blocks most 16 most few (omega arith) in
    omega arith
