-- From blocks to rows: what covers a number holds the address, and the innermost block is that of the longest prefix.
use Rattle.std.proofs.Common.{◌≡◌, ℕ, ◌+◌, ◌-◌, ◌*◌, ◌/◌, ◌%◌, ◌^◌, ◌<◌, ◌≤◌, ap, sym, ◌∙◌, arith, subst, refl, get_or}
use Rattle.std.proofs.Common.{take}
use Rattle.std.specs.Prelude.{List, [], ◌∷◌, ◌++◌, length, Option, Some, None}
use Rattle.std.specs.List.{All}
use Rattle.std.proofs.lemmas.List.{length_push, take_all}
use Rattle.std.proofs.lemmas.List.Elements.{All-contains, All-more, All-nil, All-push, All-weaker, Contains-append_left}
use Rattle.std.proofs.lemmas.List.Elements.{Contains-push}
use Rattle.std.proofs.lemmas.List.Sorted.{All-permutation, Contains-permutation, length_permutation}
use Rattle.std.specs.List.Sorted.{IsPermutation}
use Rattle.std.proofs.lemmas.Nat.{div-add-mod', mod_below, pow_pos, div-mul-add}
use Rattle.alto_addr.specs.declared.addr.Addr.{Addr}
use Rattle.alto_addr.specs.declared.addr.Addr.TheVariants as addr
use Rattle.alto_addr.specs.Bits.{Holds}
use Rattle.pid_prefix.specs.declared.block.Block.{Block}
use Rattle.pid_prefix.specs.declared.family.Family.{Family}
use Rattle.pid_prefix.specs.declared.family.Family.TheVariants as families
use Rattle.pid_prefix.specs.declared.range.Range.{Range}
use Rattle.pid_prefix.specs.Blocks.{Covers, IsInnermost}
use Rattle.pid_prefix.specs.Families.{address_of}
use Rattle.pid_prefix.specs.Longest.{Row, IsHeldBy}
use Rattle.pid_prefix.specs.Ranges.{row_at}
use Rattle.pid_prefix.specs.Sweep.{IsSweptTo}
use Rattle.pid_prefix.specs.Table.{AreBlocksOf, AreRangesOf, HasBlock, HasRow, IsBlockOf, IsLongestAt, StandsAt}

-- ---- a number and an address

-- numbers with the same quotient are in one block
agree_within : (first size number : ℕ) → 0 < size → first % size ≡ 0 → first / size ≡ number / size
    → (first ≤ number) × (number < first + size)
agree_within first size number some none same =
    let whole : first / size * size ≡ number / size * size = ap (λ n. n * size) same in (
      omega (arith, div-add-mod' first size, div-add-mod' number size),
      omega (arith, div-add-mod' first size, div-add-mod' number size, mod_below number size some),
    )

-- and the other way round
within_agree : (first size number : ℕ) → 0 < size → first % size ≡ 0 → first ≤ number → number < first + size
    → first / size ≡ number / size
within_agree first size number some none low high =
    let is : number ≡ first / size * size + (number - first) = omega (arith, div-add-mod' first size) in
    sym (ap (λ n. n / size) is ∙ div-mul-add (first / size) size (number - first) (omega arith))

-- the prefix holds the address of a number where this has the quotient of the block's first
held_is : (family : Family) (row : Row) (block : Block) (number : ℕ) → IsBlockOf family row block
    → IsHeldBy (address_of family number) row ≡ (block.first / 2 ^ (128 - block.len) ≡ number / 2 ^ (128 - block.len))
held_is families.V4 row block number is =
    let bits : 32 - row.0.len ≡ 128 - block.len = omega (arith, is.1) in
    ap (λ a. Holds a row.0.len (addr.V4 number)) is.0 ∙ ap (λ k. block.first / 2 ^ k ≡ number / 2 ^ k) bits
held_is families.V6 row block number is =
    let bits : 128 - row.0.len ≡ 128 - block.len = omega (arith, is.1) in
    ap (λ a. Holds a row.0.len (addr.V6 number)) is.0 ∙ ap (λ k. block.first / 2 ^ k ≡ number / 2 ^ k) bits

-- a block covers the number: the prefix holds its address
covered_held : (family : Family) (row : Row) (block : Block) (number : ℕ) → IsBlockOf family row block
    → Covers block number → IsHeldBy (address_of family number) row
covered_held family row block number is covers =
    subst (λ (T : Type 0). T) (sym (held_is family row block number is))
    (within_agree block.first (2 ^ (128 - block.len)) number (pow_pos (128 - block.len)) block.is_block.1
    covers.0 covers.1)

-- and the other way round
held_covered : (family : Family) (row : Row) (block : Block) (number : ℕ) → IsBlockOf family row block
    → IsHeldBy (address_of family number) row → Covers block number
held_covered family row block number is held =
    agree_within block.first (2 ^ (128 - block.len)) number (pow_pos (128 - block.len)) block.is_block.1
    (subst (λ (T : Type 0). T) (held_is family row block number is) held)

-- a prefix that holds an address of a family is of the family
held_family : (family : Family) (row : Row) (number : ℕ) → IsHeldBy (address_of family number) row
    → (fixed : ℕ) × (row.0.addr ≡ address_of family fixed)
held_family family row number held = by family row.0.addr held
  where
    by : (family : Family) (a : Addr) → Holds a row.0.len (address_of family number)
        → (fixed : ℕ) × (a ≡ address_of family fixed)
    by families.V4 (addr.V4 fixed) held = (fixed, refl)
    by families.V6 (addr.V6 fixed) held = (fixed, refl)
    by families.V4 (addr.V6 fixed) held = absurd held
    by families.V6 (addr.V4 fixed) held = absurd held

-- ---- the longest prefix

-- the innermost block is that of the longest prefix
pub innermost_longest : (family : Family) (rows : List Row) (blocks : List Block) (number : ℕ) (place : Option ℕ)
    → AreBlocksOf family rows blocks
    → IsInnermost blocks number place → IsLongestAt rows (address_of family number) place
innermost_longest family rows blocks number None are never =
    All-weaker (λ row. HasBlock family blocks row) (λ row. IsHeldBy (address_of family number) row → ⊥)
    (λ row has held.
    let fixed = held_family family row number held in
    let block = has fixed.0 fixed.1 in
    All-contains (λ block. Covers block number
    → ⊥) blocks block.0 never block.1 (held_covered family row block.0 number block.2 held))
    rows are.all
innermost_longest family rows blocks number (Some place) are inner =
    let own : HasRow family rows inner.0 =
    All-contains (λ block. HasRow family rows block) blocks inner.0 are.each inner.1 in (
      own.0,
      subst (λ at. StandsAt rows at own.0) inner.2 own.1,
      covered_held family own.0 inner.0 number own.2 inner.3,
      All-weaker (λ row. HasBlock family blocks row) (λ row. IsHeldBy (address_of family number) row
          → row.0.len ≤ own.0.0.len)
          (λ row has held.
          let fixed = held_family family row number held in
          let block = has fixed.0 fixed.1 in
          let low : block.0.len ≤ inner.0.len =
          All-contains (λ other. Covers other number
          → other.len ≤ inner.0.len) blocks block.0 inner.4
          block.1 (held_covered family row block.0 number block.2 held) in
          omega (arith, low, block.2.1, own.2.1))
          rows are.all,
    )

-- ---- blocks in another order, and one more

-- the same blocks in another order
pub blocks_moved : (family : Family) (rows : List Row) (blocks moved : List Block) → IsPermutation blocks moved
    → AreBlocksOf family rows blocks → AreBlocksOf family rows moved
blocks_moved family rows blocks moved moves are = record {
  each = All-permutation (λ block. HasRow family rows block) blocks moved moves are.each;
  all = All-weaker (λ row. HasBlock family blocks row) (λ row. HasBlock family moved row)
      (λ row has number is. let block = has number is in
      (block.0, Contains-permutation blocks moved block.0 moves block.1, block.2)) rows are.all;
  count = omega (arith, length_permutation blocks moved moves, are.count);
}

-- the blocks of the rows before a place
pub record BlocksBefore (family : Family) (rows : List Row) (place : ℕ) (blocks : List Block) : Type 0 where
  pub each : All (λ block. HasRow family rows block) blocks
  pub all : All (λ row. HasBlock family blocks row) (take place rows)
  pub count : length blocks ≤ place

-- no blocks before the first row
pub blocks_none : (family : Family) (rows : List Row) → BlocksBefore family rows 0 []
blocks_none family rows = record {
  each = All-nil (λ block. HasRow family rows block);
  all = All-nil (λ row. HasBlock family [] row);
  count = omega arith;
}

-- a row that has a block
pub blocks_more : (family : Family) (rows : List Row) (place : ℕ) (blocks later : List Block) (row : Row)
    (block : Block) → place < length rows
    → row ≡ get_or rows place row → IsBlockOf family row block → block.row ≡ place → later ≡ blocks ++ block ∷ []
    → BlocksBefore family rows place blocks → BlocksBefore family rows (place + 1) later
blocks_more family rows place blocks later row block below is own at pushed h =
    let stands : StandsAt rows block.row row = subst (λ i. StandsAt rows i row) (sym at) (below, is) in
    subst (BlocksBefore family rows (place + 1)) (sym pushed) (record {
      each = All-push (λ block. HasRow family rows block) blocks block h.each (row, stands, own);
      all = All-more (λ row. HasBlock family (blocks ++ block ∷ []) row) rows place row below
          (All-weaker (λ row. HasBlock family blocks row) (λ row. HasBlock family (blocks ++ block ∷ []) row)
          (λ other has number is. let found = has number is in
          (found.0, Contains-append_left blocks (block ∷ []) found.0 found.1, found.2)) (take place rows) h.all)
          (subst (λ r. HasBlock family (blocks ++ block ∷ []) r)
          is (λ number _. (block, Contains-push blocks block, own)));
      count = omega (arith, length_push blocks block, h.count);
    })

-- a row of the other family
pub blocks_same : (family : Family) (rows : List Row) (place : ℕ) (blocks : List Block) (row : Row)
    → place < length rows → row ≡ get_or rows place row
    → ((number : ℕ) → row.0.addr ≡ address_of family number → ⊥) → BlocksBefore family rows place blocks
    → BlocksBefore family rows (place + 1) blocks
blocks_same family rows place blocks row below is never h = record {
  each = h.each;
  all = All-more (λ row. HasBlock family blocks row) rows place row below
      h.all (subst (λ r. HasBlock family blocks r) is (λ number is. absurd (never number is)));
  count = omega (arith, h.count);
}

-- the blocks of all rows
pub blocks_all : (family : Family) (rows : List Row) (place : ℕ) (blocks : List Block) → length rows ≤ place
    → place ≤ length rows
    → BlocksBefore family rows place blocks → AreBlocksOf family rows blocks
blocks_all family rows place blocks past within h = record {
  each = h.each;
  all = subst (All (λ row. HasBlock family blocks row)) (take_all place rows past) h.all;
  count = omega (arith, h.count);
}

-- ---- ranges

-- what was swept from the blocks of the rows are the ranges of the rows
pub ranges_from_blocks : (family : Family) (rows : List Row) (blocks : List Block) (ranges : List Range)
    → AreBlocksOf family rows blocks
    → IsSweptTo blocks ranges → AreRangesOf family rows ranges
ranges_from_blocks family rows blocks ranges are swept = record {
  longest = λ number low. innermost_longest family rows blocks number (row_at ranges number)
      are (swept.innermost number low);
  rising = swept.rising;
  count = omega (arith, swept.count, are.count);
}
