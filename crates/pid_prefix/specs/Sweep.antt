-- What a sweep over ordered blocks has made so far: ranges up to a place, and the blocks around it.
use Rattle.std.specs.Prelude.{◌≡◌, ◌*◌, ◌^◌, ◌<◌, ◌≤◌, ℕ, List, [], ◌∷◌, ◌++◌, length, Option, Some, None}
use Rattle.std.specs.List.{All, Contains}
use Rattle.pid_prefix.specs.declared.block.Block.{Block}
use Rattle.pid_prefix.specs.declared.range.Range.{Range}
use Rattle.pid_prefix.specs.Bits.{end_of}
use Rattle.pid_prefix.specs.Blocks.{IsInnermost}
use Rattle.pid_prefix.specs.Ranges.{AreRising, last_row, row_at}

-- the block is the last, which is inside the others
abbrev pub IsInnermostAround : List Block → Block → Type 0
IsInnermostAround around block = (outer : List Block) × (around ≡ outer ++ block ∷ [])

-- the row of the last block, or else this one
abbrev pub innermost_row : Option ℕ → List Block → Option ℕ
innermost_row row [] = row
innermost_row row (block ∷ inner) = innermost_row (Some block.row) inner

-- the range behind a block, with the row of the block around it
abbrev pub closing : Option ℕ → Block → Range
closing row block = record { first = end_of block.first block.len; row = row }

-- the ranges behind these blocks, the innermost first, inside a block of this row
abbrev pub closings : Option ℕ → List Block → List Range
closings row [] = []
closings row (block ∷ inner) = closings (Some block.row) inner ++ closing row block ∷ []

-- the ranges so far, and those behind the ends of the blocks around
abbrev pub swept_ranges : List Range → List Block → List Range
swept_ranges ranges around = ranges ++ closings None around

-- the blocks so far are swept: with the ends of those around, the ranges give each number its innermost block
pub record IsSwept (blocks : List Block) (ranges : List Range) (around : List Block) : Type 0 where
  pub innermost : (number : ℕ) → IsInnermost blocks number (row_at (swept_ranges ranges around) number)
  pub rising : AreRising (swept_ranges ranges around)
  pub count : length (swept_ranges ranges around) ≡ 2 * length blocks
  pub inside : last_row None ranges ≡ innermost_row None around
  pub among : All (λ block. Contains blocks block) around

-- the ranges give each number of 128 bits its innermost block, and are two for each block at most
pub record IsSweptTo (blocks : List Block) (ranges : List Range) : Type 0 where
  pub innermost : (number : ℕ) → number < 2 ^ 128 → IsInnermost blocks number (row_at ranges number)
  pub rising : AreRising ranges
  pub count : length ranges ≤ 2 * length blocks
