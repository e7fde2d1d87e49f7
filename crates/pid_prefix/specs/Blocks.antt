-- The innermost of the blocks that cover a number, and the order in which blocks are swept.
use Rattle.std.specs.Prelude.{◌≡◌, ◌<◌, ◌≤◌, ◌⊎◌, ℕ, List, Option, Some, None}
use Rattle.std.specs.List.{All, AllPairs, Contains}
use Rattle.pid_prefix.specs.declared.block.Block.{Block}
use Rattle.pid_prefix.specs.Bits.{end_of}

-- the number is one of the block's
abbrev pub Covers : Block → ℕ → Type 0
Covers block number = (block.first ≤ number) × (number < end_of block.first block.len)

-- the row of a block that covers the number, where none that covers it has more fixed bits; nothing where none does
abbrev pub IsInnermost : List Block → ℕ → Option ℕ → Type 0
IsInnermost blocks number None = All (λ block. Covers block number → ⊥) blocks
IsInnermost blocks number (Some row) = (block : Block) × Contains blocks block × (block.row ≡ row) × Covers block number
    × All (λ other. Covers other number → other.len ≤ block.len) blocks

-- the block begins before the other, or where it begins and has no more fixed bits
abbrev pub IsBefore : Block → Block → Type 0
IsBefore block other = (block.first < other.first) ⊎ ((block.first ≡ other.first) × (block.len ≤ other.len))

-- each block is before those behind it
abbrev pub AreOrdered : List Block → Type 0
AreOrdered blocks = AllPairs IsBefore blocks
