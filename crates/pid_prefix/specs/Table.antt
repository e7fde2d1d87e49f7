-- What a table of ranges knows of the rows that it was built from.
use Rattle.std.specs.Prelude.{◌≡◌, ◌+◌, ◌*◌, ◌^◌, ◌<◌, ◌≤◌, ℕ, List, length, map, Option, Some, None, slice_index_or}
use Rattle.std.specs.List.{All, Contains}
use Rattle.alto_addr.specs.declared.addr.Addr.{Addr}
use Rattle.alto_addr.specs.declared.addr.Addr.TheVariants as addr
use Rattle.pid_prefix.specs.declared.block.Block.{Block}
use Rattle.pid_prefix.specs.declared.family.Family.{Family}
use Rattle.pid_prefix.specs.declared.family.Family.TheVariants as families
use Rattle.pid_prefix.specs.declared.range.Range.{Range}
use Rattle.pid_prefix.specs.Families.{address_of, leading_bits}
use Rattle.pid_prefix.specs.Longest.{Row, AreDistinct, IsHeldBy}
use Rattle.pid_prefix.specs.Ranges.{AreRising, below, row_at}
use Rattle.pid_prefix.specs.PidRanges.{PidRange, pid_at, with_pid}

-- the row stands at the place
abbrev pub StandsAt : List Row → ℕ → Row → Type 0
StandsAt rows place row = (place < length rows) × (row ≡ slice_index_or rows place row)

-- the block is that of the row's prefix
abbrev pub IsBlockOf : Family → Row → Block → Type 0
IsBlockOf family row block =
    (row.0.addr ≡ address_of family block.first) × (block.len ≡ leading_bits family + row.0.len)

-- the block is that of the row that it names
abbrev pub HasRow : Family → List Row → Block → Type 0
HasRow family rows block = (row : Row) × StandsAt rows block.row row × IsBlockOf family row block

-- the row's prefix is of the other family, or one of the blocks
abbrev pub HasBlock : Family → List Block → Row → Type 0
HasBlock family blocks row = (number : ℕ) → row.0.addr ≡ address_of family number
    → (block : Block) × Contains blocks block × IsBlockOf family row block

-- the blocks are those of the rows of a family
pub record AreBlocksOf (family : Family) (rows : List Row) (blocks : List Block) : Type 0 where
  pub each : All (λ block. HasRow family rows block) blocks
  pub all : All (λ row. HasBlock family blocks row) rows
  pub count : length blocks ≤ length rows

-- the place of a row whose prefix holds the address, where none that holds it is longer; nothing where none holds it
abbrev pub IsLongestAt : List Row → Addr → Option ℕ → Type 0
IsLongestAt rows addr None = All (λ row. IsHeldBy addr row → ⊥) rows
IsLongestAt rows addr (Some place) = (row : Row) × StandsAt rows place row × IsHeldBy addr row
    × All (λ other. IsHeldBy addr other → other.0.len ≤ row.0.len) rows

-- the ranges give each address of the family the place of its longest prefix
pub record AreRangesOf (family : Family) (rows : List Row) (ranges : List Range) : Type 0 where
  pub longest : (number : ℕ) → number < 2 ^ 128 → IsLongestAt rows (address_of family number) (row_at ranges number)
  pub rising : AreRising ranges
  pub count : length ranges ≤ 2 * length rows

-- distinct rows, with the ranges of both families
pub record IsTable (rows : List Row) (of_v4 of_v6 : List Range) : Type 0 where
  pub distinct : AreDistinct rows
  pub v4 : AreRangesOf families.V4 rows of_v4
  pub v6 : AreRangesOf families.V6 rows of_v6

-- the PID that the ranges of the address's family give it
abbrev pub pid_in : List PidRange → List PidRange → Addr → Option (List ℕ)
pid_in of_v4 of_v6 (addr.V4 number) = pid_at of_v4 number
pid_in of_v4 of_v6 (addr.V6 number) = pid_at of_v6 number

-- the ranges of both families in a table with their PIDs, without those that begin past the family's addresses
abbrev pub AreNarrowed : List Row → List PidRange → List PidRange → Type 0
AreNarrowed rows of_v4 of_v6 = (all_v4 all_v6 : List Range) × IsTable rows all_v4 all_v6
    × (of_v4 ≡ map (with_pid rows) (below (2 ^ 32) all_v4)) × (of_v6 ≡ map (with_pid rows) (below (2 ^ 128) all_v6))
