-- A link in memory: when its calls fail, and how many bytes they move.
use Rattle.std.specs.Prelude.{ℕ, ◌-◌, ◌%◌, ◌^◌, min, max, Bool, ◌&&◌, ◌||◌, nat_lt, nat_le, ◌==◌, List, [], ◌∷◌, length}
use Rattle.std.specs.Prelude.{slice_index}
use Rattle.std.specs.List.{list_any}

-- what a link in memory holds, and what was asked of it
pub record MemLinkData : Type 0 where
  pub left : List ℕ
  pub out : List ℕ
  pub sizes : List ℕ
  pub room : ℕ
  pub failing_reads : List ℕ
  pub failing_writes : List ℕ
  pub reads : ℕ
  pub writes : ℕ
  pub failed_reads : ℕ
  pub failed_writes : ℕ

-- the next read fails: its number, from 0, is one of those named
abbrev pub read_fails : MemLinkData → Bool
read_fails link = list_any (λ call. call == link.reads) link.failing_reads

-- a write of a nonempty piece fails: its number is one of those named, or no room is left
abbrev pub write_fails : MemLinkData → List ℕ → Bool
write_fails link piece =
    nat_lt 0 (length piece)
    && (list_any (λ call. call == link.writes) link.failing_writes || nat_le link.room (length link.out))

-- the most bytes that the read of this number gives: the sizes in turn, again and again, a 0 counting as 1; without
-- sizes all that fit
abbrev pub piece_size : List ℕ → ℕ → ℕ
piece_size [] call = 2 ^ 64 - 1
piece_size (size ∷ sizes) call = max (slice_index (size ∷ sizes) (call % length (size ∷ sizes))) 1

-- how many bytes the next read gives where there is room for `room` bytes
abbrev pub read_count : MemLinkData → ℕ → ℕ
read_count link room = min (piece_size link.sizes link.reads) (min room (length link.left))

-- how many bytes of the piece the next write puts out
abbrev pub write_count : MemLinkData → List ℕ → ℕ
write_count link piece = min (length piece) (link.room - length link.out)
