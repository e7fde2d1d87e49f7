-- The side and the address by which doors are opened.
use Rattle.std.specs.Prelude.{ℕ, Bool, true, false, ◌&&◌, List, bytes_eq, string_bytes}
use Rattle.alto_answers.specs.declared.route.Side.{Side}
use Rattle.alto_answers.specs.declared.route.Side.TheVariants as side
use Rattle.alto_doors.specs.declared.key.DoorKey.{DoorKey}

-- two sides are the same
abbrev pub same_side : Side → Side → Bool
same_side side.Public side.Public = true
same_side side.Operator side.Operator = true
same_side side.Both side.Both = true
same_side _ _ = false

-- a key is this side and address
abbrev pub is_key : Side → List ℕ → DoorKey → Bool
is_key side address key = same_side key.side side && bytes_eq (string_bytes key.address) address
