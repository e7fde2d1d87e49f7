-- Which door in memory is opened at a side and an address.
use Rattle.std.specs.Prelude.{◌≡◌, ℕ, Bool, List, [], ◌∷◌, ◌++◌, string_bytes, Option, MatchOption, IsSomeAnd}
use Rattle.std.specs.Prelude.{slice_get, remove}
use Rattle.std.specs.List.{position_from}
use Rattle.alto_addr.specs.declared.addr.Addr.{Addr}
use Rattle.alto_answers.specs.declared.route.Side.{Side}
use Rattle.alto_doors.specs.Keys.{is_key}
use Rattle.alto_doors.specs.declared.mem_door.MemDoor.{MemDoor}
use Rattle.alto_doors.specs.declared.waiting.Waiting.{Waiting}

-- a door waits to be opened at this side and address
abbrev pub waits_at : {L : Type 0} → Side → List ℕ → Waiting L → Bool
waits_at side address waiting = is_key side address waiting.key

-- a door more waits, behind the others: at this side and address, just opened, with these connections to give and these
-- accepts to fail
pub record IsAdded {L : Type 0}
    (side : Side) (address : List ℕ) (connections : List (L × Option Addr)) (failing : List ℕ)
    (before after : List (Waiting L))
    : Type 0 where
  pub waiting : Waiting L
  pub whole : after ≡ before ++ waiting ∷ []
  pub at_side : waiting.key.side ≡ side
  pub at_address : string_bytes waiting.key.address ≡ address
  pub gives : waiting.door.left.items ≡ connections
  pub fails : waiting.door.failing.items ≡ failing
  pub first : waiting.door.accepts ≡ 0

-- the first door that waits at a side and an address is opened, and waits no longer; where none waits there, a door
-- without connections is
abbrev pub Opens : {L : Type 0} → Side → List ℕ → List (Waiting L) → List (Waiting L) → MemDoor L → Type 0
Opens side address before after door =
    MatchOption (position_from (waits_at side address) 0 before)
    ((after ≡ before) × (door.left.items ≡ []))
    (λ place. (after ≡ remove before place) × IsSomeAnd (slice_get before place) (λ waiting. door ≡ waiting.door))
