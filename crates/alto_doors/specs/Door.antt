-- What a call on a door does to the connections that it has still to give, and to its state.
use Rattle.std.specs.Prelude.{◌≡◌, ℕ, zero, suc, Bool, true, false, not, ◌&&◌, ◌||◌, ◌==◌, nat_le, List, [], ◌++◌}
use Rattle.std.specs.Prelude.{Option, Some, None, IfSome, Result, Ok, Err}
use Rattle.alto_http.specs.Link.{one_more}
use Rattle.alto_doors.specs.declared.state.DoorState.{DoorState}

-- a count after `times` more: it stops at the last number of 64 bits
abbrev pub risen : ℕ → ℕ → ℕ
risen count zero = count
risen count (suc times) = one_more (risen count times)

-- how many faults of a door end its worker
abbrev pub most_faults : ℕ
most_faults = 1000

-- a door that was just opened: it has counted no fault, no link is out, and it hasn't ended
abbrev pub just_opened : DoorState
just_opened = record { faults = 0; is_out = false; has_ended = false }

-- a door after an accept: a link is out where one was given, it has ended where none comes any more, and a failure is
-- counted
abbrev pub accepted : {A E : Type 0} → Result (Option A) E → DoorState → DoorState
accepted (Ok (Some connection)) door = record door { is_out = true }
accepted (Ok None) door = record door { has_ended = true }
accepted (Err fault) door = record door { faults = one_more door.faults }

-- a door after a link came back
abbrev pub given_back : DoorState → DoorState
given_back door = record door { is_out = false }

-- a door has counted a fault
abbrev pub has_failed : DoorState → Bool
has_failed door = not (door.faults == 0)

-- a door was served to its end: no link is out, and it has ended, or has counted as many faults as end a worker
abbrev pub is_served : DoorState → Bool
is_served door = not door.is_out && (door.has_ended || nat_le most_faults door.faults)

-- these connections and then what is left, where that is known
abbrev pub followed_by : {A : Type 0} → List A → Option (List A) → Option (List A)
followed_by given None = None
followed_by given (Some left) = Some (given ++ left)

-- no connection is left, where that is known
abbrev pub HasNone : {A : Type 0} → Option (List A) → Type 0
HasNone left = IfSome left (λ connections. connections ≡ [])
