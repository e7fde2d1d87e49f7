-- What a worker does at a door: it serves each connection that the door gives, one after another.
use Rattle.std.specs.Prelude.{◌≡◌, ◌⊎◌, ◌<◌, ℕ, Bool, true, false, List, [], ◌∷◌, Option, Result, Ok, Err}
use Rattle.alto_addr.specs.declared.addr.Addr.{Addr}
use Rattle.alto_http.specs.Link.{one_more}
use Rattle.alto_http.specs.declared.link.Failed.{Failed}
use Rattle.alto_serve.specs.declared.end.End.{End}
use Rattle.alto_serve.specs.Connections.{Serves, state}
use Rattle.alto_serve.specs.Events.{Known}
use Rattle.alto_serve.specs.Turns.{Setting}
use Rattle.alto_doors.specs.Door.{followed_by, most_faults, risen}
use Rattle.alto_doors.specs.declared.state.DoorState.{DoorState}

-- a worker leaves a door after a number of failed accepts: the door has ended before they were as many as end a worker,
-- or they were as many. No link is out, and the failed accepts alone were counted
pub record IsLeft (before after : DoorState) : Type 0 where
  pub failed : ℕ
  pub counted : after.faults ≡ risen before.faults failed
  pub back : after.is_out ≡ false
  pub done : ((after.has_ended ≡ true) × (failed < most_faults)) ⊎ (failed ≡ most_faults)

module _ {L : Type 0} (left out : L → Option (List ℕ)) (setting : Option Addr → Setting) where
  -- connections are served one after another through an office, each to some end, as `serve_link` serves a link in the
  -- setting of its client's address
  unfoldable pub ServesEach : List (L × Option Addr) → Known → Known → Type 0
  ServesEach [] before after = before ≡ after
  ServesEach ((link, peer) ∷ connections) before after =
      (ended : End) × (served : L) × (known : Known)
      × Serves ended (setting peer) (state before (left link) (out link)) (state known (left served) (out served))
      × ServesEach connections known after

  -- so much of what a door had to give was given: these connections, which were served in turn
  pub record HasServed (before after : Option (List (L × Option Addr))) (known later : Known) : Type 0 where
    pub given : List (L × Option Addr)
    pub gave : before ≡ followed_by given after
    pub served : ServesEach given known later

-- the state of a door after one accept: a connection was given, served and given back; it has ended; or a failure was
-- counted
abbrev pub taken : Result Bool Failed → DoorState → DoorState
taken (Ok true) door = door
taken (Ok false) door = record door { has_ended = true }
taken (Err fault) door = record door { faults = one_more door.faults }
