-- Which listener serves a side and an address.
use Rattle.std.specs.Prelude.{ℕ, List, Option, find}
use Rattle.alto_answers.specs.declared.route.Side.{Side}
use Rattle.alto_doors.specs.Keys.{is_key}
use Rattle.alto_doors.specs.declared.tcp_doors.SharedListener.{SharedListener}

-- the listener that was opened for a side and an address
abbrev pub listener_at : Side → List ℕ → List SharedListener → Option SharedListener
listener_at side address listeners = find (λ shared. is_key side address shared.key) listeners
