-- A PID or none, kept as a name and whether it is one.
use Rattle.std.specs.Prelude.{ℕ, Bool, List, Option, Some, None, if◌then◌else◌}

-- the name, where it is a PID
abbrev pub pid_if : Bool × List ℕ → Option (List ℕ)
pid_if name = if name.0 then Some name.1 else None
