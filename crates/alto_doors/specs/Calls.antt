-- Which calls of a door or of doors in memory fail.
use Rattle.std.specs.Prelude.{ℕ, Bool, ◌==◌, List}
use Rattle.std.specs.List.{list_any}

-- the call of this number was chosen to fail
abbrev pub fails : List ℕ → ℕ → Bool
fails failing call = list_any (λ chosen. chosen == call) failing
