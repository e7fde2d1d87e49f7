-- Whether a row that is left gives its prefix to another PID tells it of all. Each turn takes one of them.
use Rattle.std.proofs.Common.{◌≡◌, length}
use Rattle.std.specs.List.{list_any}
use Rattle.batch_check.specs.Owners.{is_elsewhere}
use Rattle.batch_check.proofs.owners.some_elsewhere.Given as goal

abbrev pub invariant-loop-row : goal.invariant-loop-row
invariant-loop-row g l =
    list_any (λ row. is_elsewhere l.owners row.0) l.prefixes
    ≡ list_any (λ row. is_elsewhere l.owners row.0) l.initial.prefixes

abbrev pub decreases-loop-row : goal.decreases-loop-row
decreases-loop-row g l = length l.prefixes
