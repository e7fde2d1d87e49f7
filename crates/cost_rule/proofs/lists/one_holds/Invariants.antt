-- None of the lists so far holds.
use Rattle.std.proofs.Common.{ℕ, ◌<◌, Vec, Global, slice_index_or}
use Rattle.cost_rule.specs.Meaning.{AllHold}
use Rattle.cost_rule.specs.declared.constraint.Constraint.{Constraint}
use Rattle.cost_rule.proofs.lists.one_holds.Given as goal

abbrev pub invariant-loop-constraints : goal.invariant-loop-constraints
invariant-loop-constraints l =
    (k : ℕ) (other : Vec Constraint Global) → k < l.constraints-index
    → AllHold l.costs (slice_index_or l.alternatives k other).items → ⊥
