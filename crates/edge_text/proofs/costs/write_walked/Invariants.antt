-- What is written, and what the rows that the walk has left bring, make the whole. Each turn takes one of them.
use Rattle.std.proofs.Common.{◌≡◌, ◌++◌, length}
use Rattle.std.specs.List.{flat_map}
use Rattle.cost_docs.specs.Costs.{cost_given}
use Rattle.cost_docs.specs.Writing.{member_tokens}
use Rattle.edge_text.proofs.costs.write_walked.Given as goal

abbrev pub invariant-loop-row : goal.invariant-loop-row
invariant-loop-row g l =
    record {
      before : l.out.before ≡ l.initial.out.before;
      tokens : l.out.tokens ++ flat_map (λ row. member_tokens (cost_given row)) l.walk
          ≡ l.initial.out.tokens ++ flat_map (λ row. member_tokens (cost_given row)) l.initial.walk;
    }

abbrev pub decreases-loop-row : goal.decreases-loop-row
decreases-loop-row g l = length l.walk
