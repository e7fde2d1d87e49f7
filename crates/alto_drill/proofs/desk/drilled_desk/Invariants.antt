use Rattle.std.proofs.Common.{◌≡◌, ◌-◌, ◌*◌}
use Rattle.alto_drill.specs.Draws.{state_after}
use Rattle.alto_drill.specs.Imports.{drill_book}
use Rattle.alto_drill.proofs.desk.drilled_desk.Given as goal

-- the generator stands before the next import, and the book has those before
abbrev pub invariant-loop-k : goal.invariant-loop-k
invariant-loop-k g l = record {
  state : l.draws.state ≡ state_after l.number (6 * (l.k - 2));
  book : l.desk.ledger.book ≡ drill_book l.number (l.k - 1);
}
