use Rattle.std.proofs.Common.{◌≡◌, take}
use Rattle.alto_book.specs.Book.{Book}
use Rattle.alto_book.specs.NumberLaws.{TellsNumbers}
use Rattle.alto_drill.specs.Trials.{with_edges}
use Rattle.alto_drill.proofs.patches.try_edges.Given as goal

abbrev pub invariant-loop-i : goal.invariant-loop-i
invariant-loop-i g l =
    (book : Book) → TellsNumbers l.graph book l.of
    → l.trials ≡ with_edges book l.of (take l.i-index l.edges) l.initial.trials
