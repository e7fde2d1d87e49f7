use Rattle.alto_book.proofs.TrimLemmas.{trim_keeps_legal, trim_changes_nothing}
use Rattle.alto_book.proofs.laws.trim_keeps_the_book.Goals as goal

pub returns-clause-legal : goal.returns-clause-legal
returns-clause-legal c = trim_keeps_legal

pub returns-clause-same : goal.returns-clause-same
returns-clause-same c = trim_changes_nothing
