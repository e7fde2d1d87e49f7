-- The text is that of the broken rule at its row.
use Rattle.alto_edits.proofs.rule.CompileFaultDisplay.fmt.Goals as goal

pub returns-in-Broken-clause-writes : goal.returns-in-Broken-clause-writes
returns-in-Broken-clause-writes g c = rw c.in-Broken.is c.write.ensures.writes
