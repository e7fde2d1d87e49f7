-- The text names the edit and the rule.
use Rattle.alto_book.proofs.fault.EditFaultDisplay.fmt.Goals as goal

pub returns-in-Broken-clause-writes : goal.returns-in-Broken-clause-writes
returns-in-Broken-clause-writes g c = rw c.in-Broken.is c.write-in-Broken.ensures.writes
