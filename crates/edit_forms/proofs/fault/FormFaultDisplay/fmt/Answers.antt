-- The text names the row and the column.
use Rattle.edit_forms.proofs.fault.FormFaultDisplay.fmt.Goals as goal

pub returns-in-BadColumn-clause-writes : goal.returns-in-BadColumn-clause-writes
returns-in-BadColumn-clause-writes g c = rw c.in-BadColumn.is c.write-in-BadColumn.ensures.writes
