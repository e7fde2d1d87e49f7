use Rattle.json_tree.proofs.OrderLemmas.{AreInOrder-entries_data}
use Rattle.json_patch.proofs.operations.applying.members_in.Goals as goal

pub returns-in-Object-clause-ordered : goal.returns-in-Object-clause-ordered
returns-in-Object-clause-ordered c = AreInOrder-entries_data c.in-Object.members.entries c.len.ensures.ordered
