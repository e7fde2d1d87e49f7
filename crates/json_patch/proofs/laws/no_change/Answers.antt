use Rattle.json_patch.proofs.MergeLemmas.{null_for_absent, empty_object}
use Rattle.json_patch.proofs.laws.no_change.Goals as goal

pub returns-clause-absent : goal.returns-clause-absent
returns-clause-absent c = null_for_absent

pub returns-clause-empty : goal.returns-clause-empty
returns-clause-empty c = empty_object
