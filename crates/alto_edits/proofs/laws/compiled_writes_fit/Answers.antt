use Rattle.alto_edits.proofs.LawLemmas.{compiled_writes_fit, edits_writes_fit}
use Rattle.alto_edits.proofs.laws.compiled_writes_fit.Goals as goal

pub returns-clause-whole : goal.returns-clause-whole
returns-clause-whole c = compiled_writes_fit

pub returns-clause-edits : goal.returns-clause-edits
returns-clause-edits c = edits_writes_fit
