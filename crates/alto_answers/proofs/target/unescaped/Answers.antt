use Rattle.std.proofs.Common.{sym}
use Rattle.alto_answers.proofs.TargetLemmas.{decoded_same}
use Rattle.alto_answers.proofs.target.unescaped.Goals as goal

pub returns : goal.returns
returns c = sym (decoded_same _ (sym c.if-has_escape.ensures))
