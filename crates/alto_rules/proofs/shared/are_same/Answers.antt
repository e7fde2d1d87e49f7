-- Names that are equal are one.
use Rattle.std.proofs.Common.{sym, ◌∙◌}
use Rattle.alto_rows.proofs.TouchesLemmas.{one_name}
use Rattle.alto_rules.proofs.shared.are_same.Goals as goal

pub returns : goal.returns
returns g c = λ t. one_name c.args.name.now c.args.other.now (sym c.eq.ensures ∙ t)
