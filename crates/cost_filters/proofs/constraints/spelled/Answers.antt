use Rattle.std.proofs.Common.{◌∙◌, ap}
use Rattle.cost_rule.specs.Stages.{spelled}
use Rattle.cost_filters.proofs.ConstraintLemmas.{read_as_spelled}
use Rattle.cost_filters.proofs.constraints.spelled.Goals as goal

pub returns : goal.returns
returns c =
    c.ok.ensures.value
    ∙ (read_as_spelled c.as_bytes.result.now c.read_constraint.result c.read_constraint.ensures.ok
    c.read_constraint.ensures.only
    ∙ ap spelled c.as_bytes.ensures.value)
