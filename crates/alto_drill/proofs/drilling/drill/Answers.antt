use Rattle.std.proofs.Common.{refl, ◌∙◌}
use Rattle.alto_drill.proofs.DrillLemmas.{drilled_is}
use Rattle.alto_drill.proofs.drilling.drill.Goals as goal

pub returns-clause-drilled : goal.returns-clause-drilled
returns-clause-drilled c =
    drilled_is c.args.number c.args.batches _ _ _ c.in_ok-desk.ensures c.in_ok-trials.ensures.trials refl
    c.edges.ensures c.failed.ensures c.digest.ensures

pub returns-clause-none_fails : goal.returns-clause-none_fails
returns-clause-none_fails c = c.failed.ensures ∙ c.in_ok-trials.ensures.none_fails
