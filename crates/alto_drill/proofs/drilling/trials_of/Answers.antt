use Rattle.std.proofs.Common.{ap, ◌∙◌}
use Rattle.alto_drill.specs.Drilled.{failures_in}
use Rattle.alto_drill.specs.Trials.{TrialData}
use Rattle.alto_drill.proofs.DrillLemmas.{all_tried}
use Rattle.alto_drill.proofs.LawLemmas.{none_fail}
use Rattle.alto_drill.proofs.drilling.trials_of.Goals as goal

pub returns-clause-trials : goal.returns-clause-trials
returns-clause-trials g c =
    all_tried c.args.desk.now.ledger.book c.in_ok-network.network c.in_ok-costs.costs c.in_ok-properties.properties _ _
    _ _ c.in_ok-network.ensures
    c.in_ok-costs.ensures c.in_ok-properties.ensures c.new-trials.ensures c.in_ok-try_resource.ensures
    c.in_ok-try_resource-2.ensures c.in_ok-try_resource-3.ensures

pub returns-clause-none_fails : goal.returns-clause-none_fails
returns-clause-none_fails g c =
    ap (λ (trials : TrialData). failures_in trials.leads) (returns-clause-trials g c)
    ∙ none_fail c.args.desk.now.ledger.book c.front-version.ensures.legal
