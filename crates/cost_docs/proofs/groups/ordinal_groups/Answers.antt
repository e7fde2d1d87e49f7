use Rattle.std.proofs.Common.{List, ℕ, ap, ◌∙◌, Some}
use Rattle.std.proofs.lemmas.Result.{IfOk-weaker}
use Rattle.cost_docs.specs.Costs.{groups_shown}
use Rattle.cost_docs.proofs.groups.ordinal_groups.Goals as goal

pub returns : goal.returns
returns g c =
    let net = c.args.net.now in
    let metric = c.args.metric.now in
    let rows = g.R.RowStore.rows c.args.rows.now in
    IfOk-weaker c.groups.result _ _ (λ tree is. is ∙ ap (λ (among : List ℕ). groups_shown (Some among) rows net metric)
    c.in_ok-ranks.ensures) c.groups.ensures
