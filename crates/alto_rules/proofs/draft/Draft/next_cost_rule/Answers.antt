-- A cost whose destination is declared breaks a rule only where there is no room and it has no row.
use Rattle.std.proofs.Common.{ap, sym, ◌∙◌}
use Rattle.std.specs.Prelude.{[], ◌∷◌}
use Rattle.alto_rows.specs.declared.key.Key.{Key}
use Rattle.alto_edits.specs.declared.rule.Rule.TheVariants as rule
use Rattle.alto_edits.specs.Rules.{first_broken, lacks}
use Rattle.alto_rules.specs.Draft.{drafted_rows}
use Rattle.alto_rules.proofs.CheckLemmas.{next_cost_fits, next_cost_lacks}
use Rattle.alto_rules.proofs.draft.Draft.next_cost_rule.Goals as goal

pub returns-then-not-branch : goal.returns-then-not-branch
returns-then-not-branch g c =
    next_cost_fits (drafted_rows c.args.self.now) c.args.net.now c.args.metric.now c.args.source.now
    c.args.destination.now
    (sym c.in_ok-lacks_pid.ensures ∙ c.if-branch.false)
    (sym (c.in_ok-has_most_costs.ensures c.args.source.now c.args.destination.now) ∙ c.if-not-branch.true)

pub returns : goal.returns
returns g c =
    c.lacking-rule.ensures
    ∙ (ap (λ (k : Key). first_broken ((rule.G12, lacks (drafted_rows c.args.self.now) k) ∷ [])) c.in_ok-key.ensures
    ∙ next_cost_lacks (drafted_rows c.args.self.now) c.args.net.now c.args.metric.now c.args.source.now
    c.args.destination.now
    (sym c.in_ok-lacks_pid.ensures ∙ c.if-branch.false)
    (sym (c.in_ok-has_most_costs.ensures c.args.source.now c.args.destination.now) ∙ c.if-not-branch.false))
