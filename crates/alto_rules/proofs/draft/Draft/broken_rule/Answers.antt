-- A cost that is put after one of the same origin breaks one of two rules at most.
use Rattle.std.proofs.Common.{sym, ◌∙◌}
use Rattle.std.proofs.lemmas.Result.{IfOk-weaker}
use Rattle.alto_rules.specs.Draft.{drafted_rows}
use Rattle.alto_rules.proofs.CheckLemmas.{next_cost_rule}
use Rattle.alto_rules.proofs.OriginLemmas.{declared_origin}
use Rattle.alto_rules.proofs.draft.Draft.broken_rule.Goals as goal

pub returns-in-CostPut : goal.returns-in-CostPut
returns-in-CostPut g c =
    IfOk-weaker c.next_cost_rule.result _ _
    (λ broken h.
    h
    ∙ next_cost_rule (drafted_rows c.args.self.now) c.args.edit.now _ _ _ _ _ c.in-CostPut.is
    (declared_origin c.args.self.now _ c.last_origin.result c.requires c.last_origin.ensures.last
    (sym c.is_some.ensures ∙ c.if-is_some.true)))
    c.next_cost_rule.ensures
