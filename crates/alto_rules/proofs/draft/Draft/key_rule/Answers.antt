-- The rule of a path is that of its abstract network elements.
use Rattle.std.proofs.Common.{ap, sym, ◌∙◌}
use Rattle.std.proofs.lemmas.Result.{IfOk-weaker}
use Rattle.alto_edits.specs.declared.edit.Edit.{Edit}
use Rattle.alto_edits.specs.Rules.{first_broken}
use Rattle.alto_rules.specs.Draft.{drafted_rows}
use Rattle.alto_rules.specs.Parts.{own_checks}
use Rattle.alto_rules.proofs.draft.Draft.key_rule.Goals as goal

pub returns-in-PathPut : goal.returns-in-PathPut
returns-in-PathPut g c =
    IfOk-weaker c.anes_rule.result _ _
    (λ broken h. h ∙ ap (λ (of : Edit). first_broken (own_checks (drafted_rows c.args.self.now) of))
    (sym c.in-PathPut.is)) c.anes_rule.ensures
