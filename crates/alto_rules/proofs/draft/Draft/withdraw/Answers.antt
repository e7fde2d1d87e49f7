-- The withdrawn keys are deleted in order.
use Rattle.std.proofs.Common.{ap, ◌∙◌}
use Rattle.std.proofs.lemmas.Result.{IfOk-weaker}
use Rattle.std.specs.Prelude.{List}
use Rattle.alto_rows.specs.declared.key.Key.{Key}
use Rattle.alto_rows.specs.declared.write.Write.{Write}
use Rattle.alto_edits.specs.Writes.{withdrawing}
use Rattle.alto_rules.specs.Draft.{drafted_rows, wrote}
use Rattle.alto_rules.specs.Withdrawal.{withdraws}
use Rattle.alto_rules.proofs.WithdrawLemmas.{withdrawn_all}
use Rattle.alto_rules.proofs.draft.Draft.withdraw.Goals as goal

pub returns : goal.returns
returns g c =
    IfOk-weaker c.without.result _ _
    (λ draft h. h ∙ ap (λ (more : List Write). wrote c.args.self more)
    (withdrawn_all (drafted_rows c.args.self) c.in_ok-declared.declared c.in_ok-keys.keys
    (ap withdraws c.in_ok-declared.ensures ∙ c.requires)
    c.withdrawn.ensures.sorted c.without.ensures.ordered c.in_ok-keys.ensures.keys
    ∙ ap (λ (k : Key). withdrawing (drafted_rows c.args.self) k) c.in_ok-declared.ensures))
    c.without.ensures.deleted
