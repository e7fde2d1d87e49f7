-- The rule of the network, or else of the PIDs, or else the edit's own.
use Rattle.std.proofs.Common.{sym, ◌∙◌}
use Rattle.std.proofs.lemmas.Result.{IfOk-weaker}
use Rattle.alto_rules.specs.Draft.{drafted_rows}
use Rattle.alto_rules.proofs.CheckLemmas.{added_rule, of_net_rule, of_own_rule, of_pid_rule}
use Rattle.alto_rules.proofs.draft.Draft.searched_rule.Goals as goal

pub returns-in-NetAdd : goal.returns-in-NetAdd
returns-in-NetAdd g c =
    IfOk-weaker c.own_rule.result _ _ (λ broken h. h ∙ added_rule (drafted_rows c.args.self.now) c.args.edit.now _
    c.in-NetAdd.is) c.own_rule.ensures

pub returns-then-not-branch : goal.returns-then-not-branch
returns-then-not-branch g c =
    of_net_rule (drafted_rows c.args.self.now) c.args.edit.now c.in_default.not-NetAdd
    (rw (← c.edit_net.ensures) (sym c.in_ok-has_net.ensures ∙ c.if-not-branch.true))

pub returns-then-branch : goal.returns-then-branch
returns-then-branch g c =
    of_pid_rule (drafted_rows c.args.self.now) c.args.edit.now c.in_default.not-NetAdd
    (rw (← c.edit_net.ensures) (sym c.in_ok-has_net.ensures ∙ c.if-not-branch.false))
    (sym c.in_ok-lacks_pids.ensures ∙ c.if-branch.true)

pub returns : goal.returns
returns g c =
    IfOk-weaker c.own_rule-2.result _ _
    (λ broken h.
    h
    ∙ of_own_rule (drafted_rows c.args.self.now) c.args.edit.now c.in_default.not-NetAdd
    (rw (← c.edit_net.ensures) (sym c.in_ok-has_net.ensures ∙ c.if-not-branch.false))
    (sym c.in_ok-lacks_pids.ensures ∙ c.if-branch.false))
    c.own_rule-2.ensures
