-- What the rows name, who has a prefix, and the versions refute, or the numbers decide.
use Rattle.std.proofs.Common.{sym, ◌∙◌}
use Rattle.std.proofs.lemmas.Result.{IfOk-weaker}
use Rattle.base_check.proofs.RuleLemmas.{good_from, misnumbered, numbers_decide, refuted}
use Rattle.base_check.proofs.rows.keep_rows.Goals as goal

pub returns-then-not-branch : goal.returns-then-not-branch
returns-then-not-branch g c = refuted c.in_ok-keep_declared.field-0 (λ keep. keep.good.declared)
    c.in_ok-keep_declared.ensures c.if-not-branch.true

pub returns-then-not-branch-2 : goal.returns-then-not-branch-2
returns-then-not-branch-2 g c =
    refuted c.in_ok-keep_one_pid.field-0 (λ keep. keep.good.one_pid) c.in_ok-keep_one_pid.ensures c.if-not-branch-2.true

pub returns-then-branch : goal.returns-then-branch
returns-then-branch g c =
    misnumbered (g.R.RowStore.rows c.args.whole.now) c.args.number (sym c.in_ok-some_misnumbered.ensures
    ∙ c.if-branch.true)

pub are_within-requires : goal.are_within-requires
are_within-requires g c =
    good_from (g.R.RowStore.rows c.args.whole.now) c.args.number c.requires.fit
    (c.in_ok-keep_declared.ensures.0 c.if-not-branch.false)
    (c.in_ok-keep_one_pid.ensures.0 c.if-not-branch-2.false) (sym c.in_ok-some_misnumbered.ensures ∙ c.if-branch.false)

pub returns : goal.returns
returns g c =
    let none = sym c.in_ok-some_misnumbered.ensures ∙ c.if-branch.false in
    let good = good_from (g.R.RowStore.rows c.args.whole.now) c.args.number c.requires.fit
    (c.in_ok-keep_declared.ensures.0 c.if-not-branch.false)
    (c.in_ok-keep_one_pid.ensures.0 c.if-not-branch-2.false) none in
    IfOk-weaker c.are_within.result _ _
    (λ within decides. numbers_decide (g.R.RowStore.rows c.args.whole.now) c.args.number within good none decides)
    c.are_within.ensures
