-- The edit at the index goes on, and its writes join the draft's.
use Rattle.std.proofs.Common.{sym, ◌∙◌, subst}
use Rattle.alto_rules.specs.Origin.{LastCostIsDeclared}
use Rattle.alto_rules.proofs.CompileLemmas.{drafted_next}
use Rattle.alto_rules.proofs.OriginLemmas.{last_cost_next}
use Rattle.alto_rules.proofs.compiler.drafted.Goals as goal

pub broken_rule-requires : goal.broken_rule-requires
broken_rule-requires g c = subst LastCostIsDeclared (sym c.in_ok-draft-2.ensures) c.loop-index.invariant.2

pub loop-index-preserved : goal.loop-index-preserved
loop-index-preserved g c =
    let unbroken = sym c.in_ok-rule.ensures ∙ c.in_default.is in
    let old = c.loop-index.invariant in
    let next =
    drafted_next (g.R.RowStore.rows c.args.rows.now) c.args.edits.now c.loop-index.index c.index-edits-index.result
    c.loop-index.draft c.in_ok-draft-2.draft c.in_ok-draft-3.draft c.in_ok-draft-2.ensures unbroken
    c.in_ok-draft-3.ensures c.loop-index-test.true c.index-edits-index.is (old.0, old.1) in (
      next.0,
      next.1,
      last_cost_next c.loop-index.draft c.in_ok-draft-2.draft c.in_ok-draft-3.draft c.index-edits-index.result
          c.in_ok-draft-2.ensures unbroken c.in_ok-draft-3.ensures old.2,
    )
