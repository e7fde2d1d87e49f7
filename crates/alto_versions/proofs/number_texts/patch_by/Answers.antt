-- The keys of an edge rise, and the rows before it are good.
use Rattle.std.proofs.Common.{sym, ap, subst}
use Rattle.alto_rows.specs.Good.{AreGood}
use Rattle.alto_versions.proofs.PushedLemmas.{kept_good, span_rises}
use Rattle.alto_versions.proofs.number_texts.patch_by.Goals as goal

pub merge_text-requires-clause-rising : goal.merge_text-requires-clause-rising
merge_text-requires-clause-rising g c =
    span_rises c.args.graph.now c.saturating_sub-from.result c.reached-last.result _ c.in-Some.ensures.keys

pub operations_text-requires-clause-good_before : goal.operations_text-requires-clause-good_before
operations_text-requires-clause-good_before g c =
    subst AreGood (ap g.R.RowStore.rows (sym c.deref.ensures))
    (kept_good c.args.graph.now c.saturating_sub-from.result _ c.requires.kept (sym c.in-Some-rows_at.ensures))

pub operations_text-requires-clause-rising : goal.operations_text-requires-clause-rising
operations_text-requires-clause-rising g c =
    span_rises c.args.graph.now c.saturating_sub-from.result c.reached-last.result _ c.in-Some.ensures.keys
