use Rattle.std.proofs.Common.{ap, ◌∙◌}
use Rattle.std.proofs.lemmas.Result.{IfOk-weaker}
use Rattle.json_tree.specs.Whole.{whole_value}
use Rattle.edge_patch.specs.Documents as documents
use Rattle.edge_patch.specs.Merge.{merge_form}
use Rattle.edge_patch.specs.OperationForm.{operation_form}
use Rattle.alto_drill.proofs.TrialLemmas.{tried_both}
use Rattle.alto_drill.proofs.patches.try_patches.Goals as goal

pub patches_lead-requires : goal.patches_lead-requires
patches_lead-requires g c = record {
  merge = (
    merge_form c.args.of.now (g.R.RowStore.rows c.args.after.now) c.args.keys.now,
    ap whole_value c.deref-2.ensures.value ∙ c.in_ok-merge.ensures.reads,
  );
  operations = (
    operation_form c.args.of.now (g.R.RowStore.rows c.args.before.now) (g.R.RowStore.rows c.args.after.now)
        c.args.keys.now,
    ap whole_value c.deref-3.ensures.value ∙ c.in_ok-operations.ensures.reads,
  );
}

pub returns : goal.returns
returns g c =
    let change = merge_form c.args.of.now (g.R.RowStore.rows c.args.after.now) c.args.keys.now in
    let changes = operation_form c.args.of.now (g.R.RowStore.rows c.args.before.now)
    (g.R.RowStore.rows c.args.after.now) c.args.keys.now in
    let leads =
    c.in_ok-leads.ensures change changes (ap whole_value c.deref-2.ensures.value ∙ c.in_ok-merge.ensures.reads)
    (ap whole_value c.deref-3.ensures.value ∙ c.in_ok-operations.ensures.reads) in
    IfOk-weaker c.add_patches.result _ _
    (λ done made.
    tried_both (documents.document c.args.of.now (g.R.RowStore.rows c.args.before.now))
    (documents.document c.args.of.now (g.R.RowStore.rows c.args.after.now)) change
    changes c.args.trials.now c.add_patches.new.self c.deref.result.now c.deref-4.result.now c.deref-5.result.now
    c.deref-6.result.now c.in_ok-leads.leads
    (c.deref.ensures.value ∙ c.in_ok-start.ensures) (c.deref-4.ensures.value ∙ c.in_ok-end.ensures)
    (c.deref-5.ensures.value ∙ c.in_ok-merge.ensures.text)
    (c.deref-6.ensures.value ∙ c.in_ok-operations.ensures.text) leads made)
    c.add_patches.ensures
