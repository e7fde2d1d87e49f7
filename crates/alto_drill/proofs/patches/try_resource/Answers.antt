use Rattle.std.proofs.Common.{◌≡◌, ℕ, ◌∙◌}
use Rattle.std.proofs.lemmas.List.Elements.{All-same}
use Rattle.std.proofs.lemmas.Result.{IfOk-weaker}
use Rattle.alto_book.specs.Numbers.{status_at}
use Rattle.alto_drill.proofs.EdgeLemmas.{here_in_book, same_edges}
use Rattle.alto_drill.proofs.TrialLemmas.{resource_all, resource_none, resource_some}
use Rattle.tips_graph.specs.declared.status.EdgeStatus.TheVariants.{Here}
use Rattle.alto_drill.proofs.patches.try_resource.Goals as goal

pub returns-in_default : goal.returns-in_default
returns-in_default g c = resource_none _ _ _ c.args.of.now c.args.trials.now c.deref.ensures c.front.ensures.stands
    c.in_default.ensures

pub try_edges-requires : goal.try_edges-requires
try_edges-requires g c =
    let found = resource_some _ _ c.args.desk.now.ledger.book c.args.of.now c.in-Some.graph.now c.deref.ensures
    c.front.ensures.legal c.front.ensures.stands c.in-Some.ensures in (
      c.args.desk.now.ledger.book,
      found.0,
      All-same (λ (edge : ℕ × ℕ). status_at c.args.desk.now.ledger.book c.args.of.now edge.0 edge.1 ≡ Here) _
          _ (c.deref-2.ensures.value ∙ c.in_ok-edges.ensures)
          (here_in_book c.in-Some.graph.now c.args.desk.now.ledger.book c.args.of.now found.0),
    )

pub returns : goal.returns
returns g c =
    let found = resource_some _ _ c.args.desk.now.ledger.book c.args.of.now c.in-Some.graph.now c.deref.ensures
    c.front.ensures.legal c.front.ensures.stands c.in-Some.ensures in
    IfOk-weaker c.try_edges.result _ _
    (λ done made.
    made c.args.desk.now.ledger.book found.0
    ∙ resource_all c.args.desk.now.ledger.book c.args.of.now c.deref-2.result.now c.args.trials.now
    (c.deref-2.ensures.value ∙ c.in_ok-edges.ensures ∙ same_edges c.in-Some.graph.now c.args.desk.now.ledger.book
    c.args.of.now found.0 found.1))
    c.try_edges.ensures
