-- Each resource gets the graph with which those that are left begin, where it is its own.
use Rattle.std.proofs.Common.{◌≡◌, ◌∷◌, ◌∙◌, refl, ap, sym, subst, arith, Vec, Global}
use Rattle.std.specs.Prelude.{List, IfSome}
use Rattle.std.proofs.lemmas.List.{map-append}
use Rattle.std.specs.Arc.{arc_value}
use Rattle.alto_rows.specs.declared.key.Key.{Key}
use Rattle.alto_rows.specs.declared.resource.Resource.{Resource}
use Rattle.alto_versions.specs.Graphs.{AreTouching, entries}
use Rattle.alto_versions.specs.Texts.{map_pieces}
use Rattle.alto_versions.proofs.FoundKeyLemmas.{lists, next_keys}
use Rattle.alto_versions.proofs.MatchLemmas.{matched_step, matched_end, graphs_grown, graphs_of_base}
use Rattle.alto_versions.proofs.ResourceLemmas.{resources_declared}
use Rattle.alto_versions.proofs.graphs.graphs_after.Goals as goal

pub loop-of-init : goal.loop-of-init
loop-of-init g c =
    let all = c.into_iter-of-iterator.ensures.into_iter_gives.0 ∙ c.requires.resources in
    record {
      declared = rw all (resources_declared (g.R.RowStore.rows (arc_value c.args.rows.now)));
      whole = rw (c.new-after.ensures.items, all) refl;
      keys =
          subst (λ (found : List (Vec Key Global)). AreTouching c.args.writes.now (lists found)
          c.into_iter-of-iterator.result.rest.items)
          (sym c.into_iter-found.ensures.rest)
          (subst (λ (left : List Resource). AreTouching c.args.writes.now (lists c.args.keys.items) left) (sym all)
          c.requires.keys);
    }

pub graph_after-requires-clause-declared : goal.graph_after-requires-clause-declared
graph_after-requires-clause-declared g c = (rw c.in-Some.ensures.steps.0 at c.loop-of.invariant.declared).0

pub graph_after-requires-clause-text : goal.graph_after-requires-clause-text
graph_after-requires-clause-text g c =
    let rows = g.R.RowStore.rows (arc_value c.args.rows.now) in
    let of = c.in-Some.of in
    subst (λ found. IfSome found (λ text. text ≡ map_pieces rows of)) (sym c.text_of.ensures) (c.requires.texts of)

pub graph_after-requires-clause-keys : goal.graph_after-requires-clause-keys
graph_after-requires-clause-keys g c =
    (next_keys c.args.writes.now c.loop-of.found.rest.items c.next-own.new.self.rest.items c.loop-of.found.rest.len
    c.next-own.result c.in-Some.of c.next.new.self.rest.items c.next-own.ensures.items
    (omega (arith, c.loop-of.found.rest.ok)) c.next-own.ensures.variant.1
    (subst (λ (left : List Resource). AreTouching c.args.writes.now (lists c.loop-of.found.rest.items) left)
    c.in-Some.ensures.steps.0 c.loop-of.invariant.keys)).0

pub loop-of-preserved : goal.loop-of-preserved
loop-of-preserved g c =
    let rows = g.R.RowStore.rows (arc_value c.args.rows.now) in
    let front : c.loop-of.of-iterator.rest.items ≡ c.in-Some.of ∷ c.next.new.self.rest.items =
    c.in-Some.ensures.steps.0 in
    record {
      declared = (rw front at c.loop-of.invariant.declared).1;
      whole =
          matched_step rows c.args.writes.now (entries c.loop-of.after.items) _ (entries c.loop-of.left.now)
          (entries c.graphs_from-left.result.now) _
          c.loop-of.of-iterator.rest.items _ c.in-Some.of _ _
          c.in-Some.ensures.steps.0
          (ap entries c.in_ok-push.ensures.items ∙ map-append _ c.loop-of.after.items _)
          c.in_ok-graph.ensures
          c.leading_graph.ensures
          c.graphs_from-left.ensures
          c.loop-of.invariant.whole;
      keys =
          (next_keys c.args.writes.now c.loop-of.found.rest.items c.next-own.new.self.rest.items
          c.loop-of.found.rest.len c.next-own.result c.in-Some.of c.next.new.self.rest.items c.next-own.ensures.items
          (omega (arith, c.loop-of.found.rest.ok)) c.next-own.ensures.variant.1
          (subst (λ (left : List Resource). AreTouching c.args.writes.now (lists c.loop-of.found.rest.items) left)
          c.in-Some.ensures.steps.0 c.loop-of.invariant.keys)).1;
    }

pub returns-clause-later : goal.returns-clause-later
returns-clause-later g c = λ book batch legal legal_with rows writes graphs.
    matched_end _ _ (entries c.loop-of.after.items) _ _ c.loop-of.of-iterator.rest.items
    (omega (arith, c.loop-of.of-iterator.rest.ok, c.in-None.ensures.steps.0)) c.loop-of.invariant.whole
    ∙ (rw (rows, writes, graphs) (graphs_grown book batch legal legal_with))

pub returns-clause-first : goal.returns-clause-first
returns-clause-first g c = λ book none rows graphs writes.
    matched_end _ _ (entries c.loop-of.after.items) _ _ c.loop-of.of-iterator.rest.items
    (omega (arith, c.loop-of.of-iterator.rest.ok, c.in-None.ensures.steps.0)) c.loop-of.invariant.whole
    ∙ (rw (graphs, writes) (graphs_of_base book _ c.requires.good none rows))
