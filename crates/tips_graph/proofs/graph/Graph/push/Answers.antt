use Rattle.std.proofs.Common.{◌≡◌, List, [], ◌∷◌, ◌++◌, ◌+◌, ◌-◌, ◌∙◌, length, map, drop, ap, sym, subst, arith}
use Rattle.std.proofs.lemmas.List.{take_rest, length-map}
use Rattle.std.specs.Arc.{arc_value}
use Rattle.tips_graph.specs.Graph.{GraphData, Push, with_push}
use Rattle.tips_graph.specs.Keys.{key_set}
use Rattle.tips_graph.specs.Shortcuts.{StepData, push_of, HasLists, before_kept, graph_with}
use Rattle.tips_graph.proofs.PushLemmas.{made, kept_after, pushed_graph, pushed_stand}
use Rattle.tips_graph.proofs.StepLemmas.{set_again}
use Rattle.tips_graph.proofs.graph.Graph.push.Goals as goal
use Rattle.tips_graph.proofs.graph.Graph.push.Goals.{In_ok-push}
use Rattle.tips_graph.proofs.graph.Graph.push.Given.{Over}

-- the steps that there were
abbrev steps : (g : Over) → In_ok-push g → List StepData
steps g c = map arc_value c.self.inside.kept.items

-- the new one
abbrev step : (g : Over) → In_ok-push g → StepData
step g c = arc_value c.in_ok-step.step

-- the push of the new one
push_is : (g : Over) (c : In_ok-push g)
    → push_of (step g c) ≡ made (g.R.RowStore.rows (arc_value c.args.rows.now)) (key_set c.args.keys.items)
push_is g c = ap push_of c.in_ok-step.ensures.ok ∙ c.in_ok-next_step.ensures.push

-- how many are forgotten
forgotten : (g : Over) (c : In_ok-push g)
    → c.saturating_sub-forgotten.result ≡ length (steps g c) + 1 - c.self.inside.window
forgotten g c = omega (arith, c.self.inside.kept.ok, length-map c.self.inside.kept.items (arc_value))

-- the steps are the last of those that there were and the new one
kept : (g : Over) (c : In_ok-push g)
    → map arc_value c.push.new.self.items ≡ drop c.saturating_sub-forgotten.result (steps g c) ++ step g c ∷ []
kept g c =
    kept_after arc_value c.self.inside.kept.items c.in_ok-kept.kept.items c.append_shared.new.kept.items
    c.push.new.self.items c.in_ok-step.step c.saturating_sub-forgotten.result
    c.in_ok-kept.ensures.items
    (c.in_ok-append_shared.ensures
    ∙ ap (λ left. map arc_value c.in_ok-kept.kept.items ++ map arc_value left)
    (rw c.deref.ensures.value (take_rest c.self.inside.kept.items c.saturating_sub-forgotten.result)))
    c.in_ok-push.ensures.items

pub invariant_of-result : goal.invariant_of-result
invariant_of-result g c =
    let has : HasLists (before_kept c.args.self.now) (c.args.self.now.kept ++ push_of (step g c) ∷ [])
    (c.args.self.now.last + 1) (step g c) =
    subst (λ (this : StepData). HasLists (before_kept c.args.self.now) (c.args.self.now.kept ++ push_of this ∷ [])
    (c.args.self.now.last + 1) this)
    (sym c.in_ok-step.ensures.ok) c.in_ok-next_step.ensures.lists in
    pushed_stand c.self.inside.window c.self.inside.last (steps g c) (step g c) c.saturating_sub-forgotten.result
    (map arc_value c.push.new.self.items) c.self.invariant
    (omega (arith, c.requires, ap (λ (graph : GraphData). graph.last) c.self.view_is)) (forgotten g c) (kept g c)
    (set_again (step g c).keys c.args.keys.items (ap (λ (push : Push). push.keys) (push_is g c)))
    (subst (λ (graph : GraphData). HasLists (before_kept graph) (graph.kept ++ push_of (step g c) ∷ []) (graph.last + 1)
    (step g c)) (sym c.self.view_is) has)

pub returns : goal.returns
returns g c =
    pushed_graph c.self.inside.window c.self.inside.last (steps g c) (step g c) c.saturating_sub-forgotten.result
    (map arc_value c.push.new.self.items) c.self.invariant.sound.at_least (forgotten g c) (kept g c)
    ∙ ap (with_push (graph_with c.self.inside.window c.self.inside.last (steps g c))) (push_is g c)
    ∙ ap (λ (graph : GraphData). with_push graph (made (g.R.RowStore.rows (arc_value c.args.rows.now))
    (key_set c.args.keys.items))) c.self.view_is
