use Rattle.std.proofs.Common.{ℕ, List, [], ◌∷◌, ◌++◌, ◌+◌, Option, Some, option_map, Vec, Global, ap, sym, subst, arith}
use Rattle.std.specs.Arc.{arc_value}
use Rattle.alto_rows.specs.declared.key.Key.{Key}
use Rattle.tips_graph.specs.Graph.{GraphData, Push}
use Rattle.tips_graph.specs.Shortcuts.{StepData, push_of, IsListOfEdge, IsListIfKept, before_kept}
use Rattle.tips_graph.proofs.StepLemmas.{set_again, list_one, list_kept, all_lists}
use Rattle.tips_graph.proofs.graph.Graph.next_step.Goals as goal

-- the keys of a list, where it is kept
abbrev lists : Option (Vec Key Global) → Option (List Key)
lists list = option_map (λ keys. keys.items) list

pub returns-clause-lists : goal.returns-clause-lists
returns-clause-lists g c =
    let graph : GraphData = c.args.self.now in
    let step : StepData = record {
      rows = g.R.RowStore.rows (arc_value c.in_ok-rows.rows);
      keys = c.in_ok-keys.keys.items;
      twos = lists c.in_ok-twos.twos;
      fours = lists c.in_ok-fours.fours;
      eights = lists c.in_ok-eights.eights;
      sixteens = lists c.in_ok-sixteens.sixteens;
    } in
    let push : Push = push_of step in
    let Has : ℕ → Option (List Key) → Type 0 = λ (stride : ℕ) (list : Option (List Key)).
    IsListIfKept (before_kept graph) (graph.kept ++ push ∷ []) (graph.last + 1) stride list in
    let one : IsListOfEdge (before_kept graph) (graph.kept ++ push ∷ []) (graph.last + 1) 1 step.keys =
    list_one (before_kept graph) graph.kept push (graph.last + 1) (omega (arith, c.doubled.ensures.sound.numbered))
    (set_again step.keys c.args.keys.items c.in_ok-keys.ensures) in
    let ones : Has 1 (Some step.keys) =
    list_kept (before_kept graph) (graph.kept ++ push ∷ []) (graph.last + 1) 1 step.keys one in
    let twos : Has 2 step.twos =
    c.in_ok-twos.ensures.list push (subst (Has 1) (ap Some (sym c.deref.ensures.value)) ones) in
    let fours : Has 4 step.fours =
    c.in_ok-fours.ensures.list push (subst (Has 2) (sym c.as_deref.ensures.value) twos) in
    let eights : Has 8 step.eights =
    c.in_ok-eights.ensures.list push (subst (Has 4) (sym c.as_deref-2.ensures.value) fours) in
    let sixteens : Has 16 step.sixteens =
    c.in_ok-sixteens.ensures.list push (subst (Has 8) (sym c.as_deref-3.ensures.value) eights) in
    all_lists (before_kept graph) (graph.kept ++ push ∷ []) (graph.last + 1) step one twos fours eights sixteens
