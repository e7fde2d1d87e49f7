use Rattle.std.proofs.Common.{◌≡◌, refl, ◌-◌, ◌+◌, ◌*◌, ◌++◌, ◌∷◌, [], List, length, map, option_map, ap, arith, Bor}
use Rattle.std.proofs.lemmas.List.{length-map}
use Rattle.std.specs.Arc.{arc_value}
use Rattle.alto_rows.specs.declared.key.Key.{Key}
use Rattle.tips_graph.specs.Shortcuts.{IsListOfEdge, before_kept}
use Rattle.tips_graph.proofs.ShortcutLemmas.{stride_positive}
use Rattle.tips_graph.proofs.StepLemmas.{Doubles, doubles, list_kept, step_in}
use Rattle.tips_graph.proofs.graph.Graph.doubled.Goals as goal

pub returns-clause-list : goal.returns-clause-list
returns-clause-list g c = λ push newer.
    let graph = c.args.self.now in
    let steps = map arc_value c.self.inside.kept.items in
    let keys = c.in-Some-newer.newer.now in
    let count : length (map arc_value c.self.inside.kept.items) ≡ length c.self.inside.kept.items =
    length-map c.self.inside.kept.items arc_value in
    let made : Doubles c.args.self.now c.args.half c.in-Some.older.now =
    doubles c.self.inside.window c.self.inside.last steps graph c.args.half c.deref.result.now c.in-Some.older.now
    c.self.view_is c.self.invariant c.requires.half (stride_positive c.args.half c.requires.half)
    c.if-self-half-ne0.false (omega (arith, c.if-kept-half.false, count, c.len-kept.ensures, c.self.inside.kept.ok))
    (step_in arc_value c.self.inside.kept.items c.self.inside.kept.items (c.len-kept.result - c.args.half)
    (length (map arc_value c.self.inside.kept.items) - c.args.half) c.index.result.now c.deref.result.now
    c.deref.ensures c.index.ensures refl (omega (arith, count, c.len-kept.ensures, c.self.inside.kept.ok)))
    c.in-Some.ensures in
    let second : IsListOfEdge (before_kept graph) (graph.kept ++ push ∷ []) (graph.last + 1) c.args.half keys =
    newer keys (ap (option_map (λ (these : Bor (List Key)). these.now)) c.in-Some-newer.is) in
    list_kept (before_kept graph) (graph.kept ++ push ∷ []) (graph.last + 1) (2 * c.args.half)
    c.in_ok-merged.field-0.items
    (made.both push keys c.in_ok-merged.field-0.items second
    (c.in_ok-merged.ensures made.older_set (made.newer_set push keys second)))
