use Rattle.std.proofs.Common.{◌≡◌, ℕ, refl, ◌<◌, List, [], ◌∷◌, ◌++◌, ◌+◌, ◌-◌, ◌∙◌, length, map, take, drop, ap, subst}
use Rattle.std.proofs.Common.{arith}
use Rattle.std.proofs.lemmas.List.{take_rest, length-map}
use Rattle.std.specs.Arc.{arc_value}
use Rattle.tips_graph.specs.Graph.{GraphData, Push, first_of}
use Rattle.tips_graph.specs.Shortcuts.{StepData, push_of}
use Rattle.tips_graph.specs.Sound.{IsSound}
use Rattle.tips_graph.proofs.PushLemmas.{made, kept_cut, cut_graph, cut_stand}
use Rattle.tips_graph.proofs.StepLemmas.{IsKeptAt, kept_at, steps_length}
use Rattle.tips_graph.proofs.graph.Graph.cut.Goals as goal
use Rattle.tips_graph.proofs.graph.Graph.cut.Goals.{In_ok-append_shared}
use Rattle.tips_graph.proofs.graph.Graph.cut.Given.{Over}

-- the steps that there were
abbrev steps : (g : Over) → In_ok-append_shared g → List StepData
steps g c = map arc_value c.self.inside.kept.items

-- the one that is first now
abbrev step : (g : Over) → In_ok-append_shared g → StepData
step g c = arc_value c.in_ok-new.field-0

-- how many numbers follow the first
abbrev later : (g : Over) → In_ok-append_shared g → ℕ
later g c = c.self.inside.last - c.args.first

-- where the number is kept
place : (g : Over) (c : In_ok-append_shared g) → IsKeptAt c.args.self.now c.args.first
place g c = kept_at c.args.self.now c.args.first (subst IsSound c.self.view_is c.self.invariant.sound).numbered
    c.requires

-- what follows its place is dropped to
dropped : (g : Over) (c : In_ok-append_shared g)
    → length c.self.inside.kept.items - later g c ≡ c.args.first - first_of c.args.self.now + 1
dropped g c =
    let at : IsKeptAt c.args.self.now c.args.first = place g c in
    let last : c.self.inside.last ≡ c.args.self.now.last = ap (λ (graph : GraphData). graph.last) c.self.view_is in
    let count : length (steps g c) ≡ length c.args.self.now.kept =
    steps_length c.self.inside.window c.self.inside.last (steps g c) c.args.self.now c.self.view_is in
    omega (arith, at.first, at.from, at.to, last, count, length-map c.self.inside.kept.items (arc_value))

-- which is within the steps
within : (g : Over) (c : In_ok-append_shared g) → c.args.first - first_of c.args.self.now < length (steps g c)
within g c =
    let at : IsKeptAt c.args.self.now c.args.first = place g c in
    let count : length (steps g c) ≡ length c.args.self.now.kept =
    steps_length c.self.inside.window c.self.inside.last (steps g c) c.args.self.now c.self.view_is in
    omega (arith, at.first, at.from, at.to, count)

-- what is left of a list from a place on
rest_at : {X : Type 0} (items seen : List X) (n place : ℕ) → seen ≡ items → n ≡ place
    → take (length seen - n) (drop n seen) ≡ drop place items
rest_at items seen n place same here = take_rest seen n ∙ ap (drop n) same ∙ ap (λ (k : ℕ). drop k items) here

-- the steps are the first and those that follow its place
kept : (g : Over) (c : In_ok-append_shared g)
    → map arc_value c.append_shared.new.kept.items
    ≡ step g c ∷ drop (c.args.first - first_of c.args.self.now + 1) (steps g c)
kept g c =
    kept_cut arc_value c.self.inside.kept.items c.in_ok-kept.kept.items c.push.new.self.items
    c.append_shared.new.kept.items c.in_ok-new.field-0 (length c.self.inside.kept.items - later g c)
    c.in_ok-kept.ensures.items c.in_ok-push.ensures.items
    (c.in_ok-append_shared.ensures ∙ ap (λ left. map arc_value c.push.new.self.items ++ map arc_value left)
    (rest_at c.self.inside.kept.items c.deref.result.now (c.len.result - later g c)
    (length c.self.inside.kept.items - later g c) c.deref.ensures.value
    (omega (arith, c.len.ensures, c.self.inside.kept.ok))))
    ∙ ap (λ (k : ℕ). step g c ∷ drop k (steps g c)) (dropped g c)

-- the push of the first
push_is : (g : Over) (c : In_ok-append_shared g)
    → push_of (step g c) ≡ made (g.R.RowStore.rows (arc_value c.args.rows.now)) []
push_is g c = ap push_of c.in_ok-new.ensures.ok ∙ c.in_ok-first_step.ensures

pub invariant_of-result : goal.invariant_of-result
invariant_of-result g c =
    cut_stand c.self.inside.window c.self.inside.last (steps g c) (step g c) (c.args.first - first_of c.args.self.now)
    (map arc_value c.append_shared.new.kept.items) c.self.invariant
    (within g c) (ap (λ (push : Push). push.keys) (push_is g c)) (kept g c)

pub returns : goal.returns
returns g c =
    cut_graph c.self.inside.window c.self.inside.last (steps g c) (step g c)
    c.args.first (g.R.RowStore.rows (arc_value c.args.rows.now)) (c.args.first - first_of c.args.self.now)
    (map arc_value c.append_shared.new.kept.items) c.args.self.now c.self.view_is (place g c).from
    refl (push_is g c) (kept g c)
