use Rattle.std.proofs.Common.{◌≡◌, ◌∙◌, [], ap, arith, drop, sym}
use Rattle.std.specs.Prelude.{Bool, List, is_some}
use Rattle.std.specs.List.{list_any}
use Rattle.cost_filters.specs.Between.{Found, pairs_at, rows_shown}
use Rattle.cost_filters.proofs.BetweenLemmas.{any_past, none_past, one_any}
use Rattle.cost_filters.proofs.pairs_between.PairsBetween.has_pair.Goals as goal

pub returns-then-is_pair : goal.returns-then-is_pair
returns-then-is_pair c = sym (one_any (pairs_at c.args.self.now c.args.src) c.loop-dst.dst (sym c.if-is_pair.ensures))

pub loop-dst-preserved : goal.loop-dst-preserved
loop-dst-preserved c =
    any_past (pairs_at c.args.self.now c.args.src) c.loop-dst.dst (sym c.if-is_pair.ensures) ∙ c.loop-dst.invariant

pub returns : goal.returns
returns c =
    let src = c.args.src in
    let dst = c.loop-dst.dst in
    let any : Found → Bool = λ row. list_any (λ pair. is_some pair) row in
    let end : dst ≡ c.self.inside.destinations = omega (arith, c.loop-dst-test.false, c.loop-dst.auto.dst-end) in
    let none : drop dst (pairs_at c.args.self.now src) ≡ [] =
    ap (λ (pairs : List Found). drop dst (pairs_at pairs src)) (sym c.self.view_is)
    ∙ (ap (λ n. drop n (pairs_at (rows_shown c.self.inside.costs.items c.self.inside.shown c.self.inside.sources
    c.self.inside.destinations) src)) end
    ∙ none_past c.self.inside.costs.items c.self.inside.shown c.self.inside.sources c.self.inside.destinations src) in
    ap any (sym none) ∙ c.loop-dst.invariant
