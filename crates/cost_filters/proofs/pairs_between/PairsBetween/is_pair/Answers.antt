use Rattle.std.proofs.Common.{◌∙◌, ap, sym}
use Rattle.std.specs.Prelude.{List, is_some, slice_get}
use Rattle.cost_filters.specs.Between.{Found, columns_at, is_flagged, pairs_at}
use Rattle.cost_filters.specs.Pairs.{if_there}
use Rattle.cost_filters.proofs.BetweenLemmas.{no_destination, no_source, pair_there}
use Rattle.cost_filters.proofs.PairsLemmas.{is_found}
use Rattle.cost_filters.proofs.pairs_between.PairsBetween.is_pair.Goals as goal

pub returns-then-src-self : goal.returns-then-src-self
returns-then-src-self c =
    let src = c.args.src in
    let dst = c.args.dst in
    ap is_some (sym (no_source c.self.inside.costs.items c.self.inside.shown c.self.inside.sources
    c.self.inside.destinations src dst c.if-src-self.true))
    ∙ ap (λ (pairs : List Found). is_some (if_there (slice_get (pairs_at pairs src) dst))) c.self.view_is

pub returns-then-dst-self : goal.returns-then-dst-self
returns-then-dst-self c =
    let src = c.args.src in
    let dst = c.args.dst in
    ap is_some (sym (no_destination c.self.inside.costs.items c.self.inside.shown c.self.inside.sources
    c.self.inside.destinations src dst c.if-dst-self.true))
    ∙ ap (λ (pairs : List Found). is_some (if_there (slice_get (pairs_at pairs src) dst))) c.self.view_is

pub returns : goal.returns
returns c =
    let costs = c.self.inside.costs.items in
    let shown = c.self.inside.shown in
    let src = c.args.src in
    let dst = c.args.dst in
    c.is_shown.ensures
    ∙ (ap (λ costs. is_flagged costs shown src dst) c.deref.ensures.value
    ∙ (is_found (columns_at src costs) dst (is_flagged costs shown src dst)
    ∙ (ap is_some (sym (pair_there costs shown c.self.inside.sources c.self.inside.destinations src dst
    c.if-src-self.false c.if-dst-self.false))
    ∙ ap (λ (pairs : List Found). is_some (if_there (slice_get (pairs_at pairs src) dst))) c.self.view_is)))
