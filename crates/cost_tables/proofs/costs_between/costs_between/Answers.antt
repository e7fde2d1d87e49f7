use Rattle.std.proofs.Common.{◌≡◌, ◌∙◌, ◌++◌, ◌≤◌, ℕ, ap, arith, drop, length, map, option_map, sym}
use Rattle.std.proofs.lemmas.List.{append-nil, drop_all, length-map}
use Rattle.std.specs.Prelude.{List, Option}
use Rattle.std.specs.List.{flat_map}
use Rattle.cost_tables.specs.Between.{rows_of}
use Rattle.cost_tables.specs.Lists.{Sources, sources_in, table_of}
use Rattle.cost_tables.specs.Tables.{Name, cost_told}
use Rattle.cost_tables.proofs.BetweenLemmas.{length_joined, rows_joined}
use Rattle.cost_tables.proofs.costs_between.costs_between.Goals as goal

-- where no source is left, the costs are those of all
all_costs : {X : Type 0} (f : X → List (Option ℕ)) (xs : List X) (at : ℕ) (costs : List (Option ℕ))
    → length xs ≤ at → costs ++ flat_map f (drop at xs) ≡ flat_map f xs → costs ≡ flat_map f xs
all_costs f xs at costs past all =
    sym (append-nil costs) ∙ (ap (λ left. costs ++ flat_map f left) (sym (drop_all at xs past)) ∙ all)

-- the costs from a source
abbrev told : Sources → List Name → Name → List (Option ℕ)
told sources dsts source = map (cost_told (table_of sources) source) dsts

pub new-requires : goal.new-requires
new-requires c =
    let costs_from = told (sources_in (option_map (λ table. table.now) c.args.table)) c.args.destinations.now in
    let sources = c.args.sources.now in
    let l = c.loop-source in
    let past : length sources ≤ l.source-index = omega (arith, c.loop-source-test.false) in
    ap length (all_costs costs_from sources l.source-index l.costs.items past l.invariant.0)
    ∙ length_joined costs_from (length c.args.destinations.now) sources (λ source. length-map c.args.destinations.now _)

pub returns : goal.returns
returns c =
    let costs_from = told (sources_in (option_map (λ table. table.now) c.args.table)) c.args.destinations.now in
    let sources = c.args.sources.now in
    let l = c.loop-source in
    let width = length c.args.destinations.now in
    let past : length sources ≤ l.source-index = omega (arith, c.loop-source-test.false) in
    c.new.ensures
    ∙ (ap (rows_of (length sources) width)
    (all_costs costs_from sources l.source-index l.costs.items past l.invariant.0)
    ∙ rows_joined costs_from width sources (λ source. length-map c.args.destinations.now _))
