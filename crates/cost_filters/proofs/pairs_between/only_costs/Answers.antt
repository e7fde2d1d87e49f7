use Rattle.std.proofs.Common.{◌≡◌, ◌∙◌, Some, ap, slice_get, sym}
use Rattle.std.proofs.lemmas.Option.{IfSome_then}
use Rattle.std.specs.Prelude.{option_copied}
use Rattle.cost_filters.proofs.BetweenLemmas.{only_column}
use Rattle.cost_filters.proofs.pairs_between.only_costs.Goals as goal

pub returns-in-Some : goal.returns-in-Some
returns-in-Some c =
    let columns = c.args.columns.now in
    let there : slice_get columns 0 ≡ Some c.in-Some.column.now =
    sym c.first.ensures.value ∙ ap option_copied c.in-Some.is in
    IfSome_then c.unscaled.result c.unscaled.ensures
    (λ costs is. only_column columns c.in-Some.column.now c.args.src costs.now c.if-columns-ne1.false there is)
