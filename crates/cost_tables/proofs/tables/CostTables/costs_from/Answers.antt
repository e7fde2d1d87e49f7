-- The table of the metric has the costs from the source.
use Rattle.std.proofs.Common.{◌≡◌, ◌∙◌, Bor, None, Option, Some, ap, option_map, refl, sym}
use Rattle.std.specs.Prelude.{option_and_then}
use Rattle.std.specs.Arc.{arc_value}
use Rattle.std.specs.BTreeMap.{is_at}
use Rattle.std.specs.Map.{lookup}
use Rattle.alto_rows.specs.Order.{name_cmp}
use Rattle.cost_tables.specs.Lists.{Listed, Sources, table_of}
use Rattle.cost_tables.specs.Tables.{Costs, Name, Table, cost_to, cost_told, costs_if_any, is_of}
use Rattle.cost_tables.proofs.ListLemmas.{lookup-table_of}
use Rattle.cost_tables.proofs.tables.CostTables.costs_from.Goals as goal

-- what is told by a source, if there is one
told_if_any : (found : Option (Bor (Name × Listed))) (dst : Name)
    → cost_to (costs_if_any (option_map (λ from. from.now.1.costs) found)) dst
    ≡ option_and_then (λ costs. cost_to costs dst)
    (option_map (λ (from : Listed). from.costs) (option_map (λ from. from.now.1) found))
told_if_any None dst = refl
told_if_any (Some from) dst = refl

pub returns-in-Some : goal.returns-in-Some
returns-in-Some c dst =
    let src = c.args.source.now in
    let test = is_at (name_cmp src) in
    let sources : Sources = arc_value c.in-Some.table.now in
    let found : lookup (is_of c.args.net.now c.args.metric.now) c.args.self.now ≡ Some (table_of sources) =
    sym c.table.ensures ∙ ap (option_map (λ table. table_of (arc_value table.now))) c.in-Some.is in
    ap (λ costs. cost_to costs dst) c.new.ensures
    ∙ (told_if_any c.from.result dst
    ∙ (ap (λ found. option_and_then (λ costs. cost_to costs dst) (option_map (λ (from : Listed). from.costs) found))
    (c.from.ensures.from ∙ ap (λ (sources : Sources). lookup test sources) c.deref.ensures)
    ∙ (ap (option_and_then (λ (costs : Costs). cost_to costs dst)) (sym (lookup-table_of test sources))
    ∙ ap (option_and_then (λ (table : Table). cost_told table src dst)) (sym found))))
