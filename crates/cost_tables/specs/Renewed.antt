-- A table of which the costs from some sources are made anew, and all others stay.
use Rattle.std.specs.Prelude.{◌≡◌, List, [], Option, Some, None, IfSome, if◌then◌else◌}
use Rattle.std.specs.BTreeMap.{is_at}
use Rattle.std.specs.List.{AllByRecursion, flat_map, list_any}
use Rattle.std.specs.Map.{keys_of, lookup}
use Rattle.std.specs.Option.{option_to_list}
use Rattle.alto_rows.specs.declared.write.Write.{Write}
use Rattle.alto_rows.specs.Costs.{cost_of}
use Rattle.alto_rows.specs.Order.{name_cmp, same_name}
use Rattle.alto_rows.specs.Rows.{AreSorted, Rows, after}
use Rattle.cost_tables.specs.Lists.{Listed, Sources}
use Rattle.cost_tables.specs.Tables.{Costs, HasCostsOf, Name, Table, cost_told}
use Rattle.shared_list.specs.Changed.{Change}

-- a table tells the costs that rows have from these sources, and from all others those of a table before
abbrev pub IsRenewed : Rows → Name → Name → List Name → Table → Table → Type 0
IsRenewed rows net metric names before later = (src dst : Name) → cost_told later src dst
    ≡ (if list_any (same_name src) names then cost_of rows net metric src dst else cost_told before src dst)

-- the name of a source
abbrev pub name_of : Name × Listed → Name
name_of from = from.0

-- the costs of a source that a table has, or hasn't
abbrev pub costs_in : Option (Name × Listed) → Costs
costs_in None = []
costs_in (Some from) = from.1.costs

-- changes of sources
abbrev pub Changes : Type 0
Changes = List (Change (Name × Listed))

-- the sources that they put into a table
abbrev pub put : Changes → Sources
put changes = flat_map (λ change. option_to_list change.1) changes

-- changes of these sources
pub record AreChanges (sources : List Name) (changes : Changes) : Type 0 where
  pub names : keys_of changes ≡ sources
  pub named : AllByRecursion (λ change. IfSome change.1 (λ from. from.0 ≡ change.0)) changes

-- each to the costs that rows have of it
abbrev pub TellCosts : Rows → Name → Name → Changes → Type 0
TellCosts rows net metric changes =
    AllByRecursion (λ change. HasCostsOf rows net metric change.0 (costs_in change.1)) changes

-- rows whose costs these sources have, and from which writes led to others
pub record CameFrom (net metric : Name) (sources : Sources) (writes : List Write) (rows before : Rows) : Type 0 where
  pub sorted : AreSorted before
  pub led : rows ≡ after before writes
  pub had : (src : Name)
      → IfSome (lookup (is_at (name_cmp src)) sources) (λ from. HasCostsOf before net metric src from.costs)
