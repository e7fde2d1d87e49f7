-- How many items a list of trees is, and texts that name no metric.
use Rattle.std.proofs.Common.{◌≡◌, List, [], ◌∷◌, length, refl, sym, arith, false, Ok, Err}
use Rattle.alto_names.specs.Name.{named, is_metric_byte}
use Rattle.alto_names.specs.declared.label.NameFault.{NameFault}
use Rattle.alto_rows.specs.declared.key.Key.TheVariants as key
use Rattle.alto_rows.specs.Rows.{Rows, has_row}
use Rattle.alto_rows.proofs.PieceLemmas.{named_is}
use Rattle.alto_asks.specs.Asks.{wrong_text}
use Rattle.alto_maps.specs.Shape.{Name}
use Rattle.json_tree.specs.declared.tree.Tree.{Tree}
use Rattle.json_tree.specs.Tree.{items_data}
use Rattle.cost_filters.specs.Fields.{nested}
use Rattle.cost_filters.specs.Types.{item_count, metric_name, metric_named}

-- a list of trees has as many items as trees
pub count_of_trees : (trees : List Tree) → item_count (items_data trees) ≡ length trees
count_of_trees [] = refl
count_of_trees (tree ∷ trees) = let below : item_count (items_data trees) ≡ length trees = count_of_trees trees in
    rw below (omega arith)

-- a metric that the network doesn't have
pub undeclared : (rows : Rows) (net field text metric : Name) → named is_metric_byte 32 text ≡ Ok metric
    → has_row rows (key.Metric net metric) ≡ false
    → metric_named rows net field text ≡ Err (wrong_text (nested field metric_name) text)
undeclared rows net field text metric names none =
    let same : metric ≡ text = named_is is_metric_byte 32 text metric names in
    let here : has_row rows (key.Metric net text) ≡ false = rw (sym same) none in
    rw (names, here) refl

-- a text that is no name
pub unnamed : (rows : Rows) (net field text : Name) (fault : NameFault) → named is_metric_byte 32 text ≡ Err fault
    → metric_named rows net field text ≡ Err (wrong_text (nested field metric_name) text)
unnamed rows net field text fault names = rw names refl
