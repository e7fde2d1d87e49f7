-- Cost types as a client asks for them (RFC 7285, section 10.7; RFC 8189, section 4.1.2).
use Rattle.std.specs.Prelude.{ℕ, ◌+◌, nat_le, List, [], ◌∷◌, Bool, true, false, ◌&&◌, Option, Some, None, is_ok}
use Rattle.std.specs.Prelude.{Result, Ok, Err, if◌then◌else◌, codes}
use Rattle.serde_json.specs.Data.{Data, Items, no_items, item}
use Rattle.serde_json.specs.Find.{get, as_array}
use Rattle.alto_names.specs.Name.{named, is_metric_byte}
use Rattle.alto_asks.specs.Asks.{◌>>=◌, items_in, missing, wrong_text}
use Rattle.alto_asks.specs.declared.fault.AskFault.{AskFault}
use Rattle.alto_rows.specs.declared.key.Key.TheVariants as key
use Rattle.alto_rows.specs.Order.{same_name}
use Rattle.alto_rows.specs.Rows.{Rows, has_row}
use Rattle.alto_maps.specs.Shape.{Name}
use Rattle.cost_filters.specs.declared.types.CostType.{CostType}
use Rattle.cost_filters.specs.Fields.{nested, object_in, text_at, wrong_value}

-- the field of one cost type
abbrev pub type_field : Name
type_field = codes "cost-type"

-- the field of several
abbrev pub types_field : Name
types_field = codes "multi-cost-types"

-- the member of a cost type that says whether costs or ranks are asked for
abbrev pub mode_name : Name
mode_name = codes "cost-mode"

-- the member that names its metric
abbrev pub metric_name : Name
metric_name = codes "cost-metric"

-- whether a mode asks for ranks
abbrev pub is_ordinal : Name → Name → Result Bool AskFault
is_ordinal field mode =
    if same_name mode (codes "numerical") then Ok false
    else if same_name mode (codes "ordinal") then Ok true
    else Err (wrong_text (nested field mode_name) mode)

-- a text is the name of a metric that the network has
abbrev pub is_metric : Rows → Name → Name → Bool
is_metric rows net text = is_ok (named is_metric_byte 32 text) && has_row rows (key.Metric net text)

-- the metric that a text names
abbrev pub metric_named : Rows → Name → Name → Name → Result Name AskFault
metric_named rows net field text =
    if is_metric rows net text then Ok text else Err (wrong_text (nested field metric_name) text)

-- the cost type that a value is
abbrev pub cost_type_in : Rows → Name → Name → Data → Result CostType AskFault
cost_type_in rows net field value =
    object_in field value
    >>= λ object. text_at field mode_name object
    >>= λ mode. is_ordinal field mode
    >>= λ ordinal. text_at field metric_name object
    >>= λ text. metric_named rows net field text
    >>= λ metric. Ok (record { metric = metric; ordinal = ordinal })

-- the cost types that items are, or the fault of the first that is none
abbrev pub cost_types_in : Rows → Name → Name → Items → Result (List CostType) AskFault
cost_types_in rows net field no_items = Ok []
cost_types_in rows net field (item value items) =
    cost_type_in rows net field value
    >>= λ type. cost_types_in rows net field items
    >>= λ types. Ok (type ∷ types)

-- how many items there are
abbrev pub item_count : Items → ℕ
item_count no_items = 0
item_count (item value items) = item_count items + 1

-- the items, if there are 1 to 8
abbrev pub one_to_eight : Items → Result Items AskFault
one_to_eight items =
    if nat_le 1 (item_count items) && nat_le (item_count items) 8 then Ok items else Err (wrong_value types_field)

-- beside one cost type there is no list of several
abbrev pub no_types : Option Data → Result Items AskFault
no_types None = Ok no_items
no_types (Some value) = items_in types_field (as_array value) >>= λ items. Err (wrong_value types_field)

-- the cost types that are asked for, and whether in the form of several
pub record AskedTypesData : Type 0 where
  pub multi : Bool
  pub types : List CostType

-- the cost types of both fields' values
abbrev pub types_in : Rows → Name → Option Data → Option Data → Result AskedTypesData AskFault
types_in rows net (Some value) several =
    cost_type_in rows net type_field value
    >>= λ type. no_types several
    >>= λ none. Ok (record { multi = false; types = type ∷ [] })
types_in rows net None (Some value) =
    items_in types_field (as_array value)
    >>= λ items. one_to_eight items
    >>= λ few. cost_types_in rows net types_field few
    >>= λ types. Ok (record { multi = true; types = types })
types_in rows net None None = Err (missing type_field)

-- the cost types that an ask names, or their first fault
unfoldable pub asked_types : Rows → Name → Data → Result AskedTypesData AskFault
asked_types rows net ask = types_in rows net (get type_field ask) (get types_field ask)
