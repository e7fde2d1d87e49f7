-- The constraints of an ask, and the cost types that they test (RFC 7285, section 11.3.2.3; RFC 8189, section 4.1.3).
use Rattle.std.specs.Prelude.{List, [], ◌∷◌, Bool, false, not, Option, Some, None, slice_get, unwrap_or, Result}
use Rattle.std.specs.Prelude.{Ok, Err, if◌then◌else◌, codes}
use Rattle.serde_json.specs.Data.{Data, Items, no_items, item}
use Rattle.serde_json.specs.Find.{get, as_array, as_str}
use Rattle.alto_asks.specs.Asks.{◌>>=◌, items_in, optional_items, text_in, texts_of, wrong_text}
use Rattle.alto_asks.specs.declared.fault.AskFault.{AskFault}
use Rattle.alto_rows.specs.Rows.{Rows}
use Rattle.alto_maps.specs.Shape.{Name}
use Rattle.cost_rule.specs.declared.constraint.Constraint.{Constraint}
use Rattle.cost_rule.specs.Stages.{spelled}
use Rattle.cost_filters.specs.declared.types.CostType.{CostType}
use Rattle.cost_filters.specs.Fields.{wrong_value}
use Rattle.cost_filters.specs.Types.{cost_types_in}

-- the field of the cost types that constraints test
abbrev pub tested_field : Name
tested_field = codes "testable-cost-types"

-- the field of constraints that must all hold
abbrev pub all_field : Name
all_field = codes "constraints"

-- the field of lists of constraints of which one must hold
abbrev pub or_field : Name
or_field = codes "or-constraints"

-- a cost type is there, and of costs
abbrev pub is_numerical : Option CostType → Bool
is_numerical (Some type) = not type.ordinal
is_numerical None = false

-- a constraint tests the costs of one of these types
abbrev pub tests_one : List CostType → Constraint → Bool
tests_one types constraint = is_numerical (slice_get types (unwrap_or constraint.index 0))

-- the constraint that was read, if it tests one of the types
abbrev pub testing : List CostType → Name → Name → Option Constraint → Result Constraint AskFault
testing types field text (Some constraint) =
    if tests_one types constraint then Ok constraint else Err (wrong_text field text)
testing types field text None = Err (wrong_text field text)

-- the constraint of a text on these types
abbrev pub constraint_named : List CostType → Name → Name → Result Constraint AskFault
constraint_named types field text = testing types field text (spelled text)

-- the constraints that items are, or the fault of the first that is none
abbrev pub constraints_in : List CostType → Name → Items → Result (List Constraint) AskFault
constraints_in types field no_items = Ok []
constraints_in types field (item value items) =
    text_in field (as_str value)
    >>= λ text. constraint_named types field text
    >>= λ constraint. constraints_in types field items
    >>= λ constraints. Ok (constraint ∷ constraints)

-- the lists of constraints that items are, or the first fault
abbrev pub alternatives_in : List CostType → Items → Result (List (List Constraint)) AskFault
alternatives_in types no_items = Ok []
alternatives_in types (item value items) =
    items_in or_field (as_array value)
    >>= λ texts. constraints_in types or_field texts
    >>= λ constraints. alternatives_in types items
    >>= λ alternatives. Ok (constraints ∷ alternatives)

-- each item is a list of texts, or the first fault of a type
abbrev pub only_text_lists : Items → Result Items AskFault
only_text_lists no_items = Ok no_items
only_text_lists (item value items) =
    items_in or_field (as_array value) >>= λ list. texts_of or_field list >>= λ texts. only_text_lists items

-- there is no item
abbrev pub no_lists : Items → Result Items AskFault
no_lists no_items = Ok no_items
no_lists (item value items) = Err (wrong_value or_field)

-- beside constraints that must all hold there are no alternatives
abbrev pub no_alternatives : Data → Result Items AskFault
no_alternatives ask = optional_items or_field ask >>= λ items. only_text_lists items >>= λ none. no_lists items

-- no alternatives leave one, without a constraint
abbrev pub or_none : List (List Constraint) → List (List Constraint)
or_none [] = [] ∷ []
or_none (constraints ∷ more) = constraints ∷ more

-- the alternatives by the value of `constraints`, and the items of `or-constraints`, whose empty list counts as absent
abbrev pub alternatives_by : List CostType → Data → Option Data → Result (List (List Constraint)) AskFault
alternatives_by types ask (Some value) =
    items_in all_field (as_array value)
    >>= λ items. constraints_in types all_field items
    >>= λ constraints. no_alternatives ask
    >>= λ none. Ok (constraints ∷ [])
alternatives_by types ask None =
    optional_items or_field ask
    >>= λ items. alternatives_in types items
    >>= λ alternatives. Ok (or_none alternatives)

-- the types that an index counts in: those of their own field where it is there, else the asked ones
abbrev pub tested_by : Rows → Name → List CostType → Option Data → Result (List CostType) AskFault
tested_by rows net asked None = Ok asked
tested_by rows net asked (Some value) =
    items_in tested_field (as_array value) >>= λ items. cost_types_in rows net tested_field items

-- the cost types that constraints test, and lists of constraints of which one must hold whole
pub record TestsData : Type 0 where
  pub tested : List CostType
  pub alternatives : List (List Constraint)

-- the constraints of an ask for these types, or their first fault
unfoldable pub asked_tests : Rows → Name → List CostType → Data → Result TestsData AskFault
asked_tests rows net asked ask =
    tested_by rows net asked (get tested_field ask)
    >>= λ tested. alternatives_by tested ask (get all_field ask)
    >>= λ alternatives. Ok (record { tested = tested; alternatives = alternatives })
