-- What a client may ask of the cost maps of a network (RFC 7285, section 11.3.2.3; RFC 8189, section 4.1.2).
use Rattle.std.specs.Prelude.{List, Bool, Option, Some, None, Result, Ok, codes}
use Rattle.serde_json.specs.Data.{Data}
use Rattle.serde_json.specs.Find.{get}
use Rattle.alto_asks.specs.Asks.{◌>>=◌, texts_of}
use Rattle.alto_asks.specs.declared.fault.AskFault.{AskFault}
use Rattle.alto_rows.specs.Rows.{Rows}
use Rattle.alto_maps.specs.Shape.{Name}
use Rattle.net_docs.specs.Ask.{pick_of, pids_field}
use Rattle.net_docs.specs.declared.ask.Pick.{Pick}
use Rattle.net_docs.specs.declared.ask.Pick.TheVariants as pick
use Rattle.cost_rule.specs.declared.constraint.Constraint.{Constraint}
use Rattle.cost_filters.specs.declared.ask.Ends.{Ends}
use Rattle.cost_filters.specs.declared.types.CostType.{CostType}
use Rattle.cost_filters.specs.Constraints.{asked_tests}
use Rattle.cost_filters.specs.Fields.{items_at, nested, object_in}
use Rattle.cost_filters.specs.Types.{asked_types}

-- what is asked for: in which form, which cost types, which of them constraints test, the constraints, and from and to
-- which PIDs
pub record CostAskData : Type 0 where
  pub multi : Bool
  pub types : List CostType
  pub tested : List CostType
  pub alternatives : List (List Constraint)
  pub srcs : Pick
  pub dsts : Pick

-- the PIDs that a list in an object asks for
abbrev pub picked : Name → Data → Result Pick AskFault
picked name value =
    items_at pids_field name value
    >>= λ items. texts_of (nested pids_field name) items
    >>= λ texts. Ok (pick_of texts)

-- the sources and the destinations that an object asks for; without one, all
abbrev pub ends_in : Option Data → Result Ends AskFault
ends_in None = Ok (record { srcs = pick.All; dsts = pick.All })
ends_in (Some value) =
    object_in pids_field value
    >>= λ object. picked (codes "srcs") object
    >>= λ srcs. picked (codes "dsts") object
    >>= λ dsts. Ok (record { srcs = srcs; dsts = dsts })

-- what the body of a request asks for, or its first fault
unfoldable pub cost_ask : Rows → Name → Data → Result CostAskData AskFault
cost_ask rows net ask =
    asked_types rows net ask
    >>= λ asked. asked_tests rows net asked.types ask
    >>= λ tests. ends_in (get pids_field ask)
    >>= λ ends. Ok (record {
      multi = asked.multi;
      types = asked.types;
      tested = tests.tested;
      alternatives = tests.alternatives;
      srcs = ends.srcs;
      dsts = ends.dsts;
    })
