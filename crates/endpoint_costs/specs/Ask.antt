-- What a client may ask of the costs between addresses (RFC 7285, section 11.5.1.3; RFC 8189, section 4.2.2).
use Rattle.std.specs.Prelude.{◌≡◌, List, [], ◌∷◌, Bool, Option, Some, None, Result, Ok, Err, codes}
use Rattle.serde_json.specs.Data.{Data, Items, no_items, item}
use Rattle.serde_json.specs.Find.{get, as_str}
use Rattle.alto_addr.specs.declared.addr.Addr.{Addr}
use Rattle.alto_asks.specs.Asks.{missing, text_in, wrong_text}
use Rattle.alto_asks.specs.declared.fault.AskFault.{AskFault}
use Rattle.alto_rows.specs.Entities.{WritesTypedAddr}
use Rattle.alto_rows.specs.Rows.{Rows}
use Rattle.alto_maps.specs.Shape.{Name}
use Rattle.cost_rule.specs.declared.constraint.Constraint.{Constraint}
use Rattle.cost_filters.specs.declared.types.CostType.{CostType}
use Rattle.cost_filters.specs.Constraints.{TestsData, asked_tests}
use Rattle.cost_filters.specs.Fields.{items_at, nested, object_in}
use Rattle.cost_filters.specs.Types.{AskedTypesData, asked_types}
use Rattle.endpoint_costs.specs.Reading.{Reading, Gives, ◌>>◌}

-- what is asked for: in which form, which cost types, which of them constraints test, the constraints, and from and to
-- which addresses; None where none are given
pub record EndAskData : Type 0 where
  pub multi : Bool
  pub types : List CostType
  pub tested : List CostType
  pub alternatives : List (List Constraint)
  pub srcs : Option (List Addr)
  pub dsts : Option (List Addr)

-- the field of the addresses
abbrev pub ends_field : Name
ends_field = codes "endpoints"

-- the object that the field must have
abbrev pub object_at : Option Data → Result Data AskFault
object_at (Some value) = object_in ends_field value
object_at None = Err (missing ends_field)

-- a text is read as the address that it writes behind its type, or as the fault that it writes none
abbrev pub ReadsText : Name → Name → Reading Addr
ReadsText field text (Ok addr) = WritesTypedAddr text addr
ReadsText field text (Err why) = ((addr : Addr) → ¬ (WritesTypedAddr text addr)) × (why ≡ wrong_text field text)

-- what an item of a field's list is read as
abbrev pub ReadsAddr : Name → Data → Reading Addr
ReadsAddr field value = Gives (text_in field (as_str value)) >> λ text. ReadsText field text

-- what items are read as: all their addresses, or the first fault
abbrev pub ReadsAddrs : Name → Items → Reading (List Addr)
ReadsAddrs field no_items = Gives (Ok [])
ReadsAddrs field (item value items) =
    ReadsAddr field value >> λ addr. ReadsAddrs field items >> λ addrs. Gives (Ok (addr ∷ addrs))

-- addresses, if there are any
abbrev pub if_any : List Addr → Option (List Addr)
if_any [] = None
if_any (addr ∷ addrs) = Some (addr ∷ addrs)

-- what a member of the field's object is read as
abbrev pub ReadsMember : Name → Data → Reading (Option (List Addr))
ReadsMember name ends =
    Gives (items_at ends_field name ends)
    >> λ items. ReadsAddrs (nested ends_field name) items
    >> λ addrs. Gives (Ok (if_any addrs))

-- from and to which addresses costs are asked for
pub record EndsData : Type 0 where
  pub srcs : Option (List Addr)
  pub dsts : Option (List Addr)

-- what the field is read as
abbrev pub ReadsEnds : Option Data → Reading EndsData
ReadsEnds found =
    Gives (object_at found)
    >> λ ends. ReadsMember (codes "srcs") ends
    >> λ srcs. ReadsMember (codes "dsts") ends
    >> λ dsts. Gives (Ok (record { srcs = srcs; dsts = dsts }))

-- what is asked for by these types, tests and ends
abbrev pub asked_by : AskedTypesData → TestsData → EndsData → EndAskData
asked_by asked tests ends = record {
  multi = asked.multi;
  types = asked.types;
  tested = tests.tested;
  alternatives = tests.alternatives;
  srcs = ends.srcs;
  dsts = ends.dsts;
}

-- what the body of a request is read as: what it asks for, or its first fault
abbrev pub ReadsEndAsk : Rows → Name → Data → Reading EndAskData
ReadsEndAsk rows net ask =
    Gives (asked_types rows net ask)
    >> λ asked. Gives (asked_tests rows net asked.types ask)
    >> λ tests. ReadsEnds (get ends_field ask)
    >> λ ends. Gives (Ok (asked_by asked tests ends))
