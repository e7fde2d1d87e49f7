-- Fields inside fields, and values of which one alone can be had (RFC 7285, section 8.5.2).
use Rattle.std.specs.Prelude.{◌++◌, Some, None, is_some, Result, Ok, Err, if◌then◌else◌, codes}
use Rattle.serde_json.specs.Data.{Data, Items}
use Rattle.serde_json.specs.Find.{get, as_object}
use Rattle.alto_asks.specs.Asks.{optional_list, required_in, wrong_text, wrong_type}
use Rattle.alto_asks.specs.declared.fault.AskCode.TheVariants as code
use Rattle.alto_asks.specs.declared.fault.AskFault.{AskFault}
use Rattle.alto_asks.specs.declared.fault.AskFault.TheVariants as fault
use Rattle.alto_rows.specs.Order.{same_name}
use Rattle.alto_maps.specs.Shape.{Name}

-- the field of a member of a field's value
abbrev pub nested : Name → Name → Name
nested field name = field ++ (codes "/" ++ name)

-- the value of this field can't be had
abbrev pub wrong_value : Name → AskFault
wrong_value field = fault.Bad code.InvalidFieldValue (Some field) None

-- the ask, if it has no such field
abbrev pub without : Name → Data → Result Data AskFault
without field ask = if is_some (get field ask) then Err (wrong_value field) else Ok ask

-- the text of a field, if it is the one that can be had
abbrev pub only : Name → Name → Name → Result Name AskFault
only allowed field text = if same_name text allowed then Ok text else Err (wrong_text field text)

-- the value of a field, if it is an object
abbrev pub object_in : Name → Data → Result Data AskFault
object_in field value = if is_some (as_object value) then Ok value else Err (wrong_type field)

-- the text that the value of a field must have in a member
abbrev pub text_at : Name → Name → Data → Result Name AskFault
text_at field name value = required_in (nested field name) (get name value)

-- the items of the list that the value of a field may have in a member, none where it has no such member
abbrev pub items_at : Name → Name → Data → Result Items AskFault
items_at field name value = optional_list (nested field name) (get name value)
