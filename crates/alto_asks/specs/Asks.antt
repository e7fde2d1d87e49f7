-- The body of an ask: an object, and the texts among its members, with the fault of each (RFC 7285, section 8.5.2).
use Rattle.std.specs.Prelude.{ℕ, List, [], ◌∷◌, Option, Some, None, is_some, Result, Ok, Err, if◌then◌else◌, codes}
use Rattle.serde_json.specs.Data.{Data, Items, no_items, item}
use Rattle.serde_json.specs.Find.{get, as_array, as_object, as_str}
use Rattle.json_tree.specs.declared.fault.TreeFault.{TreeFault}
use Rattle.json_tree.specs.Whole.{whole_value}
use Rattle.alto_asks.specs.declared.fault.AskCode.{AskCode}
use Rattle.alto_asks.specs.declared.fault.AskCode.TheVariants as code
use Rattle.alto_asks.specs.declared.fault.AskFault.{AskFault}
use Rattle.alto_asks.specs.declared.fault.AskFault.TheVariants as fault

-- an error's code, as it is written (section 8.5.2)
abbrev pub code_text : AskCode → List ℕ
code_text code.Syntax = codes "E_SYNTAX"
code_text code.MissingField = codes "E_MISSING_FIELD"
code_text code.InvalidFieldType = codes "E_INVALID_FIELD_TYPE"
code_text code.InvalidFieldValue = codes "E_INVALID_FIELD_VALUE"

-- the body is no object
abbrev pub no_object : AskFault
no_object = fault.Bad code.Syntax None None

-- this field is missing
abbrev pub missing : List ℕ → AskFault
missing field = fault.Bad code.MissingField (Some field) None

-- the value of this field is of another type
abbrev pub wrong_type : List ℕ → AskFault
wrong_type field = fault.Bad code.InvalidFieldType (Some field) None

-- this field has this text, which it can't have
abbrev pub wrong_text : List ℕ → List ℕ → AskFault
wrong_text field text = fault.Bad code.InvalidFieldValue (Some field) (Some text)

-- what is read one after another, or the first fault
infixl 10 ◌>>=◌
abbrev pub ◌>>=◌ : {A B : Type 0} → Result A AskFault → (A → Result B AskFault) → Result B AskFault
(Ok x) >>= f = f x
(Err why) >>= f = Err why

-- what was read, if it is an object
abbrev pub object_or_fault : Result Data TreeFault → Result Data AskFault
object_or_fault (Ok value) = if is_some (as_object value) then Ok value else Err no_object
object_or_fault (Err why) = Err no_object

-- the object that a body is
unfoldable pub ask_of : List ℕ → Result Data AskFault
ask_of body = object_or_fault (whole_value body)

-- the value of a field, if it is a text
abbrev pub text_in : List ℕ → Option (List ℕ) → Result (List ℕ) AskFault
text_in field (Some text) = Ok text
text_in field None = Err (wrong_type field)

-- the text of a field that must be there
abbrev pub required_in : List ℕ → Option Data → Result (List ℕ) AskFault
required_in field (Some value) = text_in field (as_str value)
required_in field None = Err (missing field)

-- the text of a field that may be absent
abbrev pub optional_in : List ℕ → Option Data → Result (Option (List ℕ)) AskFault
optional_in field (Some value) = text_in field (as_str value) >>= λ text. Ok (Some text)
optional_in field None = Ok None

-- the text that an ask must have in a field
unfoldable pub required_text : List ℕ → Data → Result (List ℕ) AskFault
required_text field ask = required_in field (get field ask)

-- the text that an ask may have in a field
unfoldable pub optional_text : List ℕ → Data → Result (Option (List ℕ)) AskFault
optional_text field ask = optional_in field (get field ask)

-- the texts that the items of a list are, or the fault of the first that is none
abbrev pub texts_of : List ℕ → Items → Result (List (List ℕ)) AskFault
texts_of field no_items = Ok []
texts_of field (item value items) =
    text_in field (as_str value) >>= λ text. texts_of field items >>= λ texts. Ok (text ∷ texts)

-- the items of a field's value, if it is a list
abbrev pub items_in : List ℕ → Option Items → Result Items AskFault
items_in field (Some items) = Ok items
items_in field None = Err (wrong_type field)

-- the items of a list that must be there
abbrev pub required_list : List ℕ → Option Data → Result Items AskFault
required_list field (Some value) = items_in field (as_array value)
required_list field None = Err (missing field)

-- the items of a list that may be absent, which is then empty
abbrev pub optional_list : List ℕ → Option Data → Result Items AskFault
optional_list field (Some value) = items_in field (as_array value)
optional_list field None = Ok no_items

-- the items of the list that an ask must have in a field
unfoldable pub required_items : List ℕ → Data → Result Items AskFault
required_items field ask = required_list field (get field ask)

-- the items of the list that an ask may have in a field
unfoldable pub optional_items : List ℕ → Data → Result Items AskFault
optional_items field ask = optional_list field (get field ask)
