-- Operations as a JSON document (RFC 6902, sections 3 and 4).
use Rattle.std.specs.Prelude.{◌≡◌, ⊤, ℕ, zero, suc, List, [], ◌∷◌, Option, Some, None, option_and_then, map, codes}
use Rattle.serde_json.specs.Data.{Data, null, boolean, number, string, array, object, Items, no_items, item}
use Rattle.serde_json.specs.Find.{get, as_array}
use Rattle.json_tree.specs.Document.{array_of, object_of}
use Rattle.json_tree.specs.Pointer.{pointer_text}
use Rattle.json_patch.specs.Operations.{Action, add, remove, replace, Operation}
use Rattle.json_patch.specs.declared.operations.ops_fault.OpsFault.{OpsFault}
use Rattle.json_patch.specs.declared.operations.ops_fault.OpsFault.TheVariants.{BadOp, Memory}

-- the value of `op`
abbrev pub action_name : Action → List ℕ
action_name (add d) = codes "add"
action_name remove = codes "remove"
action_name (replace d) = codes "replace"

-- the value that an action has
abbrev pub action_value : Action → Option Data
action_value (add d) = Some d
action_value remove = None
action_value (replace d) = Some d

-- the member `value`
abbrev pub value_member : Option Data → List (List ℕ × Data)
value_member None = []
value_member (Some d) = (codes "value", d) ∷ []

-- the object of an operation
abbrev pub operation_data : Operation → Data
operation_data operation =
    object_of
    ((codes "op", string (action_name operation.action)) ∷ (codes "path", string (pointer_text operation.path))
    ∷ value_member (action_value operation.action))

-- the list of these objects
abbrev pub operations_data : List Operation → Data
operations_data operations = array_of (map operation_data operations)

-- ---- what such documents say

-- this is the value that the action needs
abbrev pub HasValue : Action → (found : Option Data) → Type 0
HasValue (add d) found = found ≡ Some d
HasValue remove found = ⊤
HasValue (replace d) found = found ≡ Some d

-- an object says this operation; members of other names don't count
pub record Says (d : Data) (operation : Operation) : Type 0 where
  pub op : get (codes "op") d ≡ Some (string (action_name operation.action))
  pub path : get (codes "path") d ≡ Some (string (pointer_text operation.path))
  pub value : HasValue operation.action (get (codes "value") d)

-- the items say these operations, one each
abbrev pub ItemsSay : Items → List Operation → Type 0
ItemsSay no_items [] = ⊤
ItemsSay no_items (operation ∷ operations) = ⊥
ItemsSay (item d ds) [] = ⊥
ItemsSay (item d ds) (operation ∷ operations) = Says d operation × ItemsSay ds operations

-- the first item that says no operation is the k-th
abbrev pub IsFirstBad : Items → (k : ℕ) → Type 0
IsFirstBad no_items k = ⊥
IsFirstBad (item d ds) zero = (operation : Operation) → Says d operation → ⊥
IsFirstBad (item d ds) (suc k) = ((operation : Operation) × Says d operation) × IsFirstBad ds k

-- a list says these operations
abbrev pub ListSays : Option Items → List Operation → Type 0
ListSays None operations = ⊥
ListSays (Some ds) operations = ItemsSay ds operations

abbrev pub SaysAll : Data → List Operation → Type 0
SaysAll d operations = ListSays (as_array d) operations

-- the place of the first bad item, and 0 where there is no list
abbrev pub IsBadAt : Option Items → (k : ℕ) → Type 0
IsBadAt None k = k ≡ 0
IsBadAt (Some ds) k = IsFirstBad ds k

-- the fault is that of the document; memory may run out at any
abbrev pub IsFaultOf : Data → OpsFault → Type 0
IsFaultOf d (BadOp k) = IsBadAt (as_array d) k
IsFaultOf d Memory = ⊤
