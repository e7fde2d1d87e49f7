-- What a writer adds to a JSON text for the operations on costs, pair by pair.
use Rattle.std.specs.Prelude.{ℕ, List, [], ◌∷◌, ◌++◌, Bool, ◌&&◌, Option, Some, None, codes, map, unwrap_or}
use Rattle.std.specs.Prelude.{if◌then◌else◌}
use Rattle.std.specs.List.{flat_map}
use Rattle.json.specs.Token.{Token, begin_object, end_object, key, string}
use Rattle.json.specs.Tree.{json_tokens}
use Rattle.serde_json.specs.Data.{number, unsigned}
use Rattle.serde_json.specs.Written.{outline}
use Rattle.json_patch.specs.Operations.{Operation, add, remove}
use Rattle.json_patch.specs.OperationList.{operation_data}
use Rattle.alto_maps.specs.OperationForm.{by_standing, on_member, under}
use Rattle.alto_maps.specs.Shape.{Name, Face, group_object, member_in, same_name, stands}
use Rattle.edge_text.specs.Pairs.{Pair}

-- operations as items of a list
abbrev pub tokens_of : List Operation → List Token
tokens_of operations = flat_map (λ operation. json_tokens (outline (operation_data operation))) operations

-- an operation that adds a value, up to the value
abbrev pub addition_tokens : List ℕ → List Token
addition_tokens path =
    begin_object ∷ key (codes "op") ∷ string (codes "add") ∷ key (codes "path") ∷ string path ∷ key (codes "value") ∷ []

-- an operation that removes one
abbrev pub removal_tokens : List ℕ → List Token
removal_tokens path =
    begin_object ∷ key (codes "op") ∷ string (codes "remove") ∷ key (codes "path") ∷ string path ∷ end_object ∷ []

-- a group that was turned to: whether it stood before, and whether it stands after
abbrev pub Turned : Type 0
Turned = Option (Name × (Bool × Bool))

-- this of the group of a source, where it was turned to
abbrev pub known_of : Turned → Name → Option (Bool × Bool)
known_of None src = None
known_of (Some turned) src = if same_name turned.0 src then Some turned.1 else None

abbrev pub both_standing : Face → Face → Name → Bool × Bool
both_standing before after src = (stands before src, stands after src)

-- this, whether it was turned to or not
abbrev pub standing : Face → Face → Turned → Name → Bool × Bool
standing before after turned src = unwrap_or (known_of turned src) (both_standing before after src)

-- the operation on a group as a whole, if there is one
abbrev pub on_whole : Face → Name → Bool × Bool → List Operation
on_whole after src both = by_standing src (group_object after src) [] both.0 both.1

-- that where a pair of this source comes behind another group
abbrev pub turned_to : Option (Bool × Bool) → List Operation → List Operation
turned_to (Some known) whole = []
turned_to None whole = whole

abbrev pub on_turn : Face → Face → Turned → Name → List Operation
on_turn before after turned src =
    turned_to (known_of turned src) (on_whole after src (both_standing before after src))

abbrev pub are_both : Bool × Bool → Bool
are_both both = both.0 && both.1

-- the operation on a cost, if there is one: it is added where it is there, and removed where it was there alone
abbrev pub on_cost : Name → Option ℕ → Option ℕ → List Operation
on_cost dst old (Some n) = record { path = dst ∷ []; action = add (number (unsigned n)) } ∷ []
on_cost dst (Some old) None = record { path = dst ∷ []; action = remove } ∷ []
on_cost dst None None = []

-- the cost before, where there is none after
abbrev pub cost_gone : Option ℕ → Option ℕ → Option ℕ
cost_gone old (Some n) = None
cost_gone old None = old

-- the operation on a member of a group that stood and stands, if there is one
abbrev pub on_change : Face → Face → Bool × Bool → Name → Name → List Operation
on_change before after both src dst =
    if are_both both
    then map (under src) (on_member dst (member_in before src dst) (member_in after src dst))
    else []

-- what a pair brings, and what was turned to behind it
abbrev pub on_pair : Face → Face → Turned → Option Pair → List Operation
on_pair before after turned None = []
on_pair before after turned (Some pair) =
    on_turn before after turned pair.0
    ++ on_change before after (standing before after turned pair.0) pair.0 pair.1

abbrev pub turned_behind : Face → Face → Turned → Option Pair → Turned
turned_behind before after turned None = turned
turned_behind before after turned (Some pair) = Some (pair.0, standing before after turned pair.0)

-- what pairs bring one behind another
abbrev pub on_pairs : Face → Face → Turned → List Pair → List Operation
on_pairs before after turned [] = []
on_pairs before after turned (pair ∷ pairs) =
    on_pair before after turned (Some pair)
    ++ on_pairs before after (turned_behind before after turned (Some pair)) pairs
