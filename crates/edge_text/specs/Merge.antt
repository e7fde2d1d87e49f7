-- What a writer adds to a JSON text for a merge patch of costs, pair by pair.
use Rattle.std.specs.Prelude.{ℕ, List, [], ◌∷◌, ◌++◌, Bool, true, false, Option, Some, None, decimal, unwrap_or}
use Rattle.std.specs.Prelude.{if◌then◌else◌}
use Rattle.json.specs.Token.{Token, key, null, number, begin_object, end_object}
use Rattle.json.specs.Tree.{json_tokens}
use Rattle.serde_json.specs.Data.{Data}
use Rattle.serde_json.specs.Written.{outline}
use Rattle.alto_maps.specs.Shape.{Name, same_name}
use Rattle.edge_text.specs.Pairs.{Pair}

-- a member, where it has a value
abbrev pub part_tokens : Name → Option Data → List Token
part_tokens name None = []
part_tokens name (Some d) = key name ∷ json_tokens (outline d)

-- the group that is begun, and whether it stands
abbrev pub Begun : Type 0
Begun = Option (Name × Bool)

-- whether the group of a source stands, where it is begun
abbrev pub known_of : Begun → Name → Option Bool
known_of None src = None
known_of (Some begun) src = if same_name begun.0 src then Some begun.1 else None

-- whether it stands, begun or not
abbrev pub standing : (stands : Name → Bool) → Begun → Name → Bool
standing stands begun src = unwrap_or (known_of begun src) (stands src)

-- the beginning of a group: an object, and null where it doesn't stand
abbrev pub begin_tokens : Name → Bool → List Token
begin_tokens src true = key src ∷ begin_object ∷ []
begin_tokens src false = key src ∷ null ∷ []

-- its end
abbrev pub end_if : Bool → List Token
end_if true = end_object ∷ []
end_if false = []

abbrev pub end_tokens : Begun → List Token
end_tokens None = []
end_tokens (Some begun) = end_if begun.1

-- what stands before a pair: nothing in the group of its source, else the end of another and the beginning of its own
abbrev pub turned : Option Bool → Begun → Name → Bool → List Token
turned (Some known) begun src s = []
turned None begun src s = end_tokens begun ++ begin_tokens src s

abbrev pub turn_tokens : (stands : Name → Bool) → Begun → Name → List Token
turn_tokens stands begun src = turned (known_of begun src) begun src (stands src)

-- a cost, and null where there is none
abbrev pub cost_token : Option ℕ → Token
cost_token None = null
cost_token (Some n) = number (decimal n)

-- a member, in a group that stands
abbrev pub change_tokens : Bool → Name → Option ℕ → List Token
change_tokens true dst cost = key dst ∷ cost_token cost ∷ []
change_tokens false dst cost = []

-- a pair, and the group that is begun behind it
abbrev pub pair_tokens : (stands : Name → Bool) → (cost : Name → Name → Option ℕ) → Begun → Option Pair → List Token
pair_tokens stands cost begun None = []
pair_tokens stands cost begun (Some pair) =
    turn_tokens stands begun pair.0 ++ change_tokens (standing stands begun pair.0) pair.1 (cost pair.0 pair.1)

abbrev pub begun_behind : (stands : Name → Bool) → Begun → Option Pair → Begun
begun_behind stands begun None = begun
begun_behind stands begun (Some pair) = Some (pair.0, standing stands begun pair.0)

-- pairs one behind another, and the end of the last group
abbrev pub tokens_left : (stands : Name → Bool) → (cost : Name → Name → Option ℕ) → Begun → List Pair → List Token
tokens_left stands cost begun [] = end_tokens begun
tokens_left stands cost begun (pair ∷ pairs) =
    pair_tokens stands cost begun (Some pair)
    ++ tokens_left stands cost (begun_behind stands begun (Some pair)) pairs
