-- What a writer adds to a JSON text for the groups of a cost map, cost by cost.
use Rattle.std.specs.Prelude.{◌≡◌, List, [], ◌∷◌, ◌++◌, Bool, false, Option, Some, None, map, decimal, if◌then◌else◌}
use Rattle.json.specs.Token.{Token, key, number, begin_object, end_object}
use Rattle.json.specs.Written.{Written}
use Rattle.serde_json.specs.Data.{Members}
use Rattle.json_tree.specs.Document.{members_of}
use Rattle.alto_rows.specs.Order.{same_name}
use Rattle.alto_rows.specs.Rows.{Rows}
use Rattle.alto_maps.specs.Shape.{Name, group_object}
use Rattle.cost_docs.specs.declared.costs.Cost.{Cost}
use Rattle.alto_rows.specs.Costs.{cost_of}
use Rattle.cost_docs.specs.CostMap.{cost_face, destinations_of, number_data, sources_of}

-- the groups of a cost map, each with its name
abbrev pub groups_of : Rows → Name → Name → Members
groups_of rows net metric =
    members_of (map (λ src. (src, group_object (cost_face net metric rows) src)) (sources_of rows net metric))

-- the group that is begun and not ended yet is that of this source
abbrev pub is_current : Option Name → Name → Bool
is_current None src = false
is_current (Some current) src = same_name current src

-- the end of the group that is begun
abbrev pub end_tokens : Option Name → List Token
end_tokens None = []
end_tokens (Some current) = end_object ∷ []

-- what stands before a cost from this source: the end of another group and the beginning of its own
abbrev pub turn_tokens : Option Name → Name → List Token
turn_tokens current src =
    if is_current current src then [] else end_tokens current ++ key src ∷ begin_object ∷ []

-- a cost as a member of its group
abbrev pub cost_tokens : Option Name → Option Cost → List Token
cost_tokens current None = []
cost_tokens current (Some cost) =
    turn_tokens current cost.source ++ key cost.destination ∷ number (decimal cost.amount) ∷ []

-- costs that are left, each in the group of its source, and the end of the last group
abbrev pub tokens_left : Option Name → List Cost → List Token
tokens_left current [] = end_tokens current
tokens_left current (c ∷ costs) = cost_tokens current (Some c) ++ tokens_left (Some c.source) costs

-- the source whose group is begun behind it
abbrev pub current_behind : Option Name → Option Cost → Option Name
current_behind current None = current
current_behind current (Some cost) = Some cost.source

-- the name of the group that begins with a cost from this source
abbrev pub name_turned : Option Name → Name → List Name
name_turned current src = if is_current current src then [] else src ∷ []

-- the name of the group that begins with a cost
abbrev pub name_begun : Option Name → Option Cost → List Name
name_begun current None = []
name_begun current (Some cost) = name_turned current cost.source

-- the names of the groups that the costs that are left begin
abbrev pub names_left : Option Name → List Cost → List Name
names_left current [] = []
names_left current (c ∷ costs) = name_begun current (Some c) ++ names_left (Some c.source) costs

-- a cost as a member of its group
abbrev pub member_tokens : Option Cost → List Token
member_tokens None = []
member_tokens (Some cost) = key cost.destination ∷ number (decimal cost.amount) ∷ []

-- the members of the group of a source
abbrev pub members_from : Rows → Name → Name → Name → Members
members_from rows net metric src =
    members_of (map (λ dst. (dst, number_data (cost_of rows net metric src dst))) (destinations_of rows net metric src))

-- tokens are added
pub record AddsTokens (tokens : List Token) (old new : Written) : Type 0 where
  pub added : new.tokens ≡ old.tokens ++ tokens
  pub before : new.before ≡ old.before
