-- The text of the groups of a filtered cost map (RFC 8259), with no space.
use Rattle.std.specs.Prelude.{◌≡◌, ℕ, List, [], ◌∷◌, ◌++◌, Bool, true, ◌||◌, Option, Some, None, is_some}
use Rattle.std.specs.Prelude.{if◌then◌else◌}
use Rattle.std.specs.List.{list_any}
use Rattle.json.specs.Print.{quoted}
use Rattle.json.specs.Token.{end_array}
use Rattle.json.specs.Tree.{items_tokens}
use Rattle.json.specs.Written.{Written}
use Rattle.serde_json.specs.Data.{Data, object}
use Rattle.serde_json.specs.View.{items_of}
use Rattle.serde_json.specs.Written.{comma_if, compact_text, items_outline}
use Rattle.json_tree.specs.Tree.{members_in_order}
use Rattle.alto_maps.specs.Shape.{Name}
use Rattle.cost_filters.specs.Columns.{columns_of, object_if_any, reached, valued}
use Rattle.cost_filters.specs.Filter.{costs_data}
use Rattle.cost_filters.specs.Pairs.{PairsData, pair_shown}

-- a member, where there is a value, behind a comma, where one stands before
abbrev pub member_if_any : Bool → Name → Option Data → List ℕ
member_if_any later name (Some value) = comma_if later ++ (quoted name ++ 58 ∷ compact_text value)
member_if_any later name None = []

-- the name of a member behind a comma, with its colon
abbrev pub member_start : Name → List ℕ
member_start name = comma_if true ++ (quoted name ++ 58 ∷ [])

-- such a member is put at the end of bytes, and whether one stands before the next is told
pub record PutsIfAny (name : Name) (value : Option Data) (later : Bool) (old : List ℕ) (after : Bool) (new : List ℕ)
    : Type 0 where
  pub text : new ≡ old ++ member_if_any later name value
  pub behind : after ≡ (later || is_some value)

-- all values of a list that was begun and isn't ended yet
pub record AddsItems (values : List Data) (old new : Written) : Type 0 where
  pub tokens : new.tokens ++ end_array ∷ [] ≡ old.tokens ++ items_tokens (items_outline (items_of values))
  pub before : new.before ≡ old.before

-- the destinations of pairs, each with its costs
abbrev pub shown_members : Bool → List Name → List (Option (List (Option ℕ))) → List (Name × Data)
shown_members multi (dst ∷ dsts) (Some costs ∷ found) = (dst, costs_data multi costs) ∷ shown_members multi dsts found
shown_members multi (dst ∷ dsts) (None ∷ found) = shown_members multi dsts found
shown_members multi _ _ = []

-- their object, where there is a pair
abbrev pub found_object : Bool → List Name → List (Option (List (Option ℕ))) → Option Data
found_object multi dsts found =
    if list_any (λ pair. is_some pair) found
    then Some (object (members_in_order (shown_members multi dsts found))) else None

-- the group of a source, where it has a pair with one of the names that are given or else of any
abbrev pub group_made : Bool → Option (List Name) → PairsData → Name → Option Data
group_made multi (Some names) pairs src = object_if_any (valued (pair_shown multi pairs src) names)
group_made multi None pairs src =
    object_if_any
    (valued (pair_shown multi pairs src)
    (reached pairs.rows pairs.net (columns_of pairs.rows pairs.net pairs.types) src))
