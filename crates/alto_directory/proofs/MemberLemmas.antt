-- Members that are put list by list.
use Rattle.std.proofs.Common.{◌≡◌, ℕ, ◌+◌, ◌<◌, ap, sym, ◌∙◌}
use Rattle.std.proofs.lemmas.List.{append-nil, take_more}
use Rattle.std.proofs.lemmas.List.Sums.{fold-append}
use Rattle.std.proofs.lemmas.Grind.{flat_map-append}
use Rattle.std.specs.Prelude.{List, [], ◌∷◌, ◌++◌, get_or, length, map, take}
use Rattle.std.specs.List.{flat_map}
use Rattle.serde_json.specs.Data.{Data, Members}
use Rattle.json_tree.specs.Document.{members_of, with_member}
use Rattle.alto_maps.specs.MergeForm.{with_members}
use Rattle.alto_maps.specs.Shape.{Name}
use Rattle.json_tree.proofs.Objects.{members_of_more}
use Rattle.alto_directory.specs.Entries.{forms_of}
use Rattle.alto_directory.specs.CostTypes.{metric_types, metrics_types, network_types}
use Rattle.alto_directory.specs.Network.{NetworkData}

-- two lists of members, one after the other
pub with_joined : (before : Members) (first second : List (Name × Data))
    → with_members (with_members before first) second ≡ with_members before (first ++ second)
with_joined before first second =
    sym (fold-append (λ (so_far : Members) (m : Name × Data). with_member m.0 m.1 so_far) before first second)

-- the same from no member on
pub members_joined : (first second : List (Name × Data))
    → with_members (members_of first) second ≡ members_of (first ++ second)
members_joined first second = sym
    (fold-append (λ (so_far : Members) (m : Name × Data). with_member m.0 m.1 so_far) _ first second)

-- what one item more gives
one_more : {X : Type 0} (f : X → List (Name × Data)) (before : Members) (xs : List X) (i : ℕ) (d : X) → i < length xs
    → with_members before (flat_map f (take (i + 1) xs)) ≡ with_members (with_members before (flat_map f (take i xs)))
    (f (get_or xs i d))
one_more f before xs i d within =
    ap (λ some. with_members before (flat_map f some)) (take_more xs i d within)
    ∙ (ap (with_members before) (flat_map-append f (take i xs) (get_or xs i d ∷ []))
    ∙ (ap (λ last. with_members before (flat_map f (take i xs) ++ last)) (append-nil (f (get_or xs i d)))
    ∙ sym (with_joined before (flat_map f (take i xs)) (f (get_or xs i d)))))

pub metric_types_more : (before : Members) (metrics : List Name) (i : ℕ) (d : Name) → i < length metrics
    → with_members before (metrics_types (take (i + 1) metrics))
    ≡ with_members (with_members before (metrics_types (take i metrics))) (metric_types (get_or metrics i d))
metric_types_more = one_more metric_types

pub network_types_more : (nets : List NetworkData) (i : ℕ) (d : NetworkData) → i < length nets
    → members_of (flat_map network_types (take (i + 1) nets))
    ≡ with_members (members_of (flat_map network_types (take i nets))) (network_types (get_or nets i d))
network_types_more = one_more network_types _

pub forms_more : (ids : List Name) (i : ℕ) (d : Name) → i < length ids
    → members_of (map forms_of (take (i + 1) ids))
    ≡ with_member (forms_of (get_or ids i d)).0 (forms_of (get_or ids i d)).1
    (members_of (map forms_of (take i ids)))
forms_more = members_of_more forms_of
