-- The resources that a batch touches, and how its version rows are told from the others.
use Rattle.std.specs.Prelude.{◌≡◌, ℕ, ◌-◌, Bool, not, ◌&&◌, ◌||◌, ◌==◌, nat_le, List, [], ◌∷◌, length, take, drop}
use Rattle.std.specs.Cmp.Lexicographic.{pointwise}
use Rattle.std.specs.BTreeMap.{is_at}
use Rattle.std.specs.BTreeSet.{BTreeSet, contains}
use Rattle.std.specs.List.{filter_map, list_all, list_any}
use Rattle.std.specs.Ordering.{is_eq}
use Rattle.alto_rows.specs.declared.resource.Resource.{Resource}
use Rattle.alto_rows.specs.declared.resource.Resource.TheVariants as resource
use Rattle.alto_rows.specs.declared.span.Span.TheVariants as span
use Rattle.alto_rows.specs.declared.write.Write.{Write}
use Rattle.alto_rows.specs.Order.{key_cmp, resource_cmp}
use Rattle.alto_rows.specs.Rows.{Rows, after}
use Rattle.alto_rows.specs.Span.{rows_in}
use Rattle.alto_rows.specs.Touches.{is_resource, part_of}
use Rattle.alto_rows.specs.Versions.{cost_declared, is_declared, number_in}
use Rattle.alto_edits.specs.Versions.{is_touched}
use Rattle.batch_check.specs.Rules.{is_version}

-- some write is part of a resource
abbrev pub is_part : List Write → Resource → Bool
is_part writes of = list_any (λ write. is_resource (part_of write.key) of) writes

-- the cost maps of a network that the rows declare
abbrev pub costs_of : Rows → List ℕ → List Resource
costs_of rows net = filter_map cost_declared (rows_in rows (span.Metrics net))

-- a resource with what may be touched with it: with a network map the property map and the cost maps of the network
abbrev pub dependents : Rows → Resource → List Resource
dependents rows (resource.Net net) = resource.Net net ∷ resource.Prop net ∷ costs_of rows net
dependents rows of = of ∷ []

-- a resource is among resources
abbrev pub is_among : Resource → List Resource → Bool
is_among of all = list_any (is_at (resource_cmp of)) all

-- the later set has what the earlier has and these resources
abbrev pub HasJoined : BTreeSet Resource → List Resource → BTreeSet Resource → Type 0
HasJoined earlier more later =
    (one : Resource) → contains resource_cmp later one ≡ (contains resource_cmp earlier one || is_among one more)

-- of the resources that are declared after the writes, the set has exactly those that these touch
abbrev pub HasTouched : Rows → List Write → BTreeSet Resource → Type 0
HasTouched rows writes touched =
    (of : Resource) → (contains resource_cmp touched of && is_declared (after rows writes) of)
    ≡ (is_touched writes of && is_declared (after rows writes) of)

-- no write is of a version
abbrev pub are_edits : List Write → Bool
are_edits writes = list_all (λ write. not (is_version write.key)) writes

-- a write is of the key of a version row and gives its number
abbrev pub gives_version : Write → Write → Bool
gives_version write version =
    is_eq (key_cmp write.key version.key) && (number_in write.value == number_in version.value)

-- version rows are the last writes of a batch, and no other write is of a version
abbrev pub ends_in : List Write → List Write → Bool
ends_in writes versions =
    nat_le (length versions) (length writes)
    && (are_edits (take (length writes - length versions) writes)
    && pointwise gives_version (drop (length writes - length versions) writes) versions)
