-- A draft of a batch: the rows that it is made for and the writes so far.
use Rattle.std.specs.Prelude.{◌≡◌, ℕ, Bool, true, false, ◌&&◌, ◌||◌, List, [], ◌∷◌, ◌++◌, None, Option, Some}
use Rattle.std.specs.List.{AllByRecursion, filter_map, list_any}
use Rattle.std.specs.BTreeMap.{is_at}
use Rattle.std.specs.BTreeSet.{BTreeSet, contains}
use Rattle.alto_addr.specs.declared.prefix.Prefix.{Prefix}
use Rattle.alto_rows.specs.declared.key.Key.{Key}
use Rattle.alto_rows.specs.declared.key.Key.TheVariants as key
use Rattle.alto_rows.specs.declared.resource.Resource.{Resource}
use Rattle.alto_rows.specs.declared.resource.Resource.TheVariants as resource
use Rattle.alto_rows.specs.declared.span.Span.TheVariants as span
use Rattle.alto_rows.specs.declared.value.Value.{Value}
use Rattle.alto_rows.specs.declared.write.Write.{Write}
use Rattle.alto_rows.specs.Order.{resource_cmp, same_name}
use Rattle.alto_rows.specs.Rows.{Rows, has_row, after}
use Rattle.alto_rows.specs.Span.{rows_in}
use Rattle.alto_rows.specs.Touches.{versions_map}
use Rattle.alto_rows.specs.Versions.{cost_declared, is_declared}
use Rattle.alto_edits.specs.Versions.{is_touched}

-- the rows before the batch, and the writes so far
pub record Drafted : Type 0 where
  pub rows : Rows
  pub writes : List Write

-- the rows after the writes
abbrev pub drafted_rows : Drafted → Rows
drafted_rows draft = after draft.rows draft.writes

-- a draft without writes
abbrev pub opened : Rows → Drafted
opened rows = record { rows = rows; writes = [] }

-- a draft with more writes
abbrev pub wrote : Drafted → List Write → Drafted
wrote draft more = record { rows = draft.rows; writes = draft.writes ++ more }

-- a prefix is in one PID of a network at most
abbrev pub HaveOneOwner : Rows → Type 0
HaveOneOwner rows = (net first second : List ℕ) (prefix : Prefix) → has_row rows (key.Prefix net first prefix) ≡ true
    → has_row rows (key.Prefix net second prefix) ≡ true → first ≡ second

-- where a key gives a prefix to a PID, no other PID has it
abbrev pub GivesAlone : Rows → Key → Type 0
GivesAlone rows at = (net pid other : List ℕ) (prefix : Prefix) → at ≡ key.Prefix net pid prefix
    → has_row rows (key.Prefix net other prefix) ≡ true → other ≡ pid

-- a key gives no prefix to a PID
abbrev pub gives_none : Key → Bool
gives_none (key.Prefix net pid prefix) = false
gives_none _ = true

-- no write is of a version
abbrev pub HaveNoVersions : List Write → Type 0
HaveNoVersions writes = AllByRecursion (λ write. versions_map write.key ≡ None) writes

-- an optional owner is this PID
abbrev pub is_owner : Option (List ℕ) → List ℕ → Bool
is_owner None pid = false
is_owner (Some owner) pid = same_name owner pid

-- this PID has a prefix of a network, and no other
abbrev pub HasOwner : Rows → List ℕ → Prefix → Option (List ℕ) → Type 0
HasOwner rows net prefix owner = (pid : List ℕ) → has_row rows (key.Prefix net pid prefix) ≡ is_owner owner pid

-- a write
abbrev pub writing : Key → Option Value → Write
writing at v = record { key = at; value = v }

-- the cost map that a key declares
abbrev pub cost_of : Key → Option Resource
cost_of (key.Metric net metric) = Some (resource.Cost net metric)
cost_of _ = None

-- the cost maps of a network that the rows declare
abbrev pub costs_of : Rows → List ℕ → List Resource
costs_of rows net = filter_map cost_declared (rows_in rows (span.Metrics net))

-- a resource with what may be touched with it: with a network map the property map and the cost maps of the network
abbrev pub dependents : Rows → Resource → List Resource
dependents rows (resource.Net net) = resource.Net net ∷ resource.Prop net ∷ costs_of rows net
dependents rows of = of ∷ []

-- a resource is among resources
abbrev pub is_among : Resource → List Resource → Bool
is_among of all = list_any (is_at (resource_cmp of)) all

-- the later set has what the earlier has and these resources
abbrev pub HasJoined : BTreeSet Resource → List Resource → BTreeSet Resource → Type 0
HasJoined earlier more later =
    (one : Resource) → contains resource_cmp later one ≡ (contains resource_cmp earlier one || is_among one more)

-- of the resources that are declared after the writes, the set has exactly those that these touch
abbrev pub HasTouched : Rows → List Write → BTreeSet Resource → Type 0
HasTouched rows writes touched =
    (of : Resource) → (contains resource_cmp touched of && is_declared (after rows writes) of)
    ≡ (is_touched writes of && is_declared (after rows writes) of)
