-- The groups of a network map, PID by PID.
use Rattle.std.proofs.Common.{◌≡◌, ℕ, refl, ◌+◌, ◌<◌, length, get_or, drop, drop-cons, add-one, fold, map}
use Rattle.std.specs.Prelude.{List, [], ◌∷◌, Some, None}
use Rattle.std.specs.List.{filter_map}
use Rattle.alto_rows.specs.declared.key.Key.{Key}
use Rattle.alto_rows.specs.declared.value.Value.{Value}
use Rattle.alto_rows.specs.Rows.{Rows}
use Rattle.json_tree.specs.Document.{with_member, members_of}
use Rattle.serde_json.specs.Data.{Data, Members, no_members}
use Rattle.alto_maps.specs.Shape.{Name}
use Rattle.net_docs.specs.Prefixes.{pid_in}

-- members with a group for each of these PIDs
abbrev pub with_groups : (Name → Data) → Members → List Name → Members
with_groups group members [] = members
with_groups group members (pid ∷ pids) = with_groups group (with_member pid (group pid) members) pids

-- the groups of PIDs are the members of an object without members, with a group for each
pub groups_of_all : (group : Name → Data) (pids : List Name)
    → with_groups group no_members pids ≡ members_of (map (λ pid. (pid, group pid)) pids)
groups_of_all group pids = by no_members pids
  where
    by : (before : Members) → (more : List Name)
        → with_groups group before more ≡ fold {A = Name × Data} (λ others m. with_member m.0 m.1 others)
        before (map (λ pid. (pid, group pid)) more)
    by before [] = refl
    by before (pid ∷ more) = by (with_member pid (group pid) before) more

-- the step of a walk: a row that declares a PID has its group
pub with_groups_first : (group : Name → Data) (groups : Members) (pid : Name) (rows : Rows) (i : ℕ) (d : Key × Value)
    → i < length rows → pid_in (get_or rows i d) ≡ Some pid
    → with_groups group groups (filter_map pid_in (drop i rows))
    ≡ with_groups group (with_member pid (group pid) groups) (filter_map pid_in (drop (i + 1) rows))
with_groups_first group groups pid rows i d within is = rw (add-one, drop-cons rows i d, is) refl

-- and a row that declares none has none
pub with_groups_other : (group : Name → Data) (groups : Members) (rows : Rows) (i : ℕ) (d : Key × Value)
    → i < length rows → pid_in (get_or rows i d) ≡ None
    → with_groups group groups (filter_map pid_in (drop i rows))
    ≡ with_groups group groups (filter_map pid_in (drop (i + 1) rows))
with_groups_other group groups rows i d within is = rw (add-one, drop-cons rows i d, is) refl
