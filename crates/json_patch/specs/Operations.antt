-- JSON Patch (RFC 6902): add, remove and replace, at paths that lead through objects alone.
use Rattle.std.specs.Prelude.{ℕ, ◌+◌, List, [], ◌∷◌, Option, Some, None, option_and_then, Result, Ok, Err, map}
use Rattle.serde_json.specs.Data.{Data, object, Members}
use Rattle.serde_json.specs.Find.{get_member, as_object}
use Rattle.json_tree.specs.Document.{with_member}
use Rattle.json_tree.specs.Tree.{data_of}
use Rattle.json_patch.specs.Merge.{without}
use Rattle.json_patch.specs.declared.operations.op.Op.{Op}
use Rattle.json_patch.specs.declared.operations.op.Op.TheVariants as op
use Rattle.json_patch.specs.declared.operations.patch_fault.PatchFault.{PatchFault}
use Rattle.json_patch.specs.declared.operations.patch_fault.PatchFault.TheVariants.{NoParent, NoTarget}

-- what is done at a path (section 4)
pub data Action : Type 0 where
  add : Data → Action
  remove : Action
  replace : Data → Action

-- a path is the names of the members that lead to its target
pub record Operation : Type 0 where
  pub path : List (List ℕ)
  pub action : Action

-- why an operation can't be done: no object is there to add a member to, or nothing is there to remove or replace
pub data Refusal : Type 0 where
  no_parent : Refusal
  no_target : Refusal

-- what refuses an action whose path doesn't lead through objects
abbrev pub refusal_of : Action → Refusal
refusal_of (add d) = no_parent
refusal_of remove = no_target
refusal_of (replace d) = no_target

-- what an action makes of what is at its path, if anything is
abbrev pub acted : Action → (old : Option Data) → Result (Option Data) Refusal
acted (add d) old = Ok (Some d)
acted remove None = Err no_target
acted remove (Some old) = Ok None
acted (replace d) None = Err no_target
acted (replace d) (Some old) = Ok (Some d)

-- members with this value at a name, if there is one, and else without the name
abbrev pub with_value : List ℕ → Option Data → Members → Members
with_value name None ms = without name ms
with_value name (Some d) ms = with_member name d ms

-- the object whose member comes to this
abbrev pub in_member : List ℕ → Members → Result (Option Data) Refusal → Result (Option Data) Refusal
in_member name ms (Ok new) = Ok (Some (object (with_value name new ms)))
in_member name ms (Err refusal) = Err refusal

-- a change of a member of an object, if there is an object
abbrev pub changed_in : List ℕ → (Option Data → Result (Option Data) Refusal) → Refusal → Option Members
    → Result (Option Data) Refusal
changed_in name change refusal None = Err refusal
changed_in name change refusal (Some ms) = in_member name ms (change (get_member name ms))

-- what an action at a path makes of what is here, if anything is
abbrev pub changed_at : (path : List (List ℕ)) → Action → (old : Option Data) → Result (Option Data) Refusal
changed_at [] action old = acted action old
changed_at (name ∷ path) action old =
    changed_in name (changed_at path action) (refusal_of action) (option_and_then as_object old)

-- a whole document can't be removed
abbrev pub whole : Result (Option Data) Refusal → Result Data Refusal
whole (Ok None) = Err no_target
whole (Ok (Some d)) = Ok d
whole (Err refusal) = Err refusal

-- what an operation makes of a document
abbrev pub operated : Operation → Data → Result Data Refusal
operated operation d = whole (changed_at operation.path operation.action (Some d))

-- the fault of operations whose k-th is refused
abbrev pub fault_at : (k : ℕ) → Refusal → PatchFault
fault_at k no_parent = NoParent k
fault_at k no_target = NoTarget k

abbrev pub at_place : {A : Type 0} → (k : ℕ) → Result A Refusal → Result A PatchFault
at_place k (Ok x) = Ok x
at_place k (Err refusal) = Err (fault_at k refusal)

abbrev pub and_then : {A B E : Type 0} → (A → Result B E) → Result A E → Result B E
and_then next (Ok x) = next x
and_then next (Err fault) = Err fault

-- operations of which the first is the k-th, one after another (section 5)
abbrev pub applied_from : (k : ℕ) → List Operation → Data → Result Data PatchFault
applied_from k [] d = Ok d
applied_from k (operation ∷ operations) d =
    and_then (applied_from (k + 1) operations) (at_place k (operated operation d))

-- what operations make of a document, up to the first that is refused
unfoldable pub operations_applied : List Operation → Data → Result Data PatchFault
operations_applied operations d = applied_from 0 operations d

-- ---- operations as they are held

unfoldable pub operation_of : Op → Operation
operation_of (op.Add path value) = record { path = path; action = add (data_of value) }
operation_of (op.Remove path) = record { path = path; action = remove }
operation_of (op.Replace path value) = record { path = path; action = replace (data_of value) }

abbrev pub operations_of : List Op → List Operation
operations_of ops = map operation_of ops
