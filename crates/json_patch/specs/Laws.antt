-- What holds of every merge (RFC 7396), and of operations as documents (RFC 6902): the statements of the laws.
use Rattle.std.specs.Prelude.{◌≡◌, ◌⊎◌, ℕ, List, if◌then◌else◌, Option, Some, None, unwrap_or}
use Rattle.serde_json.specs.Data.{Data, null, object, Members, no_members, member}
use Rattle.serde_json.specs.Find.{get, get_member}
use Rattle.json_tree.specs.Order.{AreInOrder, StandsInOrder}
use Rattle.json_patch.specs.Merge.{members_in, is_null, merge_patched}
use Rattle.json_patch.specs.OperationList.{operations_data, SaysAll, IsFaultOf}
use Rattle.json_patch.specs.Operations.{Operation}
use Rattle.json_patch.specs.declared.operations.ops_fault.OpsFault.TheVariants.{BadOp}

-- a null for an absent member changes nothing
abbrev pub NullForAbsentChangesNothing : Type 0
NullForAbsentChangesNothing = (k : List ℕ) (ms : Members) → get_member k ms ≡ None
    → merge_patched (object ms) (object (member k null no_members)) ≡ object ms

-- merging an empty object into an object changes nothing
abbrev pub EmptyObjectChangesNothing : Type 0
EmptyObjectChangesNothing = (ms : Members) → merge_patched (object ms) (object no_members) ≡ object ms

-- a patch that is no object takes the place of the target
abbrev pub OtherValueReplaces : Type 0
OtherValueReplaces = (target patch : Data) → ((ps : Members) → patch ≡ object ps → ⊥)
    → merge_patched target patch ≡ patch

-- where the members of the target and of the patch are distinct and stand in byte order, so do those of the result
abbrev pub OrderStays : Type 0
OrderStays = (target patch : Data) → StandsInOrder target → StandsInOrder patch
    → StandsInOrder (merge_patched target patch)

-- what a member of the patch, if there is one, makes of the value at its name, if there is one
abbrev pub value_patched : (old change : Option Data) → Option Data
value_patched old None = old
value_patched old (Some v) = if is_null v then None else Some (merge_patched (unwrap_or old null) v)

-- the value at a name after a merge is by the old value and the patch's member of that name alone
abbrev pub MergeIsByMember : Type 0
MergeIsByMember = (target : Data) (ps : Members) (k : List ℕ) → AreInOrder ps
    → get k (merge_patched target (object ps)) ≡ value_patched (get k target) (get_member k ps)

-- members in order that have the same value at each name are the same
abbrev pub SameValuesSameMembers : Type 0
SameValuesSameMembers = (ms ns : Members) → AreInOrder ms → AreInOrder ns
    → ((k : List ℕ) → get_member k ms ≡ get_member k ns) → ms ≡ ns

-- patches that name no member in common may be merged in either order
abbrev pub DisjointPatchesCommute : Type 0
DisjointPatchesCommute = (target : Data) (ps qs : Members)
    → AreInOrder (members_in target) → AreInOrder ps → AreInOrder qs
    → ((k : List ℕ) → (get_member k ps ≡ None) ⊎ (get_member k qs ≡ None))
    → merge_patched (merge_patched target (object ps)) (object qs)
    ≡ merge_patched (merge_patched target (object qs)) (object ps)

-- the document of operations says these and no others, and is at no fault
pub record ReadsBack (operations : List Operation) : Type 0 where
  pub says : SaysAll (operations_data operations) operations
  pub only : (others : List Operation) → SaysAll (operations_data operations) others → others ≡ operations
  pub no_fault : (k : ℕ) → IsFaultOf (operations_data operations) (BadOp k) → ⊥

-- what is written of operations reads back as these
abbrev pub OperationsReadBack : Type 0
OperationsReadBack = (operations : List Operation) → ReadsBack operations
