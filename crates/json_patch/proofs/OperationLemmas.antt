-- Operations applied: one member, one operation, and one after another.
use Rattle.std.proofs.Common.{◌≡◌, ℕ, ◌+◌, ◌<◌, ◌≤◌, List, [], ◌∷◌, length, get_or, drop, Option, Some, None}
use Rattle.std.proofs.Common.{option_map, option_and_then, Result, Ok, Err, refl, sym, ap, ◌∙◌}
use Rattle.std.proofs.lemmas.List.{drop_more, drop_all}
use Rattle.std.specs.Prelude.{MatchOption}
use Rattle.serde_json.specs.Data.{Data, object, Members}
use Rattle.serde_json.specs.Find.{get_member, as_object}
use Rattle.json_tree.specs.Document.{with_member}
use Rattle.json_tree.specs.Order.{AreInOrder}
use Rattle.json_tree.specs.Tree.{data_of}
use Rattle.json_tree.specs.declared.tree.Tree.{Tree}
use Rattle.json_patch.specs.Merge.{without}
use Rattle.json_patch.specs.Operations.{Action, Refusal, refusal_of, with_value, in_member, changed_in, changed_at}
use Rattle.json_patch.specs.Operations.{operated, fault_at, at_place, and_then, applied_from, operation_of}
use Rattle.json_patch.specs.Operations.{operations_of}
use Rattle.json_patch.specs.declared.operations.op.Op.{Op}
use Rattle.json_patch.specs.declared.operations.patch_fault.PatchFault.{PatchFault}
use Rattle.json_patch.proofs.MemberLemmas.{with_member-without}

-- ---- one member

-- what is put where the member was taken out is put in its place
put_back : (name : List ℕ) (new : Option Tree) (ms taken after : Members) → AreInOrder ms → taken ≡ without name ms
    → MatchOption new (after ≡ taken) (λ tree. after ≡ with_member name (data_of tree) taken)
    → after ≡ with_value name (option_map data_of new) ms
put_back name None ms taken after h is put = put ∙ is
put_back name (Some tree) ms taken after h is put =
    put ∙ (ap (with_member name (data_of tree)) is ∙ with_member-without name (data_of tree) ms h)

-- an object whose member was taken out, changed and put back
pub member_changed : (name : List ℕ) (path : List (List ℕ)) (action : Action) (old : Option Data) (new : Option Tree)
    (ms taken after : Members) → AreInOrder ms
    → old ≡ get_member name ms → taken ≡ without name ms → changed_at path action old ≡ Ok (option_map data_of new)
    → MatchOption new (after ≡ taken) (λ tree. after ≡ with_member name (data_of tree) taken)
    → changed_in name (changed_at path action) (refusal_of action) (Some ms) ≡ Ok (Some (object after))
member_changed name path action old new ms taken after h found is done put =
    ap (in_member name ms) (ap (changed_at path action) (sym found) ∙ done)
    ∙ ap (λ x. Ok (Some (object x))) (sym (put_back name new ms taken after h is put))

-- and one whose member can't be changed
pub member_refused : (k : ℕ) (name : List ℕ) (path : List (List ℕ)) (action : Action) (old : Option Data) (ms : Members)
    (fault : PatchFault)
    → old ≡ get_member name ms → at_place k (changed_at path action old) ≡ Err fault
    → at_place k (changed_in name (changed_at path action) (refusal_of action) (Some ms)) ≡ Err fault
member_refused k name path action old ms fault found refused =
    by (changed_at path action (get_member name ms))
    (ap (λ x. at_place k (changed_at path action x)) (sym found) ∙ refused)
  where
    by : (r : Result (Option Data) Refusal) → at_place k r ≡ Err fault → at_place k (in_member name ms r) ≡ Err fault
    by (Ok new) same = cc
    by (Err refusal) same = same

-- no name is left
pub no_name : (path : List (List ℕ)) → length path ≡ 0 → path ≡ []
no_name [] none = refl
no_name (name ∷ path) none = cc

-- ---- one after another

pub one_applied : (k : ℕ) (ops : List Op) (op : Op) (d next : Data) → k < length ops → op ≡ get_or ops k op
    → operated (operation_of op) d ≡ Ok next
    → applied_from k (operations_of (drop k ops)) d ≡ applied_from (k + 1) (operations_of (drop (k + 1) ops)) next
one_applied k ops op d next within is done =
    ap (λ os. applied_from k (operations_of os) d) (drop_more ops k op within ∙ ap (λ o. o ∷ drop (k + 1) ops) (sym is))
    ∙ ap (λ r. and_then (applied_from (k + 1) (operations_of (drop (k + 1) ops))) (at_place k r)) done

pub one_refused : (k : ℕ) (ops : List Op) (op : Op) (d : Data) (fault : PatchFault) → k < length ops
    → op ≡ get_or ops k op → at_place k (operated (operation_of op) d) ≡ Err fault
    → applied_from k (operations_of (drop k ops)) d ≡ Err fault
one_refused k ops op d fault within is refused =
    ap (λ os. applied_from k (operations_of os) d) (drop_more ops k op within ∙ ap (λ o. o ∷ drop (k + 1) ops) (sym is))
    ∙ ap (and_then (applied_from (k + 1) (operations_of (drop (k + 1) ops)))) refused

pub all_applied : (k : ℕ) (ops : List Op) (d : Data) → length ops ≤ k
    → applied_from k (operations_of (drop k ops)) d ≡ Ok d
all_applied k ops d past = ap (λ os. applied_from k (operations_of os) d) (drop_all k ops past)
