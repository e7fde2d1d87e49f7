-- What items say, one after another, and that what operations are written as says them alone.
use Rattle.std.proofs.Common.{◌≡◌, ℕ, ◌+◌, ◌<◌, zero, suc, List, [], ◌∷◌, ◌++◌, length, get_or, take, drop, map, Option}
use Rattle.std.proofs.Common.{Some, codes, refl, sym, ap, ap₂, ◌∙◌, subst, arith}
use Rattle.std.proofs.lemmas.List.{map-append, take_more, drop_more, take-append-drop, length-take-le}
use Rattle.serde_json.specs.Data.{Data, string, Items, no_items, item}
use Rattle.serde_json.specs.Find.{get}
use Rattle.serde_json.specs.View.{items_of}
use Rattle.json_tree.specs.Document.{with_member}
use Rattle.json_tree.specs.Pointer.{pointer_text}
use Rattle.json_tree.specs.Tree.{data_of, items_data}
use Rattle.json_tree.specs.declared.tree.Tree.{Tree}
use Rattle.json_tree.proofs.PointerLemmas.{pointer_text-same}
use Rattle.json_patch.specs.Laws.{ReadsBack}
use Rattle.json_patch.specs.OperationList.{action_name, operation_data, HasValue, Says, ItemsSay, IsFirstBad}
use Rattle.json_patch.specs.Operations.{Action, add, remove, replace, Operation, operation_of, operations_of}
use Rattle.json_patch.specs.declared.operations.op.Op.{Op}

-- ---- one item after another

items_say_push : (trees : List Tree) (operations : List Operation) (tree : Tree) (operation : Operation)
    → ItemsSay (items_data trees) operations → Says (data_of tree) operation
    → ItemsSay (items_data (trees ++ tree ∷ [])) (operations ++ operation ∷ [])
items_say_push [] [] tree operation so_far says = (says, tt)
items_say_push [] (o ∷ os) tree operation so_far says = absurd so_far
items_say_push (t ∷ ts) [] tree operation so_far says = absurd so_far
items_say_push (t ∷ ts) (o ∷ os) tree operation so_far says =
    (so_far.0, items_say_push ts os tree operation so_far.1 says)

pub items_say_more : (trees : List Tree) (ops : List Op) (k : ℕ) (tree : Tree) (op : Op) → k < length trees
    → tree ≡ get_or trees k tree → ItemsSay (items_data (take k trees)) (operations_of ops)
    → Says (data_of tree) (operation_of op)
    → ItemsSay (items_data (take (k + 1) trees)) (operations_of (ops ++ op ∷ []))
items_say_more trees ops k tree op within is so_far says =
    let pushed : ItemsSay (items_data (take k trees ++ tree ∷ [])) (operations_of ops ++ operation_of op ∷ []) =
    items_say_push (take k trees) (operations_of ops) tree (operation_of op) so_far says in
    let ts : take k trees ++ tree ∷ [] ≡ take (k + 1) trees = ap (λ t. take k trees ++ t ∷ []) is
    ∙ sym (take_more trees k tree within) in
    subst (λ os. ItemsSay (items_data (take (k + 1) trees)) os) (sym (map-append operation_of ops (op ∷ [])))
    (subst (λ xs. ItemsSay (items_data xs) (operations_of ops ++ operation_of op ∷ [])) ts pushed)

bad_behind : (trees : List Tree) (operations : List Operation) (tree : Tree) (more : List Tree)
    → ItemsSay (items_data trees) operations → ((operation : Operation) → Says (data_of tree) operation → ⊥)
    → IsFirstBad (items_data (trees ++ tree ∷ more)) (length trees)
bad_behind [] operations tree more so_far none = none
bad_behind (t ∷ ts) [] tree more so_far none = absurd so_far
bad_behind (t ∷ ts) (o ∷ os) tree more so_far none = ((o, so_far.0), bad_behind ts os tree more so_far.1 none)

pub first_bad : (trees : List Tree) (ops : List Op) (k : ℕ) (tree : Tree) → k < length trees
    → tree ≡ get_or trees k tree → ItemsSay (items_data (take k trees)) (operations_of ops)
    → ((operation : Operation) → Says (data_of tree) operation → ⊥)
    → IsFirstBad (items_data trees) k
first_bad trees ops k tree within is so_far none =
    let whole : take k trees ++ tree ∷ drop (k + 1) trees ≡ trees = ap (λ t. take k trees ++ t ∷ drop (k + 1) trees) is
    ∙ (ap (λ ts. take k trees ++ ts) (sym (drop_more trees k tree within)) ∙ take-append-drop k trees) in
    let at : length (take k trees) ≡ k = length-take-le k trees (omega arith) in
    subst (λ ts. IsFirstBad (items_data ts) k)
    whole (subst (IsFirstBad (items_data (take k trees ++ tree ∷ drop (k + 1) trees)))
    at (bad_behind (take k trees) (operations_of ops) tree (drop (k + 1) trees) so_far none))

-- ---- what is written

abbrev itself : (path : List (List ℕ)) → Action → Type 0
itself path action = Says (operation_data (record { path = path; action = action }))
    (record { path = path; action = action })

says_by : (path : List (List ℕ)) (action : Action) → itself path action
unfolding with_member
says_by path (add v) = record { op = refl; path = refl; value = refl }
says_by path remove = record { op = refl; path = refl; value = tt }
says_by path (replace v) = record { op = refl; path = refl; value = refl }

pub says_itself : (operation : Operation) → Says (operation_data operation) operation
says_itself operation = says_by operation.path operation.action

items_say_itself : (operations : List Operation) → ItemsSay (items_of (map operation_data operations)) operations
items_say_itself [] = tt
items_say_itself (operation ∷ operations) = (says_itself operation, items_say_itself operations)

action-same : (a b : Action) (found : Option Data) → action_name a ≡ action_name b → HasValue a found
    → HasValue b found → a ≡ b
action-same (add v) (add w) found same p q = let one : v ≡ w = cc in ap add one
action-same (add v) remove found same p q = let n : ◌≡◌ {A = ℕ} 100 109 = ap (λ s. get_or s 2 0) same in
    absurd (omega (arith, n))
action-same (add v) (replace w) found same p q = let n : ◌≡◌ {A = ℕ} 100 112 = ap (λ s. get_or s 2 0) same in
    absurd (omega (arith, n))
action-same remove (add w) found same p q = let n : ◌≡◌ {A = ℕ} 109 100 = ap (λ s. get_or s 2 0) same in
    absurd (omega (arith, n))
action-same remove remove found same p q = refl
action-same remove (replace w) found same p q = let n : ◌≡◌ {A = ℕ} 109 112 = ap (λ s. get_or s 2 0) same in
    absurd (omega (arith, n))
action-same (replace v) (add w) found same p q = let n : ◌≡◌ {A = ℕ} 112 100 = ap (λ s. get_or s 2 0) same in
    absurd (omega (arith, n))
action-same (replace v) remove found same p q = let n : ◌≡◌ {A = ℕ} 112 109 = ap (λ s. get_or s 2 0) same in
    absurd (omega (arith, n))
action-same (replace v) (replace w) found same p q = let one : v ≡ w = cc in ap replace one

string_same : (s t : List ℕ) → Some (string s) ≡ Some (string t) → s ≡ t
string_same s t same = cc

-- an object says one operation at most
says-same : (d : Data) (p q : Operation) → Says d p → Says d q → p ≡ q
says-same d p q says also =
    let make : List (List ℕ) → Action → Operation = λ path action. record { path = path; action = action } in
    let paths : p.path ≡ q.path = pointer_text-same p.path q.path (string_same _ _ (sym says.path ∙ also.path)) in
    let actions : p.action ≡ q.action =
    action-same p.action q.action (get (codes "value") d) (string_same _ _ (sym says.op ∙ also.op))
    says.value also.value in
    ap₂ make paths actions

items_say-same : (ds : Items) (ps qs : List Operation) → ItemsSay ds ps → ItemsSay ds qs → ps ≡ qs
items_say-same no_items [] [] says also = refl
items_say-same no_items [] (q ∷ qs) says also = absurd also
items_say-same no_items (p ∷ ps) qs says also = absurd says
items_say-same (item d ds) [] qs says also = absurd says
items_say-same (item d ds) (p ∷ ps) [] says also = absurd also
items_say-same (item d ds) (p ∷ ps) (q ∷ qs) says also =
    ap₂ (λ o os. o ∷ os) (says-same d p q says.0 also.0) (items_say-same ds ps qs says.1 also.1)

-- where each item says an operation, none is bad
none_bad : (ds : Items) (operations : List Operation) (k : ℕ) → ItemsSay ds operations → IsFirstBad ds k → ⊥
none_bad no_items operations k says bad = bad
none_bad (item d ds) [] k says bad = says
none_bad (item d ds) (operation ∷ operations) zero says bad = bad operation says.0
none_bad (item d ds) (operation ∷ operations) (suc k) says bad = none_bad ds operations k says.1 bad.1

pub read_back : (operations : List Operation) → ReadsBack operations
read_back operations =
    record {
      says = items_say_itself operations;
      only = λ others also. items_say-same (items_of (map operation_data operations)) others operations
          also (items_say_itself operations);
      no_fault = λ k bad. none_bad (items_of (map operation_data operations)) operations
          k (items_say_itself operations) bad;
    }
