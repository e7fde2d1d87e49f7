-- Lists and objects of what trees hold hold that too.
use Rattle.std.proofs.Common.{ℕ, List, [], ◌∷◌}
use Rattle.std.proofs.Common.{Ordering, Less, Equal, Greater}
use Rattle.std.specs.Cmp.Lexicographic.{slice_cmp}
use Rattle.std.specs.List.{AllByRecursion}
use Rattle.std.specs.Ordering.{match_ordering, nat_cmp}
use Rattle.std.specs.Prelude.{fold}
use Rattle.std.specs.Str.{IsUtf8}
use Rattle.serde_json.specs.Data.{Data, Members, no_members, member, object, put}
use Rattle.json_tree.specs.Document.{array_of, object_of, with_member}
use Rattle.json_tree.specs.Laws.{IsOfTree, MembersAreOfTrees}
use Rattle.json_tree.specs.Order.{AreInOrder}
use Rattle.json_tree.proofs.OrderLemmas.{AreInOrder-with_member}
use Rattle.alto_maps.proofs.ObjectLemmas.{none_in_order}

abbrev pub AreTrees : List Data → Type 0
AreTrees values = AllByRecursion IsOfTree values

pub array_tree : (values : List Data) → AreTrees values → IsOfTree (array_of values)
array_tree [] h = tt
array_tree (d ∷ values) h = (h.0, array_tree values h.1)

by_ordering : (o : Ordering) (a b c : Members) → MembersAreOfTrees a → MembersAreOfTrees b → MembersAreOfTrees c
    → MembersAreOfTrees (match_ordering o a b c)
by_ordering Less a b c p q r = p
by_ordering Equal a b c p q r = q
by_ordering Greater a b c p q r = r

put_tree : (name : List ℕ) (d : Data) (ms : Members) → IsUtf8 name → IsOfTree d → MembersAreOfTrees ms
    → MembersAreOfTrees (put name d ms)
put_tree name d no_members p q r = (p, q, tt)
put_tree name d (member l e ms) p q r =
    by_ordering (slice_cmp nat_cmp name l) (member name d (member l e ms)) (member l d ms) (member l e (put name d ms))
    (p, q, r) (r.0, q, r.2) (r.0, r.1, put_tree name d ms p q r.2)

with_tree : (name : List ℕ) (d : Data) (ms : Members) → IsUtf8 name → IsOfTree d → MembersAreOfTrees ms
    → MembersAreOfTrees (with_member name d ms)
unfolding with_member
with_tree name d ms p q r = put_tree name d ms p q r

abbrev pub NameTrees : List (List ℕ × Data) → Type 0
NameTrees ms = AllByRecursion (λ m. IsUtf8 m.0 × IsOfTree m.1) ms

fold_tree : (ms : List (List ℕ × Data)) (before : Members) → NameTrees ms → AreInOrder before → MembersAreOfTrees before
    → IsOfTree (object (fold (λ before m. with_member m.0 m.1 before) before ms))
fold_tree [] before h p q = (p, q)
fold_tree (m ∷ ms) before h p q =
    fold_tree ms (with_member m.0 m.1 before) h.1 (AreInOrder-with_member m.0 m.1 before p)
    (with_tree m.0 m.1 before h.0.0 h.0.1 q)

pub object_tree : (ms : List (List ℕ × Data)) → NameTrees ms → IsOfTree (object_of ms)
object_tree ms h = fold_tree ms no_members h none_in_order tt

pub one_tree : (a : List ℕ) (x : Data) → IsUtf8 a → IsOfTree x → IsOfTree (object_of ((a, x) ∷ []))
one_tree a x u p = object_tree ((a, x) ∷ []) ((u, p), tt)

pub two_tree : (a b : List ℕ) (x y : Data) → IsUtf8 a → IsUtf8 b → IsOfTree x → IsOfTree y
    → IsOfTree (object_of ((a, x) ∷ (b, y) ∷ []))
two_tree a b x y u v p q = object_tree ((a, x) ∷ (b, y) ∷ []) ((u, p), ((v, q), tt))
