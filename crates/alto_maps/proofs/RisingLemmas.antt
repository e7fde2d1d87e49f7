-- Objects made of names that rise.
use Rattle.std.proofs.Common.{◌≡◌, refl, ap, sym, ◌∙◌, subst}
use Rattle.std.proofs.lemmas.Map.Text.{is_eq-slice_cmp}
use Rattle.std.specs.Prelude.{◌||◌, cond, List, [], ◌∷◌, map, Some, None}
use Rattle.std.specs.Cmp.Lexicographic.{slice_cmp}
use Rattle.std.specs.List.{list_any}
use Rattle.std.specs.Ordering.{nat_cmp, is_eq}
use Rattle.std.specs.declared.cmp.Ordering.{Ordering}
use Rattle.std.specs.declared.cmp.Ordering.TheVariants.{Less, Equal, Greater}
use Rattle.serde_json.specs.Data.{Data, Members}
use Rattle.serde_json.specs.Find.{get_member}
use Rattle.json_tree.specs.Order.{names_of}
use Rattle.json_tree.specs.Tree.{members_in_order}
use Rattle.json_tree.proofs.Lookups.{one_name}
use Rattle.json_tree.proofs.OrderLemmas.{same_members}
use Rattle.alto_maps.specs.Shape.{Name, same_name}
use Rattle.alto_maps.proofs.SetLemmas.{Rise}
use Rattle.alto_maps.proofs.ObjectLemmas.{named, found-named, in_order-named}

-- members as they stand, in the order of the names
abbrev listed : (Name → Data) → List Name → Members
listed value names = members_in_order (map (λ name. (name, value name)) names)

names_of-listed : (value : Name → Data) (names : List Name) → names_of (listed value names) ≡ names
names_of-listed value [] = refl
names_of-listed value (name ∷ names) = ap (λ ns. name ∷ ns) (names_of-listed value names)

found-listed : (value : Name → Data) (names : List Name) (q : Name)
    → get_member q (listed value names) ≡ cond (list_any (same_name q) names) (Some (value q)) None
found-listed value [] q = refl
found-listed value (name ∷ names) q =
    by (slice_cmp nat_cmp q name) refl (sym (is_eq-slice_cmp q name)) (found-listed value names q)
  where
    by : (o : Ordering) → slice_cmp nat_cmp q name ≡ o → same_name q name ≡ is_eq (slice_cmp nat_cmp q name)
        → get_member q (listed value names) ≡ cond (list_any (same_name q) names) (Some (value q)) None
        → get_member q (listed value (name ∷ names)) ≡ cond (same_name q name || list_any (same_name q) names)
        (Some (value q)) None
    by Less is same rest = rw (same, is) rest
    by Equal is same rest = rw (same, is) (ap (λ n. Some (value n)) (sym (one_name q name is)))
    by Greater is same rest = rw (same, is) rest

-- an object made of names that rise has its members as they stand
pub named-rising : (value : Name → Data) (names : List Name) → Rise names
    → named value names ≡ members_in_order (map (λ name. (name, value name)) names)
named-rising value names rise =
    same_members _ _ (in_order-named value names) (subst Rise (sym (names_of-listed value names)) rise)
    (λ q. found-named value names q ∙ sym (found-listed value names q))
