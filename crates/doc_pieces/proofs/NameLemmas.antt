-- Names that stand in byte order, and those of groups.
use Rattle.std.proofs.Common.{◌≡◌, refl, ap, sym, ◌∙◌}
use Rattle.std.specs.List.{list_any}
use Rattle.std.specs.Prelude.{cond, List, [], ◌∷◌, Some, None, map}
use Rattle.json_tree.proofs.OrderLemmas.{same_members}
use Rattle.json_tree.specs.Order.{names_of}
use Rattle.json_tree.specs.Tree.{members_in_order}
use Rattle.serde_json.specs.Data.{Data, Members, null}
use Rattle.alto_maps.proofs.ObjectLemmas.{named, found-named, in_order-named}
use Rattle.alto_maps.proofs.RisingLemmas.{named-rising}
use Rattle.alto_maps.proofs.SetLemmas.{any-set_of, Rise, rise-set_of}
use Rattle.alto_maps.specs.Places.{set_of}
use Rattle.alto_maps.specs.Shape.{Name, same_name}

-- names in byte order with the same among them are the same
abbrev in_order : List Name → Members
in_order names = members_in_order (map {B = Name × Data} (λ n. (n, null)) names)

names_of-in_order : (names : List Name) → names_of (in_order names) ≡ names
names_of-in_order [] = refl
names_of-in_order (n ∷ names) = ap (λ ns. n ∷ ns) (names_of-in_order names)

pub same_names : (names others : List Name) → Rise names → Rise others
    → ((q : Name) → list_any (same_name q) names ≡ list_any (same_name q) others) → names ≡ others
same_names names others rise rise' same =
    let one_object : named (λ _. null) names ≡ named (λ _. null) others =
    same_members _ _ (in_order-named (λ _. null) names) (in_order-named (λ _. null) others)
    (λ q. found-named (λ _. null) names q
    ∙ (ap (λ b. cond b (Some null) None) (same q) ∙ sym (found-named (λ _. null) others q))) in
    sym (names_of-in_order names)
    ∙ (ap names_of (sym (named-rising (λ _. null) names rise) ∙ (one_object ∙ named-rising (λ _. null) others rise'))
    ∙ names_of-in_order others)

-- names that rise are their set
pub set_of-rising : (names : List Name) → Rise names → set_of names ≡ names
set_of-rising names rise = same_names (set_of names) names (rise-set_of names) rise (λ q. any-set_of q names)
