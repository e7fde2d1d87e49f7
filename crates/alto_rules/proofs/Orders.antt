-- The derived orders of what a draft keeps, and what ties in them.
use Rattle.std.proofs.Common.{◌≡◌, refl, ap, sym, ◌∙◌, subst, rules}
use Rattle.std.proofs.Math.Path.{fun_ext}
use Rattle.std.proofs.lemmas.Bool.{and_parts}
use Rattle.std.proofs.lemmas.Cmp.{eq_by_cmp_equiv, tied_itself}
use Rattle.std.specs.Cmp.{IsTotalOrder}
use Rattle.std.specs.Prelude.{ℕ, true, List}
use Rattle.std.specs.Ordering.{is_eq}
use Rattle.std.specs.declared.cmp.Ordering.{Ordering}
use Rattle.alto_addr.specs.Order.{prefix_cmp, addr_cmp}
use Rattle.alto_addr.specs.declared.prefix.Prefix.{Prefix}
use Rattle.alto_rows.specs.contracts.key.KeyOrd.TheImpl as key_order
use Rattle.alto_rows.specs.contracts.resource.ResourceOrd.TheImpl as resource_order
use Rattle.alto_rules.specs.contracts.counted.CountedOrd.TheImpl as counted_order
use Rattle.alto_rules.specs.contracts.place.PlaceOrd.TheImpl as place_order
use Rattle.alto_rows.specs.declared.key.Key.{Key}
use Rattle.alto_rows.specs.declared.resource.Resource.{Resource}
use Rattle.alto_rows.specs.Order.{key_cmp, resource_cmp, name_cmp}
use Rattle.alto_rows.proofs.OrderLemmas.{derived_key_cmp, derived_resource_cmp, equal_tests, prefix_cmp_exact}
use Rattle.alto_rows.proofs.TouchesLemmas.{both_ties, one_name, same_name_ties}
use Rattle.alto_rules.specs.declared.counted.Counted.{Counted}
use Rattle.alto_rules.specs.declared.counted.Counted.TheVariants as counted
use Rattle.alto_rules.specs.declared.place.Place.{Place}
use Rattle.alto_rules.specs.Sizes.{counted_cmp}
use Rattle.alto_rules.specs.Owners.{place_cmp, place_of}

-- what holds of the derived order of keys holds of the order of keys
pub by_key_cmp : (P : (Key → Key → Ordering) → Type 0) → P key_order.cmp-value.it → P key_cmp
by_key_cmp P h = subst P (fun_ext (λ a. fun_ext (λ b. derived_key_cmp a b))) h

-- what holds of the derived order of resources holds of the order of resources
pub by_resource_cmp : (P : (Resource → Resource → Ordering) → Type 0) → P resource_order.cmp-value.it → P resource_cmp
by_resource_cmp P h = subst P (fun_ext (λ a. fun_ext (λ b. derived_resource_cmp a b))) h

-- the derived comparison of what is counted
derived_counted_cmp : (a b : Counted) → counted_order.cmp-value.it a b ≡ counted_cmp a b
unfolding counted_cmp
derived_counted_cmp a b = search rules

-- what holds of it holds of the order of what is counted
pub by_counted_cmp : (P : (Counted → Counted → Ordering) → Type 0) → P counted_order.cmp-value.it → P counted_cmp
by_counted_cmp P h = subst P (fun_ext (λ a. fun_ext (λ b. derived_counted_cmp a b))) h

-- the order of what is counted is total
pub counted_cmp_total : IsTotalOrder counted_cmp
counted_cmp_total = by_counted_cmp (λ R. IsTotalOrder R) counted_order.Laws.total-law

-- the derived comparison of places
derived_place_cmp : (a b : Place) → place_order.cmp-value.it a b ≡ place_cmp a b
unfolding place_cmp prefix_cmp addr_cmp
derived_place_cmp a b = search rules

-- what holds of it holds of the order of places
pub by_place_cmp : (P : (Place → Place → Ordering) → Type 0) → P place_order.cmp-value.it → P place_cmp
by_place_cmp P h = subst P (fun_ext (λ a. fun_ext (λ b. derived_place_cmp a b))) h

-- the order of places is total
pub place_cmp_total : IsTotalOrder place_cmp
place_cmp_total = by_place_cmp (λ R. IsTotalOrder R) place_order.Laws.total-law

-- what is counted and ties is one
pub one_counted : (a b : Counted) → is_eq (counted_cmp a b) ≡ true → a ≡ b
unfolding counted_cmp
one_counted counted.Nets counted.Nets h = refl
one_counted (counted.Pids a) (counted.Pids b) h = ap counted.Pids (one_name a b (same_name_ties a b ∙ h))
one_counted (counted.Prefixes a) (counted.Prefixes b) h = ap counted.Prefixes (one_name a b (same_name_ties a b ∙ h))
one_counted (counted.Metrics a) (counted.Metrics b) h = ap counted.Metrics (one_name a b (same_name_ties a b ∙ h))
one_counted (counted.Costs a m) (counted.Costs b n) h =
    let parts : (is_eq (name_cmp a b) ≡ true) × (is_eq (name_cmp m n) ≡ true) =
    and_parts (is_eq (name_cmp a b)) (is_eq (name_cmp m n)) (sym (both_ties (name_cmp a b) (name_cmp m n)) ∙ h) in
    rw (one_name a b (same_name_ties a b ∙ parts.0), one_name m n (same_name_ties m n ∙ parts.1)) refl
one_counted _ _ h = cc

-- places that tie are of one network and one prefix
pub one_place : (n m : List ℕ) (x y : Prefix) → is_eq (place_cmp (place_of n x) (place_of m y)) ≡ true
    → (n ≡ m) × (x ≡ y)
unfolding place_cmp
one_place n m x y h =
    let parts : (is_eq (name_cmp n m) ≡ true) × (is_eq (prefix_cmp x y) ≡ true) =
    and_parts (is_eq (name_cmp n m)) (is_eq (prefix_cmp x y)) (sym (both_ties (name_cmp n m) (prefix_cmp x y)) ∙ h) in
    (one_name n m (same_name_ties n m ∙ parts.0), prefix_cmp_exact x y (equal_tests (prefix_cmp x y) parts.1))

-- so they are one
pub the_place : (a b : Place) → is_eq (place_cmp a b) ≡ true → a ≡ b
the_place a b h =
    let same : (a.net ≡ b.net) × (a.prefix ≡ b.prefix) = one_place a.net b.net a.prefix b.prefix h in
    ap (λ (net : List ℕ). place_of net a.prefix) same.0 ∙ ap (λ (prefix : Prefix). place_of b.net prefix) same.1

-- a place ties with itself
pub place_itself : (a : Place) → is_eq (place_cmp a a) ≡ true
place_itself a = ap is_eq (tied_itself place_cmp_total a)

-- and two places tie either way
pub place_back : (a b : Place) → is_eq (place_cmp a b) ≡ is_eq (place_cmp b a)
place_back a b = (eq_by_cmp_equiv place_cmp_total).symm a b
