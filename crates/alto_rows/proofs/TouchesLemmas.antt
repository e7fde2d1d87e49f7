-- A key touches exactly the resource that it is part of, and those whose network's map it gives its version.
use Rattle.std.proofs.Common.{◌≡◌, refl, ap, sym, ◌∙◌, inl, inr}
use Rattle.std.specs.Prelude.{ℕ, Bool, true, false, ◌||◌, ◌&&◌, ◌⊎◌, List, [], ◌∷◌, Option, Some, None}
use Rattle.std.specs.List.{list_any}
use Rattle.std.specs.Cmp.Lexicographic.{texts_ties}
use Rattle.std.specs.Ordering.{is_eq, ordering_then}
use Rattle.std.specs.declared.cmp.Ordering.{Ordering}
use Rattle.std.specs.declared.cmp.Ordering.TheVariants.{Less, Equal, Greater}
use Rattle.alto_rows.specs.declared.key.Key.{Key}
use Rattle.alto_rows.specs.declared.key.Key.TheVariants as key
use Rattle.alto_rows.specs.declared.resource.Resource.{Resource}
use Rattle.alto_rows.specs.declared.resource.Resource.TheVariants as resource
use Rattle.alto_rows.specs.declared.write.Write.{Write}
use Rattle.alto_rows.specs.Order.{key_cmp, name_cmp, net_of, resource_cmp, same_name}
use Rattle.alto_rows.specs.Touches.{same_resource, part_of, versions_map, is_resource, is_net, touches}
use Rattle.alto_rows.proofs.OrderLemmas.{name_cmp_exact, resource_cmp_exact, resource_cmp_itself, name_cmp_itself}
use Rattle.alto_rows.proofs.OrderLemmas.{equal_tests, one_key}
use Rattle.alto_rows.proofs.ResourceLemmas.{or_false, or_true}
use Rattle.alto_rows.proofs.WriteLemmas.{NoneWrites}

-- names are one exactly where they tie
pub same_name_ties : (a b : List ℕ) → same_name a b ≡ is_eq (name_cmp a b)
same_name_ties a b = texts_ties a b

-- two comparisons tie together where both do
pub both_ties : (o p : Ordering) → is_eq (ordering_then o p) ≡ (is_eq o && is_eq p)
both_ties Less p = refl
both_ties Equal p = refl
both_ties Greater p = refl

-- resources are one exactly where they tie
pub same_resource_ties : (a b : Resource) → same_resource a b ≡ is_eq (resource_cmp a b)
unfolding resource_cmp
same_resource_ties (resource.Net a) (resource.Net b) = same_name_ties a b
same_resource_ties (resource.Cost a m) (resource.Cost b n) =
    rw (same_name_ties a b, same_name_ties m n) (sym (both_ties (name_cmp a b) (name_cmp m n)))
same_resource_ties (resource.Prop a) (resource.Prop b) = same_name_ties a b
same_resource_ties _ _ = refl

-- names that test as one are
pub one_name : (a b : List ℕ) → same_name a b ≡ true → a ≡ b
one_name a b h = name_cmp_exact a b (equal_tests (name_cmp a b) (sym (same_name_ties a b) ∙ h))

-- a name is the same as itself
pub same_name_itself : (a : List ℕ) → same_name a a ≡ true
same_name_itself a = same_name_ties a a ∙ ap is_eq (name_cmp_itself a)

-- resources that test as one are
pub one_resource : (a b : Resource) → same_resource a b ≡ true → a ≡ b
one_resource a b h = resource_cmp_exact a b (equal_tests (resource_cmp a b) (sym (same_resource_ties a b) ∙ h))

-- a resource is the same as itself
pub same_resource_itself : (a : Resource) → same_resource a a ≡ true
same_resource_itself a = same_resource_ties a a ∙ ap is_eq (resource_cmp_itself a)

-- an optional resource that is this one
pub is_resource_exact : (part : Option Resource) (of : Resource) → is_resource part of ≡ true → part ≡ Some of
is_resource_exact None of h = cc
is_resource_exact (Some part) of h = ap (λ (r : Resource). Some r) (sym (one_resource of part h))

-- an optional network that is this one
pub is_net_exact : (map_of : Option (List ℕ)) (net : List ℕ) → is_net map_of net ≡ true → map_of ≡ Some net
is_net_exact None net h = cc
is_net_exact (Some other) net h = ap (λ (n : List ℕ). Some n) (sym (one_name net other h))

-- a key touches what it is part of
pub touches_whole : (at : Key) (of : Resource) → part_of at ≡ Some of → touches of at ≡ true
touches_whole at of h = rw (h, same_resource_itself of) refl

-- a version of a network map touches the resources of the network
pub touches_net : (at : Key) (of : Resource) → versions_map at ≡ Some (net_of of) → touches of at ≡ true
touches_net at of h = rw (h, same_name_itself (net_of of)) (or_true (is_resource (part_of at) of))

-- and a key touches nothing else
pub touches_only : (at : Key) (of : Resource) → touches of at ≡ true
    → (part_of at ≡ Some of) ⊎ (versions_map at ≡ Some (net_of of))
touches_only at of h = by (is_resource (part_of at) of) refl h
  where
    by : (b : Bool) → is_resource (part_of at) of ≡ b → (b || is_net (versions_map at) (net_of of)) ≡ true
        → (part_of at ≡ Some of) ⊎ (versions_map at ≡ Some (net_of of))
    by true e h = inl (is_resource_exact (part_of at) of e)
    by false e h = inr (is_net_exact (versions_map at) (net_of of) h)

-- a row that is part of a document gives no network map its version
pub part_unversioned : (at : Key) (part : Resource) → part_of at ≡ Some part → versions_map at ≡ None
part_unversioned (key.Seq of) part h = cc
part_unversioned _ part h = refl

-- so it touches that document's resource alone
pub touches-part : (at : Key) (part of : Resource) → part_of at ≡ Some part
    → touches of at ≡ is_eq (resource_cmp of part)
touches-part at part of h = rw (h, part_unversioned at part h, same_resource_ties of part)
    (or_false (is_eq (resource_cmp of part)))

-- writes none of which touch a resource write no row that is part of it
pub none_part : (of : Resource) (at : Key) (writes : List Write) → part_of at ≡ Some of
    → list_any (λ write. touches of write.key) writes ≡ false
    → NoneWrites at writes
none_part of at [] part h = tt
none_part of at (write ∷ writes) part h =
    by (λ g. none_part of at writes part g) (touches of write.key) refl (is_eq (key_cmp at write.key)) refl h
  where
    by : (list_any (λ (later : Write). touches of later.key) writes ≡ false → NoneWrites at writes) → (t : Bool)
        → touches of write.key ≡ t → (b : Bool) → is_eq (key_cmp at write.key) ≡ b
        → (t || list_any (λ (later : Write). touches of later.key) writes) ≡ false → NoneWrites at (write ∷ writes)
    by below true e b f g = cc
    by below false e true f g =
        let same : at ≡ write.key = one_key at write.key f in
        let touched : touches of write.key ≡ true = touches_whole write.key of (rw same at part) in
        cc
    by below false e false f g = (f, below g)
