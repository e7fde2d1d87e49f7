-- The orders of keys and of resources are total and tell all apart, and the derived comparisons compute them.
use Rattle.std.proofs.Common.{◌≡◌, ℕ, List, refl, ap, subst, rules}
use Rattle.std.proofs.Math.Path.{fun_ext}
use Rattle.std.proofs.lemmas.Cmp.{tied_itself, nat_list_cmp_total}
use Rattle.std.proofs.lemmas.Map.Lookups.{CmpEqualImpliesEq, exact_bytes, exact_unsigned}
use Rattle.std.specs.Prelude.{true}
use Rattle.std.specs.Cmp.{IsTotalOrder}
use Rattle.std.specs.Ordering.{is_eq, nat_cmp, ordering_then}
use Rattle.std.specs.declared.cmp.Ordering.{Ordering}
use Rattle.std.specs.declared.cmp.Ordering.TheVariants.{Less, Equal, Greater}
use denote.Struct.Props.{props}
use Rattle.alto_addr.specs.declared.addr.Addr.{Addr}
use Rattle.alto_addr.specs.Bits.{IsPrefix}
use Rattle.alto_addr.specs.declared.addr.Addr.TheVariants.{V4, V6}
use Rattle.alto_addr.specs.declared.prefix.Prefix.{Prefix}
use Rattle.alto_addr.specs.Order.{prefix_cmp, addr_cmp}
use Rattle.alto_rows.specs.contracts.entity.EntityOrd.TheImpl as entity_order
use Rattle.alto_rows.specs.contracts.key.KeyOrd.TheImpl as key_order
use Rattle.alto_rows.specs.contracts.resource.ResourceOrd.TheImpl as resource_order
use Rattle.alto_rows.specs.declared.entity.Entity.{Entity}
use Rattle.alto_rows.specs.declared.entity.Entity.TheVariants as entity
use Rattle.alto_rows.specs.declared.key.Key.{Key}
use Rattle.alto_rows.specs.declared.key.Key.TheVariants as key
use Rattle.alto_rows.specs.declared.resource.Resource.{Resource}
use Rattle.alto_rows.specs.declared.resource.Resource.TheVariants as resource
use Rattle.alto_rows.specs.Order.{key_cmp, entity_cmp, resource_cmp, name_cmp}

-- the derived comparison of resources
pub derived_resource_cmp : (a b : Resource) → resource_order.cmp-value.it a b ≡ resource_cmp a b
unfolding resource_cmp
derived_resource_cmp a b = search rules

-- the derived comparison of entities
pub derived_entity_cmp : (a b : Entity) → entity_order.cmp-value.it a b ≡ entity_cmp a b
unfolding entity_cmp prefix_cmp addr_cmp
derived_entity_cmp a b = search rules

-- the derived comparison of keys
pub derived_key_cmp : (a b : Key) → key_order.cmp-value.it a b ≡ key_cmp a b
unfolding key_cmp resource_cmp entity_cmp prefix_cmp addr_cmp
derived_key_cmp key.Epoch key.Epoch = refl
derived_key_cmp key.Window key.Window = refl
derived_key_cmp (key.Net a) (key.Net b) = search rules
derived_key_cmp (key.Pid a p) (key.Pid b q) = search rules
derived_key_cmp (key.Prefix a p x) (key.Prefix b q y) = search rules
derived_key_cmp (key.Metric a m) (key.Metric b n) = search rules
derived_key_cmp (key.Cost a m s d) (key.Cost b n t e) = search rules
derived_key_cmp (key.Prop a x p) (key.Prop b y q) = search rules
derived_key_cmp (key.Ane a x) (key.Ane b y) = search rules
derived_key_cmp (key.AneProp a x p) (key.AneProp b y q) = search rules
derived_key_cmp (key.Path a s d) (key.Path b t e) = search rules
derived_key_cmp (key.Seq a) (key.Seq b) = search rules
derived_key_cmp _ _ = refl

-- the order of resources is total
pub resource_cmp_total : IsTotalOrder resource_cmp
resource_cmp_total =
    subst (λ (R : Resource → Resource → Ordering). IsTotalOrder R)
    (fun_ext (λ a. fun_ext (λ b. derived_resource_cmp a b))) resource_order.Laws.total-law

-- the order of entities is total
pub entity_cmp_total : IsTotalOrder entity_cmp
entity_cmp_total =
    subst (λ (R : Entity → Entity → Ordering). IsTotalOrder R) (fun_ext (λ a. fun_ext (λ b. derived_entity_cmp a b)))
    entity_order.Laws.total-law

-- the order of keys is total
pub key_cmp_total : IsTotalOrder key_cmp
key_cmp_total = subst (λ (R : Key → Key → Ordering). IsTotalOrder R) (fun_ext (λ a. fun_ext (λ b. derived_key_cmp a b)))
    key_order.Laws.total-law

-- both of two comparisons tie where one after the other does
both_tie : (o p : Ordering) → ordering_then o p ≡ Equal → (o ≡ Equal) × (p ≡ Equal)
both_tie Less p h = cc
both_tie Equal p h = (refl, h)
both_tie Greater p h = cc

-- names that tie are one
pub name_cmp_exact : CmpEqualImpliesEq name_cmp
name_cmp_exact = exact_bytes

-- addresses that tie are one
addr_cmp_exact : CmpEqualImpliesEq addr_cmp
unfolding addr_cmp
addr_cmp_exact (V4 a) (V4 b) h = ap (λ n. V4 n) (exact_unsigned a b h)
addr_cmp_exact (V6 a) (V6 b) h = ap (λ n. V6 n) (exact_unsigned a b h)
addr_cmp_exact _ _ h = cc

-- a prefix of these parts
abbrev made : (addr : Addr) (len : ℕ) → IsPrefix addr len → Prefix
made addr len is = record { addr = addr; len = len; is_prefix = is }

-- that an address and a length make a prefix has one proof
one_proof : (addr : Addr) (len : ℕ) → IsProp (IsPrefix addr len)
one_proof addr len = hlevel props

-- prefixes that tie are one
pub prefix_cmp_exact : CmpEqualImpliesEq prefix_cmp
unfolding prefix_cmp
prefix_cmp_exact a b h =
    let ties : (addr_cmp a.addr b.addr ≡ Equal) × (nat_cmp a.len b.len ≡ Equal) = both_tie _ _ h in
    let addrs : a.addr ≡ b.addr = addr_cmp_exact a.addr b.addr ties.0 in
    let lens : a.len ≡ b.len = exact_unsigned a.len b.len ties.1 in
    let same_len : (is : IsPrefix a.addr b.len) → a ≡ made a.addr b.len is =
    subst (λ len. (is : IsPrefix a.addr len)
    → a ≡ made a.addr len is) lens (λ is i. made a.addr a.len (one_proof a.addr a.len a.is_prefix is i)) in
    subst (λ addr. (is : IsPrefix addr b.len) → a ≡ made addr b.len is) addrs same_len b.is_prefix

-- resources that tie are one
pub resource_cmp_exact : CmpEqualImpliesEq resource_cmp
unfolding resource_cmp
resource_cmp_exact (resource.Net a) (resource.Net b) h = ap (λ n. resource.Net n) (name_cmp_exact a b h)
resource_cmp_exact (resource.Cost a m) (resource.Cost b n) h =
    let ties : (name_cmp a b ≡ Equal) × (name_cmp m n ≡ Equal) = both_tie _ _ h in
    let nets : a ≡ b = name_cmp_exact a b ties.0 in
    let metrics : m ≡ n = name_cmp_exact m n ties.1 in
    cc
resource_cmp_exact (resource.Prop a) (resource.Prop b) h = ap (λ n. resource.Prop n) (name_cmp_exact a b h)
resource_cmp_exact _ _ h = cc

-- entities that tie are one
pub entity_cmp_exact : CmpEqualImpliesEq entity_cmp
unfolding entity_cmp
entity_cmp_exact (entity.Block a) (entity.Block b) h = ap (λ n. entity.Block n) (prefix_cmp_exact a b h)
entity_cmp_exact (entity.Pid a) (entity.Pid b) h = ap (λ n. entity.Pid n) (name_cmp_exact a b h)
entity_cmp_exact _ _ h = cc

-- keys that tie are one
pub key_cmp_exact : CmpEqualImpliesEq key_cmp
unfolding key_cmp
key_cmp_exact key.Epoch key.Epoch h = refl
key_cmp_exact key.Window key.Window h = refl
key_cmp_exact (key.Net a) (key.Net b) h = ap (λ n. key.Net n) (name_cmp_exact a b h)
key_cmp_exact (key.Pid a p) (key.Pid b q) h =
    let ties : (name_cmp a b ≡ Equal) × (name_cmp p q ≡ Equal) = both_tie _ _ h in
    let nets : a ≡ b = name_cmp_exact a b ties.0 in
    let pids : p ≡ q = name_cmp_exact p q ties.1 in
    cc
key_cmp_exact (key.Prefix a p x) (key.Prefix b q y) h =
    let ties : (name_cmp a b ≡ Equal) × (ordering_then (name_cmp p q) (prefix_cmp x y) ≡ Equal) = both_tie _ _ h in
    let more : (name_cmp p q ≡ Equal) × (prefix_cmp x y ≡ Equal) = both_tie _ _ ties.1 in
    let nets : a ≡ b = name_cmp_exact a b ties.0 in
    let pids : p ≡ q = name_cmp_exact p q more.0 in
    let prefixes : x ≡ y = prefix_cmp_exact x y more.1 in
    cc
key_cmp_exact (key.Metric a m) (key.Metric b n) h =
    let ties : (name_cmp a b ≡ Equal) × (name_cmp m n ≡ Equal) = both_tie _ _ h in
    let nets : a ≡ b = name_cmp_exact a b ties.0 in
    let metrics : m ≡ n = name_cmp_exact m n ties.1 in
    cc
key_cmp_exact (key.Cost a m s d) (key.Cost b n t e) h =
    let ties : (name_cmp a b ≡ Equal) × (ordering_then (name_cmp m n) (ordering_then (name_cmp s t) (name_cmp d e))
    ≡ Equal) = both_tie _ _ h in
    let more : (name_cmp m n ≡ Equal) × (ordering_then (name_cmp s t) (name_cmp d e) ≡ Equal) = both_tie _ _ ties.1 in
    let last : (name_cmp s t ≡ Equal) × (name_cmp d e ≡ Equal) = both_tie _ _ more.1 in
    let nets : a ≡ b = name_cmp_exact a b ties.0 in
    let metrics : m ≡ n = name_cmp_exact m n more.0 in
    let sources : s ≡ t = name_cmp_exact s t last.0 in
    let destinations : d ≡ e = name_cmp_exact d e last.1 in
    cc
key_cmp_exact (key.Prop a x p) (key.Prop b y q) h =
    let ties : (name_cmp a b ≡ Equal) × (ordering_then (entity_cmp x y) (name_cmp p q) ≡ Equal) = both_tie _ _ h in
    let more : (entity_cmp x y ≡ Equal) × (name_cmp p q ≡ Equal) = both_tie _ _ ties.1 in
    let nets : a ≡ b = name_cmp_exact a b ties.0 in
    let entities : x ≡ y = entity_cmp_exact x y more.0 in
    let names : p ≡ q = name_cmp_exact p q more.1 in
    cc
key_cmp_exact (key.Ane a x) (key.Ane b y) h =
    let ties : (name_cmp a b ≡ Equal) × (name_cmp x y ≡ Equal) = both_tie _ _ h in
    let nets : a ≡ b = name_cmp_exact a b ties.0 in
    let anes : x ≡ y = name_cmp_exact x y ties.1 in
    cc
key_cmp_exact (key.AneProp a x p) (key.AneProp b y q) h =
    let ties : (name_cmp a b ≡ Equal) × (ordering_then (name_cmp x y) (name_cmp p q) ≡ Equal) = both_tie _ _ h in
    let more : (name_cmp x y ≡ Equal) × (name_cmp p q ≡ Equal) = both_tie _ _ ties.1 in
    let nets : a ≡ b = name_cmp_exact a b ties.0 in
    let anes : x ≡ y = name_cmp_exact x y more.0 in
    let names : p ≡ q = name_cmp_exact p q more.1 in
    cc
key_cmp_exact (key.Path a s d) (key.Path b t e) h =
    let ties : (name_cmp a b ≡ Equal) × (ordering_then (name_cmp s t) (name_cmp d e) ≡ Equal) = both_tie _ _ h in
    let more : (name_cmp s t ≡ Equal) × (name_cmp d e ≡ Equal) = both_tie _ _ ties.1 in
    let nets : a ≡ b = name_cmp_exact a b ties.0 in
    let sources : s ≡ t = name_cmp_exact s t more.0 in
    let destinations : d ≡ e = name_cmp_exact d e more.1 in
    cc
key_cmp_exact (key.Seq a) (key.Seq b) h = ap (λ of. key.Seq of) (resource_cmp_exact a b h)
key_cmp_exact _ _ h = cc

-- a key ties with itself
pub key_cmp_itself : (a : Key) → key_cmp a a ≡ Equal
key_cmp_itself a = tied_itself key_cmp_total a

-- so does a resource
pub resource_cmp_itself : (a : Resource) → resource_cmp a a ≡ Equal
resource_cmp_itself a = tied_itself resource_cmp_total a

-- and a name
pub name_cmp_itself : (a : List ℕ) → name_cmp a a ≡ Equal
name_cmp_itself a = tied_itself nat_list_cmp_total a

-- an ordering that tests as equal is
pub equal_tests : (o : Ordering) → is_eq o ≡ true → o ≡ Equal
equal_tests Less h = cc
equal_tests Equal h = refl
equal_tests Greater h = cc

-- keys that test as equal are one
pub one_key : (a b : Key) → is_eq (key_cmp a b) ≡ true → a ≡ b
one_key a b h = key_cmp_exact a b (equal_tests (key_cmp a b) h)
