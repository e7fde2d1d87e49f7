-- The order of keys: by kind, then by the fields, names by their bytes.
use Rattle.std.specs.Prelude.{ℕ, List, Bool, nat_eq}
use Rattle.std.specs.declared.cmp.Ordering.{Ordering}
use Rattle.std.specs.Ordering.{nat_cmp, ordering_then}
use Rattle.std.specs.declared.cmp.Ordering.TheVariants.{Equal}
use Rattle.std.specs.Cmp.Lexicographic.{slice_cmp, pointwise}
use Rattle.alto_addr.specs.Order.{prefix_cmp}
use Rattle.alto_rows.specs.declared.entity.Entity.{Entity}
use Rattle.alto_rows.specs.declared.entity.Entity.TheVariants as entity
use Rattle.alto_rows.specs.declared.key.Key.{Key}
use Rattle.alto_rows.specs.declared.key.Key.TheVariants as key
use Rattle.alto_rows.specs.declared.resource.Resource.{Resource}
use Rattle.alto_rows.specs.declared.resource.Resource.TheVariants as resource

-- two names are one
abbrev pub same_name : List ℕ → List ℕ → Bool
same_name a b = pointwise nat_eq a b

-- names by their bytes
abbrev pub name_cmp : List ℕ → List ℕ → Ordering
name_cmp a b = slice_cmp nat_cmp a b

-- the number of a kind of entity
abbrev pub entity_kind : Entity → ℕ
entity_kind (entity.Block block) = 1
entity_kind (entity.Pid pid) = 2

-- entities of one kind by what they name
abbrev pub entity_fields_cmp : Entity → Entity → Ordering
entity_fields_cmp (entity.Block a) (entity.Block b) = prefix_cmp a b
entity_fields_cmp (entity.Pid a) (entity.Pid b) = name_cmp a b
entity_fields_cmp _ _ = Equal

-- blocks before PIDs
unfoldable pub entity_cmp : Entity → Entity → Ordering
entity_cmp a b = ordering_then (nat_cmp (entity_kind a) (entity_kind b)) (entity_fields_cmp a b)

-- the number of a kind of resource
abbrev pub resource_kind : Resource → ℕ
resource_kind (resource.Net net) = 1
resource_kind (resource.Cost net metric) = 2
resource_kind (resource.Prop net) = 3

-- the network of a resource
abbrev pub net_of : Resource → List ℕ
net_of (resource.Net net) = net
net_of (resource.Cost net metric) = net
net_of (resource.Prop net) = net

-- resources of one kind by network, then by metric
abbrev pub resource_fields_cmp : Resource → Resource → Ordering
resource_fields_cmp (resource.Net a) (resource.Net b) = name_cmp a b
resource_fields_cmp (resource.Cost a m) (resource.Cost b n) = ordering_then (name_cmp a b) (name_cmp m n)
resource_fields_cmp (resource.Prop a) (resource.Prop b) = name_cmp a b
resource_fields_cmp _ _ = Equal

-- resources by kind, then by their fields
unfoldable pub resource_cmp : Resource → Resource → Ordering
resource_cmp a b = ordering_then (nat_cmp (resource_kind a) (resource_kind b)) (resource_fields_cmp a b)

-- the number of a kind of key
abbrev pub kind_of : Key → ℕ
kind_of key.Epoch = 1
kind_of key.Window = 2
kind_of (key.Net net) = 3
kind_of (key.Pid net pid) = 4
kind_of (key.Prefix net pid prefix) = 5
kind_of (key.Metric net metric) = 6
kind_of (key.Cost net metric source destination) = 7
kind_of (key.Prop net entity name) = 8
kind_of (key.Ane net ane) = 9
kind_of (key.AneProp net ane name) = 10
kind_of (key.Path net source destination) = 11
kind_of (key.Seq of) = 12

-- keys of one kind by their fields
abbrev pub fields_cmp : Key → Key → Ordering
fields_cmp (key.Net a) (key.Net b) = name_cmp a b
fields_cmp (key.Pid a p) (key.Pid b q) = ordering_then (name_cmp a b) (name_cmp p q)
fields_cmp (key.Prefix a p x) (key.Prefix b q y) =
    ordering_then (name_cmp a b) (ordering_then (name_cmp p q) (prefix_cmp x y))
fields_cmp (key.Metric a m) (key.Metric b n) = ordering_then (name_cmp a b) (name_cmp m n)
fields_cmp (key.Cost a m s d) (key.Cost b n t e) =
    ordering_then (name_cmp a b) (ordering_then (name_cmp m n) (ordering_then (name_cmp s t) (name_cmp d e)))
fields_cmp (key.Prop a x p) (key.Prop b y q) =
    ordering_then (name_cmp a b) (ordering_then (entity_cmp x y) (name_cmp p q))
fields_cmp (key.Ane a x) (key.Ane b y) = ordering_then (name_cmp a b) (name_cmp x y)
fields_cmp (key.AneProp a x p) (key.AneProp b y q) =
    ordering_then (name_cmp a b) (ordering_then (name_cmp x y) (name_cmp p q))
fields_cmp (key.Path a s d) (key.Path b t e) =
    ordering_then (name_cmp a b) (ordering_then (name_cmp s t) (name_cmp d e))
fields_cmp (key.Seq a) (key.Seq b) = resource_cmp a b
fields_cmp _ _ = Equal

-- keys by kind, then by their fields
unfoldable pub key_cmp : Key → Key → Ordering
key_cmp a b = ordering_then (nat_cmp (kind_of a) (kind_of b)) (fields_cmp a b)
