-- The bytes of a stored batch, and of the row before the batches.
use Rattle.std.specs.Prelude.{ℕ, List, [], ◌∷◌, ◌++◌, length, Option, Some, None}
use Rattle.std.specs.List.{flat_map}
use Rattle.alto_rows.specs.Accepted.{Accepted}
use Rattle.alto_rows.specs.Order.{kind_of}
use Rattle.alto_rows.specs.declared.entity.Entity.{Entity}
use Rattle.alto_rows.specs.declared.entity.Entity.TheVariants as entity
use Rattle.alto_rows.specs.declared.key.Key.{Key}
use Rattle.alto_rows.specs.declared.key.Key.TheVariants as key
use Rattle.alto_rows.specs.declared.resource.Resource.{Resource}
use Rattle.alto_rows.specs.declared.resource.Resource.TheVariants as resource
use Rattle.alto_rows.specs.declared.value.Value.{Value}
use Rattle.alto_rows.specs.declared.value.Value.TheVariants as value
use Rattle.alto_rows.specs.declared.write.Write.{Write}
use Rattle.code_bytes.specs.Pieces.{number, name, prefix}

-- an entity: a block as a prefix, or 50 and the name of a PID
abbrev pub entity_bytes : Entity → List ℕ
entity_bytes (entity.Block block) = prefix block
entity_bytes (entity.Pid pid) = 0x50 ∷ name pid

-- a resource: the number of its kind, and its names
abbrev pub resource_bytes : Resource → List ℕ
resource_bytes (resource.Net net) = 0x01 ∷ name net
resource_bytes (resource.Cost net metric) = 0x02 ∷ (name net ++ name metric)
resource_bytes (resource.Prop net) = 0x03 ∷ name net

-- the fields of a key in their order
abbrev pub fields : Key → List ℕ
fields key.Epoch = []
fields key.Window = []
fields (key.Net net) = name net
fields (key.Pid net pid) = name net ++ name pid
fields (key.Prefix net pid block) = (name net ++ name pid) ++ prefix block
fields (key.Metric net metric) = name net ++ name metric
fields (key.Cost net metric source destination) = (name net ++ name metric) ++ (name source ++ name destination)
fields (key.Prop net entity property) = name net ++ (entity_bytes entity ++ name property)
fields (key.Ane net ane) = name net ++ name ane
fields (key.AneProp net ane property) = (name net ++ name ane) ++ name property
fields (key.Path net source destination) = name net ++ (name source ++ name destination)
fields (key.Seq of) = resource_bytes of

-- a value, or a deletion
abbrev pub value_bytes : Option Value → List ℕ
value_bytes None = 0x00 ∷ []
value_bytes (Some value.Unit) = 0x01 ∷ []
value_bytes (Some (value.Num n)) = 0x02 ∷ number 8 n
value_bytes (Some (value.Text text)) = 0x03 ∷ (number 2 (length text) ++ text)
value_bytes (Some (value.Names anes)) = 0x04 ∷ (number 2 (length anes) ++ flat_map name anes)

-- a write: the number of its key's kind, the fields, and the value
abbrev pub write_bytes : Write → List ℕ
write_bytes write = kind_of write.key ∷ (fields write.key ++ value_bytes write.value)

-- a batch: 42, 01, its id, the digest, the moment, how many writes there are, and the writes
abbrev pub batch_bytes : Accepted → List ℕ
batch_bytes batch =
    0x42 ∷ 0x01 ∷ (name batch.id ++ (batch.digest ++ (number 8 batch.moment
    ++ (number 4 (length batch.writes) ++ flat_map write_bytes batch.writes))))

-- the row before the batches: 41, 01, the epoch, and the window
abbrev pub head_bytes : List ℕ → ℕ → List ℕ
head_bytes epoch window = 0x41 ∷ 0x01 ∷ (name epoch ++ number 4 window)
