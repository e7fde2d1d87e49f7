-- Good rows: each value fits its key, what a row names is declared, a prefix has one PID, and declared resources have
-- versions.
use Rattle.std.specs.Prelude.{◌≡◌, ℕ, ◌<◌, ◌≤◌, ◌^◌, ◌-◌, List, [], ◌∷◌, length, map, All, true, Some, IfSome, IsUtf8}
use Rattle.std.specs.Prelude.{⊤}
use Rattle.alto_addr.specs.Bits.{HasBits}
use Rattle.alto_addr.specs.declared.prefix.Prefix.{Prefix}
use Rattle.alto_names.specs.Name.{IsNetName, IsPidName, IsMetric, IsAneName, IsPropName, IsEpoch}
use Rattle.alto_rows.specs.declared.entity.Entity.{Entity}
use Rattle.alto_rows.specs.declared.entity.Entity.TheVariants as entity
use Rattle.alto_rows.specs.declared.key.Key.{Key}
use Rattle.alto_rows.specs.declared.key.Key.TheVariants as key
use Rattle.alto_rows.specs.declared.resource.Resource.{Resource}
use Rattle.alto_rows.specs.declared.resource.Resource.TheVariants as resource
use Rattle.alto_rows.specs.declared.value.Value.{Value}
use Rattle.alto_rows.specs.declared.value.Value.TheVariants as value
use Rattle.alto_rows.specs.Rows.{Rows, AreSorted, value_of, has_row}
use Rattle.alto_rows.specs.Versions.{is_declared}

-- the names of a resource are of their alphabets
abbrev pub IsResource : Resource → Type 0
IsResource (resource.Net net) = IsNetName net
IsResource (resource.Cost net metric) = IsNetName net × IsMetric metric
IsResource (resource.Prop net) = IsNetName net

-- the name of an entity is of its alphabet, and the address of a block as wide as its family
abbrev pub IsEntity : Entity → Type 0
IsEntity (entity.Block block) = HasBits block.addr
IsEntity (entity.Pid pid) = IsPidName pid

-- the names in a key are of their alphabets, and its addresses as wide as their families
abbrev pub IsKey : Key → Type 0
IsKey key.Epoch = ⊤
IsKey key.Window = ⊤
IsKey (key.Net net) = IsNetName net
IsKey (key.Pid net pid) = IsNetName net × IsPidName pid
IsKey (key.Prefix net pid prefix) = IsNetName net × IsPidName pid × HasBits prefix.addr
IsKey (key.Metric net metric) = IsNetName net × IsMetric metric
IsKey (key.Cost net metric source destination) =
    IsNetName net × IsMetric metric × IsPidName source × IsPidName destination
IsKey (key.Prop net entity name) = IsNetName net × IsEntity entity × IsPropName name
IsKey (key.Ane net ane) = IsNetName net × IsAneName ane
IsKey (key.AneProp net ane name) = IsNetName net × IsAneName ane × IsPropName name
IsKey (key.Path net source destination) = IsNetName net × IsPidName source × IsPidName destination
IsKey (key.Seq of) = IsResource of

-- a cost, or the number of a property: one that a float of 64 bits tells from its neighbours
abbrev pub IsAmount : ℕ → Type 0
IsAmount n = n ≤ 2 ^ 53 - 1

-- a value is of the kind and in the range that a key wants
abbrev pub Takes : Key → Value → Type 0
Takes key.Epoch (value.Text text) = IsEpoch text
Takes key.Window (value.Num n) = (2 ≤ n) × (n ≤ 32)
Takes (key.Net net) value.Unit = ⊤
Takes (key.Pid net pid) value.Unit = ⊤
Takes (key.Prefix net pid prefix) value.Unit = ⊤
Takes (key.Metric net metric) value.Unit = ⊤
Takes (key.Cost net metric source destination) (value.Num cost) = IsAmount cost
Takes (key.Prop net entity name) (value.Num n) = IsAmount n
Takes (key.Prop net entity name) (value.Text text) = IsUtf8 text × (length text ≤ 65535)
Takes (key.Ane net ane) value.Unit = ⊤
Takes (key.AneProp net ane name) (value.Num n) = IsAmount n
Takes (key.Path net source destination) (value.Names anes) = All IsAneName anes × (1 ≤ length anes) × (length anes ≤ 64)
Takes (key.Seq of) (value.Num n) = (1 ≤ n) × (n < 2 ^ 63)
Takes _ _ = ⊥

-- a key is well formed, and the value is of its kind and range
abbrev pub Fits : Key → Value → Type 0
Fits at value = IsKey at × Takes at value

-- the keys that declare what an entity names
abbrev pub entity_needs : List ℕ → Entity → List Key
entity_needs net (entity.Block block) = []
entity_needs net (entity.Pid pid) = key.Pid net pid ∷ []

-- the keys that declare the names in a value
abbrev pub value_needs : List ℕ → Value → List Key
value_needs net (value.Names anes) = map (key.Ane net) anes
value_needs net _ = []

-- the keys that declare what a row names: its network, its PIDs, its metric and its abstract network elements
abbrev pub needs : Key → Value → List Key
needs (key.Pid net pid) v = key.Net net ∷ []
needs (key.Prefix net pid prefix) v = key.Net net ∷ key.Pid net pid ∷ []
needs (key.Metric net metric) v = key.Net net ∷ []
needs (key.Cost net metric source destination) v =
    key.Net net ∷ key.Metric net metric ∷ key.Pid net source ∷ key.Pid net destination ∷ []
needs (key.Prop net entity name) v = key.Net net ∷ entity_needs net entity
needs (key.Ane net ane) v = key.Net net ∷ []
needs (key.AneProp net ane name) v = key.Net net ∷ key.Ane net ane ∷ []
needs (key.Path net source destination) v =
    key.Net net ∷ key.Pid net source ∷ key.Pid net destination ∷ value_needs net v
needs _ v = []

-- rows that imports may have led to; a version may outlive its resource, so that its numbers are never used again
pub record AreGood (rows : Rows) : Type 0 where
  pub sorted : AreSorted rows
  pub fit : (at : Key) → IfSome (value_of rows at) (Fits at)
  pub epoch : has_row rows key.Epoch ≡ true
  pub window : has_row rows key.Window ≡ true
  pub declared : (at : Key) (v : Value) → value_of rows at ≡ Some v
      → All (λ need. has_row rows need ≡ true) (needs at v)
  pub one_pid : (net first second : List ℕ) (prefix : Prefix) → has_row rows (key.Prefix net first prefix) ≡ true
      → has_row rows (key.Prefix net second prefix) ≡ true → first ≡ second
  pub versions : (of : Resource) → is_declared rows of ≡ true → has_row rows (key.Seq of) ≡ true
