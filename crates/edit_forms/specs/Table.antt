-- The operations of an import with their columns, which are read from left to right up to the first with a fault.
use Rattle.std.specs.Prelude.{◌≡◌, ℕ, suc, List, [], ◌∷◌, Result, Ok, Err, Some}
use Rattle.alto_addr.specs.declared.prefix.Prefix.{Prefix}
use Rattle.alto_names.specs.Name.{is_net_byte, is_pid_byte, is_metric_byte}
use Rattle.alto_rows.specs.declared.entity.Entity.{Entity}
use Rattle.alto_rows.specs.Entities.{WritesEntity}
use Rattle.alto_edits.specs.declared.edit.Edit.{Edit}
use Rattle.alto_edits.specs.declared.edit.Edit.TheVariants as edit
use Rattle.alto_edits.specs.declared.edit.PropValue.{PropValue}
use Rattle.edit_forms.specs.declared.operation.Operation.{Operation}
use Rattle.edit_forms.specs.declared.operation.Operation.TheVariants as op
use Rattle.edit_forms.specs.declared.value_kind.ValueKind.{ValueKind}
use Rattle.edit_forms.specs.Columns.{WritesName, WritesPrefix, WritesAmount, WritesKind, WritesValue, WritesBandwidth}
use Rattle.edit_forms.specs.Columns.{WritesAnes}
use Rattle.edit_forms.specs.Operations.{operation_in}

-- what is read behind a column, given its value
abbrev pub Behind : Type 0 → Type 1
Behind A = A → Result Edit ℕ → Type 0

-- a column with a value, and what is read with it; or a column without one, which is the fault
pub data Then {A : Type 0} (column : ℕ) (Writes : A → Type 0) (Rest : Behind A) (read : Result Edit ℕ) : Type 0 where
  reads : (value : A) → Writes value → Rest value read → Then column Writes Rest read
  fails : ((value : A) → ¬ (Writes value)) → read ≡ Err column → Then column Writes Rest read

-- a column with the name of a network
abbrev pub ThenNet : ℕ → List ℕ → Behind (List ℕ) → Result Edit ℕ → Type 0
ThenNet column text rest = Then column (WritesName is_net_byte 24 text) rest

-- a column with the name of a PID
abbrev pub ThenPid : ℕ → List ℕ → Behind (List ℕ) → Result Edit ℕ → Type 0
ThenPid column text rest = Then column (WritesName is_pid_byte 64 text) rest

-- a column with the name of a metric
abbrev pub ThenMetric : ℕ → List ℕ → Behind (List ℕ) → Result Edit ℕ → Type 0
ThenMetric column text rest = Then column (WritesName is_metric_byte 32 text) rest

-- a column with the name of a property
abbrev pub ThenProp : ℕ → List ℕ → Behind (List ℕ) → Result Edit ℕ → Type 0
ThenProp column text rest = Then column (WritesName is_metric_byte 32 text) rest

-- a column with the name of an abstract network element
abbrev pub ThenAne : ℕ → List ℕ → Behind (List ℕ) → Result Edit ℕ → Type 0
ThenAne column text rest = Then column (WritesName is_pid_byte 32 text) rest

-- a column with the name of the one property of an abstract network element
abbrev pub ThenBandwidth : ℕ → List ℕ → Behind (List ℕ) → Result Edit ℕ → Type 0
ThenBandwidth column text rest = Then column (WritesBandwidth text) rest

-- a column with a prefix
abbrev pub ThenPrefix : ℕ → List ℕ → Behind Prefix → Result Edit ℕ → Type 0
ThenPrefix column text rest = Then column (WritesPrefix text) rest

-- a column with an entity of a network
abbrev pub ThenEntity : ℕ → (net text : List ℕ) → Behind Entity → Result Edit ℕ → Type 0
ThenEntity column net text rest = Then column (WritesEntity net text) rest

-- a column with a cost or a number of a property
abbrev pub ThenAmount : ℕ → List ℕ → Behind ℕ → Result Edit ℕ → Type 0
ThenAmount column text rest = Then column (WritesAmount text) rest

-- a column with the kind of a property's value
abbrev pub ThenKind : ℕ → List ℕ → Behind ValueKind → Result Edit ℕ → Type 0
ThenKind column text rest = Then column (WritesKind text) rest

-- a column with a property's value of a kind
abbrev pub ThenValue : ℕ → ValueKind → List ℕ → Behind PropValue → Result Edit ℕ → Type 0
ThenValue column kind text rest = Then column (WritesValue kind text) rest

-- a column with names of abstract network elements
abbrev pub ThenAnes : ℕ → List ℕ → Behind (List (List ℕ)) → Result Edit ℕ → Type 0
ThenAnes column text rest = Then column (WritesAnes text) rest

-- an edit behind columns that hold nothing, the first of which has this number
abbrev pub unless_filled : ℕ → List (List ℕ) → Edit → Result Edit ℕ
unless_filled column [] made = Ok made
unless_filled column ([] ∷ more) made = unless_filled (suc column) more made
unless_filled column ((byte ∷ text) ∷ more) made = Err column

-- the columns that are left hold nothing
abbrev pub Ends : ℕ → List (List ℕ) → Edit → Result Edit ℕ → Type 0
Ends column texts made read = read ≡ unless_filled column texts made

-- what each operation's columns hold, and the edit that they make
abbrev pub Reads : Operation → (net a b c d : List ℕ) → Result Edit ℕ → Type 0
Reads op.NetAdd net a b c d = Ends 3 (a ∷ b ∷ c ∷ d ∷ []) (edit.NetAdd net)
Reads op.NetDrop net a b c d = Ends 3 (a ∷ b ∷ c ∷ d ∷ []) (edit.NetDrop net)
Reads op.PidAdd net a b c d = ThenPid 3 a λ pid. Ends 4 (b ∷ c ∷ d ∷ []) (edit.PidAdd net pid)
Reads op.PidDrop net a b c d = ThenPid 3 a λ pid. Ends 4 (b ∷ c ∷ d ∷ []) (edit.PidDrop net pid)
Reads op.PrefixPut net a b c d =
    ThenPid 3 a λ pid. ThenPrefix 4 b λ prefix. Ends 5 (c ∷ d ∷ []) (edit.PrefixPut net pid prefix)
Reads op.PrefixDel net a b c d =
    ThenPid 3 a λ pid. ThenPrefix 4 b λ prefix. Ends 5 (c ∷ d ∷ []) (edit.PrefixDel net pid prefix)
Reads op.MetricAdd net a b c d = ThenMetric 3 a λ metric. Ends 4 (b ∷ c ∷ d ∷ []) (edit.MetricAdd net metric)
Reads op.MetricDrop net a b c d = ThenMetric 3 a λ metric. Ends 4 (b ∷ c ∷ d ∷ []) (edit.MetricDrop net metric)
Reads op.CostPut net a b c d =
    ThenMetric 3 a λ metric. ThenPid 4 b λ source. ThenPid 5 c λ destination. ThenAmount 6 d λ cost.
    Ends 7 [] (edit.CostPut net metric source destination cost)
Reads op.CostDel net a b c d =
    ThenMetric 3 a λ metric. ThenPid 4 b λ source. ThenPid 5 c λ destination.
    Ends 6 (d ∷ []) (edit.CostDel net metric source destination)
Reads op.PropPut net a b c d =
    ThenEntity 3 net a λ entity. ThenProp 4 b λ name. ThenKind 5 c λ kind. ThenValue 6 kind d λ value.
    Ends 7 [] (edit.PropPut net entity name value)
Reads op.PropDel net a b c d =
    ThenEntity 3 net a λ entity. ThenProp 4 b λ name. Ends 5 (c ∷ d ∷ []) (edit.PropDel net entity name)
Reads op.AneAdd net a b c d = ThenAne 3 a λ ane. Ends 4 (b ∷ c ∷ d ∷ []) (edit.AneAdd net ane)
Reads op.AneSet net a b c d =
    ThenAne 3 a λ ane. ThenBandwidth 4 b λ name. ThenAmount 5 c λ number.
    Ends 6 (d ∷ []) (edit.AneSet net ane name number)
Reads op.PathPut net a b c d =
    ThenPid 3 a λ source. ThenPid 4 b λ destination. ThenAnes 5 c λ anes.
    Ends 6 (d ∷ []) (edit.PathPut net source destination anes)
Reads op.PathDel net a b c d =
    ThenPid 3 a λ source. ThenPid 4 b λ destination. Ends 5 (c ∷ d ∷ []) (edit.PathDel net source destination)

-- the operation, its network, and what the operation's columns hold
abbrev pub ColumnsRead : (op net a b c d : List ℕ) → Result Edit ℕ → Type 0
ColumnsRead op net a b c d =
    Then 1 (λ operation. operation_in op ≡ Some operation) λ operation.
    ThenNet 2 net λ net. Reads operation net a b c d
