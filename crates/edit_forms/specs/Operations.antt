-- The operations of an import, and their names.
use Rattle.std.specs.Prelude.{ℕ, Bool, List, [], ◌∷◌, Option, codes, nat_eq}
use Rattle.std.specs.Cmp.Lexicographic.{pointwise}
use Rattle.std.specs.List.{find}
use Rattle.edit_forms.specs.declared.operation.Operation.{Operation}
use Rattle.edit_forms.specs.declared.operation.Operation.TheVariants as operation

-- two texts are one
abbrev pub same_text : List ℕ → List ℕ → Bool
same_text a b = pointwise nat_eq a b

-- the name of an operation
abbrev pub operation_name : Operation → List ℕ
operation_name operation.NetAdd = codes "net-add"
operation_name operation.NetDrop = codes "net-drop"
operation_name operation.PidAdd = codes "pid-add"
operation_name operation.PidDrop = codes "pid-drop"
operation_name operation.PrefixPut = codes "prefix-put"
operation_name operation.PrefixDel = codes "prefix-del"
operation_name operation.MetricAdd = codes "metric-add"
operation_name operation.MetricDrop = codes "metric-drop"
operation_name operation.CostPut = codes "cost-put"
operation_name operation.CostDel = codes "cost-del"
operation_name operation.PropPut = codes "prop-put"
operation_name operation.PropDel = codes "prop-del"
operation_name operation.AneAdd = codes "ane-add"
operation_name operation.AneSet = codes "ane-set"
operation_name operation.PathPut = codes "path-put"
operation_name operation.PathDel = codes "path-del"

-- every operation
abbrev pub operations : List Operation
operations =
    operation.NetAdd ∷ operation.NetDrop ∷ operation.PidAdd ∷ operation.PidDrop
    ∷ operation.PrefixPut ∷ operation.PrefixDel ∷ operation.MetricAdd ∷ operation.MetricDrop
    ∷ operation.CostPut ∷ operation.CostDel ∷ operation.PropPut ∷ operation.PropDel
    ∷ operation.AneAdd ∷ operation.AneSet ∷ operation.PathPut ∷ operation.PathDel ∷ []

-- the operation that a text names
abbrev pub operation_in : List ℕ → Option Operation
operation_in text = find (λ operation. same_text (operation_name operation) text) operations
