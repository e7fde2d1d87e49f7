-- What bodies are read as.
use Rattle.std.proofs.Common.{◌≡◌, ℕ, List, Some, None, Result, Ok, ap, subst, ◌∙◌}
use Rattle.std.specs.Result.{result_ok}
use Rattle.serde_json.specs.Data.{Data}
use Rattle.json_tree.specs.declared.fault.TreeFault.{TreeFault}
use Rattle.json_patch.specs.OperationList.{IsFaultOf, operations_data, SaysAll}
use Rattle.json_patch.specs.Operations.{Operation}
use Rattle.json_patch.specs.declared.operations.ops_fault.OpsFault.{OpsFault}
use Rattle.json_patch.specs.declared.operations.ops_fault.OpsFault.TheVariants.{BadOp}
use Rattle.json_patch.proofs.OperationListLemmas.{read_back}

-- a text that stands for a value is read
pub is_read : (value : Result Data TreeFault) (d : Data) → None ≡ result_ok value → value ≡ Ok d → ⊥
is_read value d none is = let some : None ≡ Some d = none ∙ ap result_ok is in cc

-- as that value
pub read_as : (value : Result Data TreeFault) (d e : Data) → Some e ≡ result_ok value → value ≡ Ok d → e ≡ d
read_as value d e read is = let some : Some e ≡ Some d = read ∙ ap result_ok is in cc

-- operations are read of what is written of them
pub said_once : (said : Data) (changes others : List Operation) → said ≡ operations_data changes → SaysAll said others
    → others ≡ changes
said_once said changes others is says = (read_back changes).only others (subst (λ d. SaysAll d others) is says)

-- and it is at no fault
pub no_fault : (said : Data) (changes : List Operation) (fault : OpsFault) (k : ℕ) → said ≡ operations_data changes
    → fault ≡ BadOp k → IsFaultOf said fault → ⊥
no_fault said changes fault k is bad at =
    (read_back changes).no_fault k (subst (λ d. IsFaultOf d (BadOp k)) is (subst (λ f. IsFaultOf said f) bad at))
