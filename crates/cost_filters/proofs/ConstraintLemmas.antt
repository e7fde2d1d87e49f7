-- Reading a constraint against the grammar of constraints, and lists that aren't empty.
use Rattle.std.proofs.Common.{◌≡◌, ℕ, List, [], ◌∷◌, Option, Some, None, Result, Ok, Err, IfOk, refl, sym, length}
use Rattle.std.proofs.Common.{nat_eq, false}
use Rattle.std.specs.Result.{result_ok}
use Rattle.json_tree.specs.declared.tree.Tree.{Tree}
use Rattle.json_tree.specs.Tree.{items_data}
use Rattle.cost_rule.specs.declared.constraint.Constraint.{Constraint}
use Rattle.cost_rule.specs.declared.fault.ConstraintFault.{ConstraintFault}
use Rattle.cost_rule.specs.Grammar.{Spells}
use Rattle.cost_rule.specs.Stages.{spelled}
use Rattle.cost_rule.proofs.Complete.{read-spelled}
use Rattle.cost_rule.proofs.Sound.{spelled-read}
use Rattle.cost_filters.specs.Constraints.{no_lists, or_field}
use Rattle.cost_filters.specs.Fields.{wrong_value}

-- what is read of a text is what it spells
pub read_as_spelled : (text : List ℕ) (read : Result Constraint ConstraintFault) → IfOk read (Spells text)
    → ((constraint : Constraint) → Spells text constraint → read ≡ Ok constraint)
    → result_ok read ≡ spelled text
read_as_spelled text (Ok constraint) spells only = sym (read-spelled text constraint spells)
read_as_spelled text (Err fault) spells only = by (spelled text) refl
  where
    by : (found : Option Constraint) → spelled text ≡ found → None ≡ spelled text
    by None e = sym e
    by (Some constraint) e = let ok : Err fault ≡ Ok constraint = only constraint (spelled-read text constraint e) in cc

-- a list with an item is a fault
pub lists_fault : (trees : List Tree) → nat_eq (length trees) 0 ≡ false
    → no_lists (items_data trees) ≡ Err (wrong_value or_field)
lists_fault [] some = cc
lists_fault (tree ∷ trees) some = refl
