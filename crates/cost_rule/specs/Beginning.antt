-- How far a text begins a constraint, and what is written of the fault of one that is none.
use Rattle.std.specs.Prelude.{ℕ, ◌≤◌, List, ◌++◌, length, take, decimal, codes}
use Rattle.cost_rule.specs.declared.constraint.Constraint.{Constraint}
use Rattle.cost_rule.specs.declared.fault.ConstraintFault.{ConstraintFault}
use Rattle.cost_rule.specs.declared.fault.ConstraintFault.TheVariants.{BadAt}
use Rattle.cost_rule.specs.Grammar.{Spells}

-- some continuation makes the text spell a constraint
pub record BeginsConstraint (text : List ℕ) : Type 0 where
  pub rest : List ℕ
  pub constraint : Constraint
  pub spells : Spells (text ++ rest) constraint

-- so many bytes is the length of the longest prefix that begins a constraint
pub record IsLongestBeginning (text : List ℕ) (place : ℕ) : Type 0 where
  pub within : place ≤ length text
  pub begins : BeginsConstraint (take place text)
  pub longest : (more : ℕ) → more ≤ length text → BeginsConstraint (take more text) → more ≤ place

-- the fault is that of the text
abbrev pub IsFaultOf : List ℕ → ConstraintFault → Type 0
IsFaultOf text (BadAt place) = IsLongestBeginning text place

-- what is written of a fault
abbrev pub fault_text : ConstraintFault → List ℕ
fault_text (BadAt place) = codes "no constraint, from place " ++ decimal place ++ codes " on"
