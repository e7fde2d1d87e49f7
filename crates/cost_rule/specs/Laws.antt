-- What holds of the texts of constraints: the statement of the law.
use Rattle.std.specs.Prelude.{◌≡◌, ◌↔◌, ℕ, List, Some}
use Rattle.cost_rule.specs.declared.constraint.Constraint.{Constraint}
use Rattle.cost_rule.specs.Grammar.{Spells}
use Rattle.cost_rule.specs.Stages.{spelled}

-- the constraint of a text is the one that it spells by the grammar
abbrev pub SpelledByGrammar : Type 0
SpelledByGrammar = (text : List ℕ) (constraint : Constraint) → (spelled text ≡ Some constraint) ↔ Spells text constraint
