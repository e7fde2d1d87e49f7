-- The names of the rules of a book, as they are printed.
use Rattle.std.specs.Prelude.{ℕ, List, codes}
use Rattle.batch_check.specs.declared.rule.BookRule.{BookRule}
use Rattle.batch_check.specs.declared.rule.BookRule.TheVariants as rule

-- the name by which clients know a rule
abbrev pub name_of : BookRule → List ℕ
name_of rule.B1 = codes "B1"
name_of rule.B2 = codes "B2"
name_of rule.B3 = codes "B3"
name_of rule.B4 = codes "B4"
name_of rule.B5 = codes "B5"
name_of rule.B6 = codes "B6"
