-- Which constraints hold of the costs of a pair, as a test.
use Rattle.std.specs.Prelude.{ℕ, ◌*◌, nat_eq, nat_le, nat_lt, List, Bool, false, Option, Some, None}
use Rattle.std.specs.List.{list_all, list_any}
use Rattle.cost_rule.specs.declared.constraint.Constraint.{Constraint}
use Rattle.cost_rule.specs.declared.constraint.Relation.{Relation}
use Rattle.cost_rule.specs.declared.constraint.Relation.TheVariants.{Gt, Lt, Ge, Le, Eq}
use Rattle.cost_rule.specs.Meaning.{tested_cost}

-- a number stands in the relation to a bound
abbrev pub stands : Relation → ℕ → ℕ → Bool
stands Gt number bound = nat_lt bound number
stands Lt number bound = nat_lt number bound
stands Ge number bound = nat_le bound number
stands Le number bound = nat_le number bound
stands Eq number bound = nat_eq number bound

-- the constraint holds of a cost, in millionths; of a missing one it doesn't
abbrev pub holds : Constraint → Option ℕ → Bool
holds constraint (Some cost) = stands constraint.relation (1_000_000 * cost) constraint.millionths
holds constraint None = false

-- all constraints of a list hold of a pair with these costs
abbrev pub all_hold : List (Option ℕ) → List Constraint → Bool
all_hold costs constraints = list_all (λ constraint. holds constraint (tested_cost costs constraint)) constraints

-- all constraints of one of the lists do
abbrev pub one_holds : List (Option ℕ) → List (List Constraint) → Bool
one_holds costs alternatives = list_any (all_hold costs) alternatives
