-- What it is that a constraint holds (RFC 7285, section 11.3.2.3): exactly, in millionths.
use Rattle.std.specs.Prelude.{◌≡◌, ℕ, ◌*◌, ◌<◌, ◌≤◌, List, Option, None, All, Any, IsSomeAnd, slice_get, unwrap_or}
use Rattle.cost_rule.specs.declared.constraint.Constraint.{Constraint}
use Rattle.cost_rule.specs.declared.constraint.Relation.{Relation}
use Rattle.cost_rule.specs.declared.constraint.Relation.TheVariants.{Gt, Lt, Ge, Le, Eq}

-- a number stands in the relation to a bound
abbrev pub Stands : Relation → ℕ → ℕ → Type 0
Stands Gt number bound = bound < number
Stands Lt number bound = number < bound
Stands Ge number bound = bound ≤ number
Stands Le number bound = number ≤ bound
Stands Eq number bound = number ≡ bound

-- the constraint holds of a cost
abbrev pub Holds : Constraint → ℕ → Type 0
Holds constraint cost = Stands constraint.relation (1_000_000 * cost) constraint.millionths

-- the cost that the constraint tests, among those of a pair by index, of which some may be missing
abbrev pub tested_cost : List (Option ℕ) → Constraint → Option ℕ
tested_cost costs constraint = unwrap_or (slice_get costs (unwrap_or constraint.index 0)) None

-- the constraint holds of a pair with these costs; where the tested cost is missing it doesn't
abbrev pub HoldsOf : List (Option ℕ) → Constraint → Type 0
HoldsOf costs constraint = IsSomeAnd (tested_cost costs constraint) (Holds constraint)

-- a list of constraints holds where all hold
abbrev pub AllHold : List (Option ℕ) → List Constraint → Type 0
AllHold costs constraints = All (HoldsOf costs) constraints

-- a list of lists holds where one inner list holds whole
abbrev pub OneHolds : List (Option ℕ) → List (List Constraint) → Type 0
OneHolds costs alternatives = Any (AllHold costs) alternatives
