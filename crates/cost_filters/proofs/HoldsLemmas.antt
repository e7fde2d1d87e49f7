-- The test of constraints decides what they mean.
use Rattle.std.proofs.Common.{◌≡◌, ◌∙◌, ◌↔◌, ℕ, ◌*◌, refl, sym, arith}
use Rattle.std.proofs.lemmas.Bool.{and_parts, and_from}
use Rattle.std.proofs.lemmas.Bool.Decides.{nat_tests}
use Rattle.std.proofs.lemmas.List.Elements.{All-nil, All-cons, All-head, All-tail}
use Rattle.std.proofs.lemmas.List.Folds.{Any-from_list_any, list_any-from_Any}
use Rattle.std.specs.Prelude.{Bool, true, false, IsTrue, IsSomeAnd, List, [], ◌∷◌, Option, Some, None}
use Rattle.cost_rule.specs.declared.constraint.Constraint.{Constraint}
use Rattle.cost_rule.specs.declared.constraint.Relation.{Relation}
use Rattle.cost_rule.specs.declared.constraint.Relation.TheVariants.{Gt, Lt, Ge, Le, Eq}
use Rattle.cost_rule.specs.Meaning.{Stands, Holds, HoldsOf, AllHold, OneHolds, tested_cost}
use Rattle.cost_filters.specs.Holds.{stands, holds, all_hold, one_holds}

stands_so : (relation : Relation) (number bound : ℕ) → stands relation number bound ≡ true
    → Stands relation number bound
stands_so Gt number bound h = grind (arith, nat_tests)
stands_so Lt number bound h = grind (arith, nat_tests)
stands_so Ge number bound h = grind (arith, nat_tests)
stands_so Le number bound h = grind (arith, nat_tests)
stands_so Eq number bound h = grind (arith, nat_tests)

tests_so : (relation : Relation) (number bound : ℕ) → Stands relation number bound → stands relation number bound ≡ true
tests_so Gt number bound h = grind (arith, nat_tests)
tests_so Lt number bound h = grind (arith, nat_tests)
tests_so Ge number bound h = grind (arith, nat_tests)
tests_so Le number bound h = grind (arith, nat_tests)
tests_so Eq number bound h = grind (arith, nat_tests)

holds_so : (constraint : Constraint) (found : Option ℕ) → holds constraint found ≡ true
    → IsSomeAnd found (Holds constraint)
holds_so constraint (Some cost) h = stands_so constraint.relation (1_000_000 * cost) constraint.millionths h
holds_so constraint None h = cc

test_holds : (constraint : Constraint) (found : Option ℕ) → IsSomeAnd found (Holds constraint)
    → holds constraint found ≡ true
test_holds constraint (Some cost) h = tests_so constraint.relation (1_000_000 * cost) constraint.millionths h
test_holds constraint None h = absurd h

all_so : (costs : List (Option ℕ)) (constraints : List Constraint) → all_hold costs constraints ≡ true
    → AllHold costs constraints
all_so costs [] h = All-nil (HoldsOf costs)
all_so costs (constraint ∷ more) h =
    let parts = and_parts (holds constraint (tested_cost costs constraint)) (all_hold costs more) h in
    All-cons (HoldsOf costs) constraint more (holds_so constraint (tested_cost costs constraint) parts.0)
    (all_so costs more parts.1)

test_all : (costs : List (Option ℕ)) (constraints : List Constraint) → AllHold costs constraints
    → all_hold costs constraints ≡ true
test_all costs [] h = refl
test_all costs (constraint ∷ more) h =
    and_from (holds constraint (tested_cost costs constraint)) (all_hold costs more)
    (test_holds constraint (tested_cost costs constraint) (All-head (HoldsOf costs) constraint more h))
    (test_all costs more (All-tail (HoldsOf costs) constraint more h))

one_so : (costs : List (Option ℕ)) (alternatives : List (List Constraint)) → one_holds costs alternatives ≡ true
    → OneHolds costs alternatives
one_so costs alternatives h =
    let it = Any-from_list_any (all_hold costs) alternatives h in (it.0, it.1, it.2, it.3, all_so costs it.1 it.4)

test_one : (costs : List (Option ℕ)) (alternatives : List (List Constraint)) → OneHolds costs alternatives
    → one_holds costs alternatives ≡ true
test_one costs alternatives it =
    list_any-from_Any (all_hold costs) alternatives (it.0, it.1, it.2, it.3, test_all costs it.1 it.4)

-- what is true exactly where the constraints hold is the test
pub decides : (costs : List (Option ℕ)) (alternatives : List (List Constraint)) (b : Bool)
    → IsTrue b ↔ OneHolds costs alternatives
    → b ≡ one_holds costs alternatives
decides costs alternatives true so = sym (test_one costs alternatives (so.0 refl))
decides costs alternatives false so = by (one_holds costs alternatives) refl
  where
    by : (test : Bool) → one_holds costs alternatives ≡ test → false ≡ one_holds costs alternatives
    by false e = sym e
    by true e = so.1 (one_so costs alternatives e) ∙ sym e
