use Rattle.std.proofs.Common.{◌≡◌, ◌∙◌, ℕ, None, Option, Some, ap, eqb-true, sym, true}
use Rattle.std.proofs.Math.Dec.{eqb}
use Rattle.std.specs.Option.{option_eq}
use Rattle.cost_tables.proofs.ListLemmas.{no_places, places_in}
use Rattle.cost_tables.proofs.places.Places.find.Goals as goal

-- numbers that are equal are the same
same_number : (kept : Option ℕ) (number : ℕ) → option_eq eqb kept (Some number) ≡ true → kept ≡ Some number
same_number None number same = cc
same_number (Some n) number same = ap (λ (n : ℕ). Some n) (eqb-true n number same)

pub returns-then-eq-clause-found : goal.returns-then-eq-clause-found
returns-then-eq-clause-found c =
    ap (λ placed. placed.number) (sym c.self.view_is)
    ∙ (same_number c.self.inside.number c.number-number.result (sym c.eq.ensures ∙ c.if-eq.true)
    ∙ ap (λ (n : ℕ). Some n) c.number-number.ensures)

pub returns-in_err-find-clause-right : goal.returns-in_err-find-clause-right
returns-in_err-find-clause-right c sources test numbers found right = no_places sources _ _

pub returns-clause-right : goal.returns-clause-right
returns-clause-right c sources test numbers found right =
    rw c.number-number.ensures
    (places_in sources test c.args.from.now.1 c.args.destinations.now _ numbers found c.in_ok-find.ensures)
