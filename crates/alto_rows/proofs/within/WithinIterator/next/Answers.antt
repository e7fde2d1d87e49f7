-- One row less is known to be in the span, and none behind a row outside.
use Rattle.std.proofs.Common.{◌≡◌, ℕ, ◌∷◌, ◌∙◌, sym, subst, arith}
use Rattle.alto_rows.specs.Rows.{Rows}
use Rattle.alto_rows.specs.Within.{ComeFirst, IsWithin}
use Rattle.alto_rows.proofs.AheadLemmas.{known_behind, outside_behind}
use Rattle.alto_rows.proofs.within.WithinIterator.next.Goals as goal

pub invariant_of-self-then-self-gt0 : goal.invariant_of-self-then-self-gt0
invariant_of-self-then-self-gt0 g c =
    known_behind c.self.inside.span c.in_ok-row.row.now c.next.new.self c.self.inside.known c.if-self-gt0.true
    (subst (λ (rows : Rows). IsWithin c.self.inside.span rows c.self.inside.known) c.in_ok-row.ensures.steps
    c.self.invariant)

pub invariant_of-self-then-not-contains : goal.invariant_of-self-then-not-contains
invariant_of-self-then-not-contains g c =
    let none : c.self.inside.known ≡ 0 = omega (arith, c.if-self-gt0.false) in
    let first : ComeFirst c.self.inside.span (c.in_ok-row.row.now ∷ c.next.new.self) =
    subst (λ (rows : Rows). ComeFirst c.self.inside.span rows) c.in_ok-row.ensures.steps c.self.invariant.first in
    subst (λ (known : ℕ). IsWithin c.self.inside.span c.next.new.self known) (sym none)
    (outside_behind c.self.inside.span c.in_ok-row.row.now c.next.new.self (sym c.contains.ensures
    ∙ c.if-not-contains.true) first)
