-- The texts at a place are those of their number.
use Rattle.std.proofs.Common.{ap, sym, subst}
use Rattle.std.specs.Arc.{arc_value}
use Rattle.alto_versions.specs.Followed.{AreTextsAt}
use Rattle.alto_versions.proofs.FollowedLemmas.{texts_found}
use Rattle.alto_versions.proofs.followed.Followed.texts_at.Goals as goal

pub returns-then-deref-number-clause-texts : goal.returns-then-deref-number-clause-texts
returns-then-deref-number-clause-texts g c =
    subst (AreTextsAt c.args.self.now c.args.of.now) (sym c.deref-then-deref-number.ensures)
    (texts_found arc_value c.self.inside.graph c.args.self.now c.self.inside.of c.args.of.now
    c.self.inside.texts.items _
    c.loop-texts.texts-index c.texts-item.result c.self.view_is (c.is_same.result) c.is_same.ensures
    c.if-not-is_same.false
    c.self.invariant.each (ap (λ xs. xs) c.deref-texts-items.ensures.value) c.loop-texts-test.true c.texts-item.is)
