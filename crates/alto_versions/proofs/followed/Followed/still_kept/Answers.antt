-- The texts that stay are those of their numbers.
use Rattle.std.proofs.Common.{◌∷◌, [], map, sym, subst}
use Rattle.std.proofs.lemmas.List.{map-append}
use Rattle.std.proofs.lemmas.List.Elements.{All-push}
use Rattle.std.specs.Arc.{arc_value}
use Rattle.alto_versions.specs.Followed.{AreTextsAt}
use Rattle.alto_versions.proofs.FollowedLemmas.{texts_found}
use Rattle.alto_versions.proofs.followed.Followed.still_kept.Goals.{then-first-deref+in_ok-try_clone+in_ok-push}
use Rattle.alto_versions.proofs.followed.Followed.still_kept.Goals.{else-first-deref}
use Rattle.alto_versions.proofs.followed.Followed.still_kept.Goals as goal

pub loop-texts-preserved : goal.loop-texts-preserved
loop-texts-preserved g c =
    let P = AreTextsAt c.args.self.now c.args.of.now in
    let here : P (arc_value c.texts-item.result) =
    texts_found arc_value c.self.inside.graph c.args.self.now c.self.inside.of c.args.of.now c.self.inside.texts.items _
    c.loop-texts.texts-index c.texts-item.result c.self.view_is (c.is_same.result) c.is_same.ensures
    c.if-not-is_same.false
    c.self.invariant.each c.deref-texts-items.ensures.value c.loop-texts-test.true c.texts-item.is in
    elim c.if-first-deref.branch [
      | then-first-deref+in_ok-try_clone+in_ok-push w ↦
          rw (
            w.kept-is,
            w.in_ok-push.ensures.items,
            map-append arc_value c.loop-texts.kept.items
                (w.in_ok-try_clone.field-0 ∷ []),
          )
          (All-push P (map arc_value c.loop-texts.kept.items) (arc_value w.in_ok-try_clone.field-0)
          c.loop-texts.invariant
          (subst P (sym w.in_ok-try_clone.ensures) here))
      | else-first-deref w ↦ rw w.kept-is c.loop-texts.invariant
    ]
