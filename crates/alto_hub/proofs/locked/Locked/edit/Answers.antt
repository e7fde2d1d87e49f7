use Rattle.std.proofs.Common.{◌≡◌, ◌++◌, [], ◌∷◌, Err, refl, ap, ◌∙◌, inl, inr}
use Rattle.std.proofs.lemmas.Result.{err_from_is_err_and}
use Rattle.alto_hub.proofs.EventLemmas.{lost_entered, lost_unentered, seat_accepted, seat_refused, sees_so}
use Rattle.alto_hub.proofs.EventLemmas.{stays_entered, stays_unentered, uncounted}
use Rattle.alto_hub.proofs.LockLemmas.{goes_refused, owes, shows}
use Rattle.alto_hub.proofs.locked.Locked.edit.Goals as goal

pub enter-requires : goal.enter-requires
enter-requires g c = c.self.invariant.0.named

pub accept-requires : goal.accept-requires
accept-requires g c = c.requires

pub learn-requires : goal.learn-requires
learn-requires g c = c.self-2.invariant.0.named

-- ---- what was owed isn't published

pub returns-in_err-publish-clause-goes : goal.returns-in_err-publish-clause-goes
returns-in_err-publish-clause-goes g c =
    let p = err_from_is_err_and c.from_residual.result c.from_residual.ensures.1 in
    rw (p.1, p.2) (inl c.in_err-publish.ensures)

pub returns-in_err-publish-clause-answered : goal.returns-in_err-publish-clause-answered
returns-in_err-publish-clause-answered g c =
    let p = err_from_is_err_and c.from_residual.result c.from_residual.ensures.1 in
    λ other. absurd (other (rw (p.1, p.2) refl))

pub returns-in_err-publish-clause-lost : goal.returns-in_err-publish-clause-lost
returns-in_err-publish-clause-lost g c = λ out waits. lost_unentered g.J.Naming.opening c.args.place.now
    c.args.submission waits c.args.tally.now.count

pub returns-in_err-publish-clause-stays : goal.returns-in_err-publish-clause-stays
returns-in_err-publish-clause-stays g c = λ out. stays_unentered g.J.Naming.opening c.args.place.now c.eye-eye.ensures

-- ---- the book isn't entered

pub returns-in_err-enter-clause-goes : goal.returns-in_err-enter-clause-goes
returns-in_err-enter-clause-goes g c =
    let p = err_from_is_err_and c.from_residual-in_err-enter.result c.from_residual-in_err-enter.ensures.1 in
    rw (p.1, p.2) (inr (inl c.in_ok-publish.ensures))

pub returns-in_err-enter-clause-answered : goal.returns-in_err-enter-clause-answered
returns-in_err-enter-clause-answered g c =
    let p = err_from_is_err_and c.from_residual-in_err-enter.result c.from_residual-in_err-enter.ensures.1 in
    λ other. absurd (other (rw (p.1, p.2) refl))

pub returns-in_err-enter-clause-lost : goal.returns-in_err-enter-clause-lost
returns-in_err-enter-clause-lost g c = λ out waits.
    rw c.in_err-enter.ensures (lost_unentered g.J.Naming.opening c.args.place.now c.args.submission waits
    c.args.tally.now.count)

pub returns-in_err-enter-clause-stays : goal.returns-in_err-enter-clause-stays
returns-in_err-enter-clause-stays g c =
    λ out. rw c.in_err-enter.ensures (stays_unentered g.J.Naming.opening c.args.place.now c.eye-eye.ensures)

-- ---- the import isn't accepted

pub returns-in_err-receipt-clause-goes : goal.returns-in_err-receipt-clause-goes
returns-in_err-receipt-clause-goes g c =
    let p = err_from_is_err_and c.from_residual-in_err-receipt.result c.from_residual-in_err-receipt.ensures.1 in
    rw (p.1, p.2) (goes_refused c.args.self.now c.publish.new.self _ c.args.submission _ c.in_ok-publish.ensures
    c.in_err-receipt.ensures.unchanged)

pub returns-in_err-receipt-clause-answered : goal.returns-in_err-receipt-clause-answered
returns-in_err-receipt-clause-answered g c =
    let p = err_from_is_err_and c.from_residual-in_err-receipt.result c.from_residual-in_err-receipt.ensures.1 in
    let entry = sees_so _ _ _ _ _ _ (ap (λ logs. logs.log) c.self.view_is) c.in_ok-enter.ensures in
    rw (p.1, p.2) (λ other waits. seat_refused _ _ _ _ c.args.submission _ waits _ _ entry c.requires
    c.in_err-receipt.ensures.err c.in_err-receipt.ensures.tally
    (λ is. other (ap (λ why. Err why) is)))

pub returns-in_err-receipt-clause-lost : goal.returns-in_err-receipt-clause-lost
returns-in_err-receipt-clause-lost g c =
    let p = err_from_is_err_and c.from_residual-in_err-receipt.result c.from_residual-in_err-receipt.ensures.1 in
    let entry = sees_so _ _ _ _ _ _ (ap (λ logs. logs.log) c.self.view_is) c.in_ok-enter.ensures in
    rw (p.1, p.2) (λ out waits. lost_entered _ _ _ _ c.args.submission waits _ _ entry
    (uncounted _ _ _ out c.in_err-receipt.ensures.tally))

pub returns-in_err-receipt-clause-stays : goal.returns-in_err-receipt-clause-stays
returns-in_err-receipt-clause-stays g c = λ out. stays_entered _ _ _ _ c.in_ok-enter.ensures

-- ---- what was accepted isn't published

pub returns-in_err-publish-2-clause-goes : goal.returns-in_err-publish-2-clause-goes
returns-in_err-publish-2-clause-goes g c =
    let p = err_from_is_err_and c.from_residual-in_err-publish-2.result c.from_residual-in_err-publish-2.ensures.1 in
    rw (p.1, p.2) (inr (inr (inl (c.in_err-publish-2.ensures
    ∙ owes c.args.self.now c.publish.new.self c.accept.new.self c.args.submission c.in_ok-publish.ensures
    c.in_ok-receipt.ensures.accepted))))

pub returns-in_err-publish-2-clause-answered : goal.returns-in_err-publish-2-clause-answered
returns-in_err-publish-2-clause-answered g c =
    let p = err_from_is_err_and c.from_residual-in_err-publish-2.result c.from_residual-in_err-publish-2.ensures.1 in
    λ other. absurd (other (rw (p.1, p.2) refl))

pub returns-in_err-publish-2-clause-lost : goal.returns-in_err-publish-2-clause-lost
returns-in_err-publish-2-clause-lost g c = λ out waits.
    lost_entered _ _ _ _ c.args.submission waits _ _ c.in_ok-enter.ensures c.in_ok-receipt.ensures.tally

pub returns-in_err-publish-2-clause-stays : goal.returns-in_err-publish-2-clause-stays
returns-in_err-publish-2-clause-stays g c = λ out. stays_entered _ _ _ _ c.in_ok-enter.ensures

-- ---- the place doesn't learn of it

pub returns-in_err-learn-clause-goes : goal.returns-in_err-learn-clause-goes
returns-in_err-learn-clause-goes g c =
    let p = err_from_is_err_and c.from_residual-in_err-learn.result c.from_residual-in_err-learn.ensures.1 in
    rw (p.1, p.2) (inr (inr (inr
    (shows c.args.self.now c.publish.new.self c.accept.new.self _ c.args.submission c.in_ok-publish.ensures
    c.in_ok-receipt.ensures.accepted c.in_ok-publish-2.ensures))))

pub returns-in_err-learn-clause-answered : goal.returns-in_err-learn-clause-answered
returns-in_err-learn-clause-answered g c =
    let p = err_from_is_err_and c.from_residual-in_err-learn.result c.from_residual-in_err-learn.ensures.1 in
    λ other. absurd (other (rw (p.1, p.2) refl))

pub returns-in_err-learn-clause-lost : goal.returns-in_err-learn-clause-lost
returns-in_err-learn-clause-lost g c = λ out waits.
    rw c.in_err-learn.ensures (lost_entered _ _ _ _ c.args.submission waits _ _ c.in_ok-enter.ensures
    c.in_ok-receipt.ensures.tally)

pub returns-in_err-learn-clause-stays : goal.returns-in_err-learn-clause-stays
returns-in_err-learn-clause-stays g c = λ out. rw c.in_err-learn.ensures (stays_entered _ _ _ _ c.in_ok-enter.ensures)

-- ---- accepted

pub returns-clause-goes : goal.returns-clause-goes
returns-clause-goes g c =
    shows c.args.self.now c.publish.new.self c.accept.new.self _ c.args.submission c.in_ok-publish.ensures
    c.in_ok-receipt.ensures.accepted c.in_ok-publish-2.ensures

pub returns-clause-answered : goal.returns-clause-answered
returns-clause-answered g c =
    let entry = sees_so _ _ _ _ _ _ (ap (λ logs. logs.log) c.self.view_is) c.in_ok-enter.ensures in
    let log : c.self-2.inside.mark.log ≡ c.publish.new.self.log ++ c.args.submission ∷ [] =
    ap (λ logs. logs.log) c.self-2.view_is
    ∙ (ap (λ logs. logs.log) c.in_ok-publish-2.ensures ∙ ap (λ logs. logs.log) c.in_ok-receipt.ensures.accepted) in
    let lesson = sees_so _ _ _ _ _ _ log c.in_ok-learn.ensures in
    λ other waits. seat_accepted _ _ _ _ _ c.args.submission _ waits _ _ entry lesson c.requires
    c.in_ok-receipt.ensures.ok c.in_ok-receipt.ensures.tally

pub returns-clause-lost : goal.returns-clause-lost
returns-clause-lost g c = λ out. absurd (cc out)

pub returns-clause-stays : goal.returns-clause-stays
returns-clause-stays g c = λ out. absurd (cc out)
