-- A commit that failed leaves all, and one that didn't is for good.
use Rattle.std.proofs.Common.{◌≡◌, map, vec_items, arith, rules, w64, sym, subst, ◌∙◌}
use Rattle.std.proofs.lemmas.Int.{to_z-of_z}
use Rattle.sqlite.specs.Held.{state}
use Rattle.sqlite.specs.State.{HasCleanDisk}
use Rattle.alto_keeper.specs.Stored.{rebased}
use Rattle.keeper_sqlite.specs.SqlKeeper.{IsClean, IsIdle, IsSettled}
use Rattle.keeper_sqlite.proofs.AddingLemmas.{refused_by, commit_failed}
use Rattle.keeper_sqlite.proofs.CrashLemmas.{ok_once, settled_commit}
use Rattle.keeper_sqlite.proofs.base.replace_base.Goals as goal

pub returns-clause-refused : goal.returns-clause-refused
returns-clause-refused g c =
    let old = c.args.conn.now in
    let last = c.fill.new.tx.conn.now in
    let end = c.commit.new.self.0 in
    let same : end ≡ c.conn-2-1.given.0 = search rules in
    refused_by c.commit.result (λ sure. c.commit.ensures.err
    (subst (λ h. HasCleanDisk (state g.S.Store h)) (sym same) sure.0))
    (λ sure e fails idle.
    let late = subst (λ h. IsClean (state g.S.Store h)) (sym same) sure in
    let early : HasCleanDisk (state g.S.Store last) = omega (arith, late.0, c.commit.ensures.survives.clean) in
    let kept = rw c.transaction-tx.ensures.begun at (c.fill.ensures.kept early) in
    let it = commit_failed _ (state g.S.Store last) (state g.S.Store end) e kept
    (c.in_ok-fill.ensures.inside early) late.1 fails in
    subst (λ h. IsIdle (state g.S.Store h) × ((state g.S.Store h).now ≡ (state g.S.Store old).now)) same
    (it.0, it.1 ∙ sym idle.1))

pub returns-clause-settled : goal.returns-clause-settled
returns-clause-settled g c =
    let last = c.fill.new.tx.conn.now in
    let end = c.commit.new.self.0 in
    let same : end ≡ c.conn-2-1.given.0 = search rules in
    ok_once c.commit.result (λ clean. c.commit.ensures.ok
    (subst (λ h. HasCleanDisk (state g.S.Store h)) (sym same) clean))
    (λ clean done stored holds.
    let late = subst (λ h. HasCleanDisk (state g.S.Store h)) (sym same) clean in
    let early : HasCleanDisk (state g.S.Store last) = omega (arith, late, c.commit.ensures.survives.clean) in
    let filled = rw (to_z-of_z w64 c.args.upto (search rules))
    at (rw c.transaction-tx.ensures.begun at (c.in_ok-fill.ensures.filled early stored)) in
    let moved = rebased (map vec_items c.args.pieces.now) c.args.upto stored in
    subst (λ h. IsSettled (state g.S.Store h) moved) same
    (settled_commit g.S.Store g.met.S.Store.settled last end moved late done.1 (filled holds.1)))
