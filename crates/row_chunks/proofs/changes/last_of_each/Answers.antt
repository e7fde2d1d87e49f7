-- With no change left, the last of each key are there.
use Rattle.std.proofs.Common.{◌≡◌, ap, sym, ◌∙◌, subst, rules}
use Rattle.alto_rows.specs.Changes.{Changes, AreOrdered, changed}
use Rattle.row_chunks.proofs.LastLemmas.{changed_last, last_changes, last_ended, ordered_last, rise_sorted}
use Rattle.row_chunks.proofs.changes.last_of_each.Goals as goal

pub returns-clause-same : goal.returns-clause-same
returns-clause-same c = λ rows s.
    let changes = c.args.changes.now in
    let all : c.loop-at.last.items ≡ last_changes changes =
    last_ended c.loop-at.last.items (last_changes changes) changes c.loop-at.at
    (search (rules, c.loop-at-test.false)) c.loop-at.invariant in
    ap (λ (last : Changes). changed rows last) all ∙ changed_last changes (rise_sorted changes c.requires) rows s

pub returns-clause-ordered : goal.returns-clause-ordered
returns-clause-ordered c =
    let changes = c.args.changes.now in
    let all : c.loop-at.last.items ≡ last_changes changes =
    last_ended c.loop-at.last.items (last_changes changes) changes c.loop-at.at
    (search (rules, c.loop-at-test.false)) c.loop-at.invariant in
    subst (λ (last : Changes). AreOrdered last) (sym all) (ordered_last changes (rise_sorted changes c.requires))
