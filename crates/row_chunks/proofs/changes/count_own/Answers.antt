-- The cut before the first key of the next block divides them.
use Rattle.std.proofs.Common.{◌≡◌, ◌∙◌, rules}
use Rattle.std.specs.Prelude.{None, Some, slice_get}
use Rattle.row_chunks.proofs.SplitLemmas.{later_at_last, later_by_first, own_at_last, own_by_first}
use Rattle.row_chunks.proofs.changes.count_own.Goals as goal

pub returns-in-Some-clause-own : goal.returns-in-Some-clause-own
returns-in-Some-clause-own g c =
    let first : slice_get c.args.later.now 0 ≡ Some c.in-Some.next.now = search rules in
    c.count_before.ensures.before ∙ own_by_first c.in-Some.next.now c.key.result.now c.args.later.now c.args.changes.now
    first c.key.ensures

pub returns-in-Some-clause-rest : goal.returns-in-Some-clause-rest
returns-in-Some-clause-rest g c =
    let first : slice_get c.args.later.now 0 ≡ Some c.in-Some.next.now = search rules in
    c.count_before.ensures.behind ∙ later_by_first c.in-Some.next.now c.key.result.now c.args.later.now
    c.args.changes.now first c.key.ensures

pub returns-in-None-clause-own : goal.returns-in-None-clause-own
returns-in-None-clause-own g c =
    let none : slice_get c.args.later.now 0 ≡ None = search rules in
    own_at_last c.args.later.now c.args.changes.now none

pub returns-in-None-clause-rest : goal.returns-in-None-clause-rest
returns-in-None-clause-rest g c =
    let none : slice_get c.args.later.now 0 ≡ None = search rules in
    later_at_last c.args.later.now c.args.changes.now none
