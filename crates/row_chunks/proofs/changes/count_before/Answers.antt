-- The search ends where the changes before the cut do; where the first is behind it, all are.
use Rattle.std.proofs.Common.{◌≡◌, ap, sym, ◌∙◌, rules}
use Rattle.std.proofs.lemmas.List.Sorted.{IsPartitionPoint-from_clause}
use Rattle.std.specs.Prelude.{not, true, Some, slice_get}
use Rattle.row_chunks.specs.Cut.{keeps}
use Rattle.row_chunks.proofs.CutLemmas.{cut_partitioned}
use Rattle.row_chunks.proofs.SplitLemmas.{before_from_first, behind_from_first, drop_at_cut, take_at_cut}
use Rattle.row_chunks.proofs.changes.count_before.Goals as goal

pub returns-then-keeps-clause-before : goal.returns-then-keeps-clause-before
returns-then-keeps-clause-before c =
    let first : slice_get c.args.changes.now 0 ≡ Some c.in-Some.first.now = search rules in
    let kept : keeps c.args.cut.now c.in-Some.first.now.0 ≡ true =
    sym (ap (keeps c.args.cut.now) c.key.ensures) ∙ sym c.if-keeps.ensures in
    before_from_first c.args.cut.now c.in-Some.first.now c.args.changes.now c.requires first kept

pub returns-then-keeps-clause-behind : goal.returns-then-keeps-clause-behind
returns-then-keeps-clause-behind c =
    let first : slice_get c.args.changes.now 0 ≡ Some c.in-Some.first.now = search rules in
    let kept : keeps c.args.cut.now c.in-Some.first.now.0 ≡ true =
    sym (ap (keeps c.args.cut.now) c.key.ensures) ∙ sym c.if-keeps.ensures in
    behind_from_first c.args.cut.now c.in-Some.first.now c.args.changes.now c.requires first kept

pub returns-clause-before : goal.returns-clause-before
returns-clause-before c =
    let changes = c.args.changes.now in
    let cut = c.args.cut.now in
    take_at_cut cut changes c.partition_point.result
    (IsPartitionPoint-from_clause (λ change. not (keeps cut change.0)) changes c.partition_point.result
    c.partition_point.ensures.partitioned (cut_partitioned (λ change. change.0) cut changes c.requires)
    (λ a r f k. search rules))

pub returns-clause-behind : goal.returns-clause-behind
returns-clause-behind c =
    let changes = c.args.changes.now in
    let cut = c.args.cut.now in
    drop_at_cut cut changes c.partition_point.result
    (IsPartitionPoint-from_clause (λ change. not (keeps cut change.0)) changes c.partition_point.result
    c.partition_point.ensures.partitioned (cut_partitioned (λ change. change.0) cut changes c.requires)
    (λ a r f k. search rules))
