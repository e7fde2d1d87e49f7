-- The comparison is that of the keys.
use Rattle.std.proofs.Common.{is_lt, rules, of_calls}
use Rattle.std.proofs.lemmas.Fn.{always_returns_same}
use Rattle.std.proofs.lemmas.List.Sorted.{ranks_by}
use Rattle.alto_rows.specs.Order.{key_cmp}
use Rattle.alto_rows.proofs.OrderLemmas.{derived_key_cmp, key_cmp_total}
use Rattle.row_chunks.specs.Made.{OneChange}
use Rattle.row_chunks.proofs.changes.in_order.Goals as goal

pub returns-clause-sorted : goal.returns-clause-sorted
returns-clause-sorted c =
    c.in_ok-sort_by.ensures.sorted (λ (a : OneChange) (b : OneChange). is_lt (key_cmp a.0 b.0))
    (ranks_by key_cmp_total (λ (change : OneChange). change.0))
    (always_returns_same _ _ _ (λ a r f k. search (rules, of_calls, derived_key_cmp)))

pub returns-clause-stable : goal.returns-clause-stable
returns-clause-stable c =
    c.sort_by.ensures.stable (λ (a : OneChange) (b : OneChange). is_lt (key_cmp a.0 b.0))
    (ranks_by key_cmp_total (λ (change : OneChange). change.0))
    (always_returns_same _ _ _ (λ a r f k. search (rules, of_calls, derived_key_cmp)))
