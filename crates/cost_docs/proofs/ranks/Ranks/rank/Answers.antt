-- The search ends where the lower costs do.
use Rattle.std.proofs.Common.{List, ℕ, ◌+◌, ap, sym, ◌∙◌, rules}
use Rattle.std.proofs.lemmas.List.Sorted.{IsPartitionedBy-ltb, IsPartitionPoint-from_clause}
use Rattle.std.proofs.lemmas.Map.Keys.{non_decreasing_from_sorted}
use Rattle.std.specs.List.Sorted.{IsStrictlySortedBy}
use Rattle.std.specs.Ordering.{nat_cmp}
use Rattle.std.specs.Prelude.{nat_lt}
use Rattle.cost_docs.specs.Ordinal.{rank_among}
use Rattle.cost_docs.proofs.RankLemmas.{count_passing}
use Rattle.cost_docs.proofs.ranks.Ranks.rank.Goals as goal

pub returns : goal.returns
returns c =
    let costs = c.deref.result.now in
    let at = c.partition_point.result in
    let sorted : IsStrictlySortedBy nat_cmp costs = rw c.deref.ensures.value c.self.invariant in
    let point =
    IsPartitionPoint-from_clause (λ other. nat_lt other c.args.cost) costs at c.partition_point.ensures.partitioned
    (IsPartitionedBy-ltb (λ n. n) costs c.args.cost (non_decreasing_from_sorted costs sorted))
    (λ a r f k. search rules) in
    ap (λ n. n + 1) (sym (count_passing (λ other. nat_lt other c.args.cost) costs at c.partition_point.ensures.bound
    point.0 point.1))
    ∙ ap (λ (among : List ℕ). rank_among among c.args.cost) (c.deref.ensures.value ∙ c.self.view_is)
