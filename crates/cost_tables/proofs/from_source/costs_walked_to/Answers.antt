use Rattle.std.proofs.Common.{◌≡◌, ◌++◌, Some, ap, arith, length, refl, rules, slice_get}
use Rattle.std.specs.List.{filter_map}
use Rattle.cost_tables.specs.Tables.{Costs, cost_given}
use Rattle.cost_tables.proofs.PairLemmas.{next_within, walked_next, zip_none}
use Rattle.cost_tables.proofs.from_source.costs_walked_to.Goals as goal

pub loop-row-init : goal.loop-row-init
loop-row-init g c =
    rw c.in_ok-costs.ensures.items (
      omega arith,
      ap (λ (front : Costs). front ++ filter_map cost_given c.args.walk.now)
          (zip_none c.args.destinations.now),
    )

pub loop-row-preserved-in-Num-1 : goal.loop-row-preserved-in-Num-1
loop-row-preserved-in-Num-1 g c =
    let costs = c.loop-row.costs.items in
    let more = c.push.new.self.items in
    let dsts = c.args.destinations.now in
    let dst = c.in-Cost-Num.destination in
    let cost = c.in-Cost-Num.cost in
    let row = c.in-Some.row.now in
    let count : c.len.result ≡ length costs = search rules in
    let there : slice_get dsts (length costs) ≡ Some dst =
    rw (← count, ← c.of.ensures) (c.stands_at.ensures c.if-not-stands_at.false) in
    let given : cost_given row ≡ Some (dst, cost) = rw (c.in-Cost-Num.is-0, c.in-Cost-Num.is-1) refl in (
      next_within dsts costs more dst cost there c.in_ok-push.ensures.items,
      walked_next dsts costs more dst cost row c.next.new.self c.loop-row.walk (filter_map cost_given c.args.walk.now)
          c.in-Some.ensures.steps given there c.in_ok-push.ensures.items c.loop-row.invariant.1,
    )
