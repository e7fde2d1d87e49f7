use Rattle.std.proofs.Common.{sym, subst}
use Rattle.std.proofs.lemmas.Result.{IfOk-weaker}
use Rattle.pid_prefix.specs.Blocks.{AreOrdered}
use Rattle.pid_prefix.specs.Table.{AreBlocksOf}
use Rattle.pid_prefix.proofs.OrderLemmas.{ordered_from_sorted}
use Rattle.pid_prefix.proofs.TableLemmas.{blocks_moved, ranges_from_blocks}
use Rattle.pid_prefix.proofs.blocks.ranges_of.Goals as goal

pub sweep-requires : goal.sweep-requires
sweep-requires c = subst AreOrdered (sym c.deref.ensures.value)
    (ordered_from_sorted c.sort.new.self.items c.in_ok-sort.ensures.sorted)

pub returns : goal.returns
returns c =
    let rows = c.args.rows.now in
    let are : AreBlocksOf c.args.family rows c.deref.result.now =
    subst (AreBlocksOf c.args.family rows) (sym c.deref.ensures.value)
    (blocks_moved c.args.family rows c.in_ok-blocks.blocks.items c.sort.new.self.items c.in_ok-sort.ensures.permutation
    c.in_ok-blocks.ensures) in
    IfOk-weaker c.sweep.result _ _ (λ ranges swept. ranges_from_blocks c.args.family rows c.deref.result.now
    ranges.items are swept) c.sweep.ensures
