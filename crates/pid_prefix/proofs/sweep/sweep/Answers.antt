use Rattle.std.proofs.Common.{◌≡◌, ◌^◌, ◌<◌, ◌≤◌, [], ◌∷◌, ◌++◌, sym, subst, arith, take, get_or}
use Rattle.std.proofs.lemmas.List.Elements.{All-nil, All-weaker}
use Rattle.pid_prefix.specs.declared.block.Block.{Block}
use Rattle.pid_prefix.specs.Bits.{end_of}
use Rattle.pid_prefix.specs.Sweep.{IsSwept}
use Rattle.pid_prefix.proofs.RangeLemmas.{AllBy}
use Rattle.pid_prefix.proofs.SweepLemmas.{opening}
use Rattle.pid_prefix.proofs.PassLemmas.{swept_none, swept_more, by_more, swept_all}
use Rattle.pid_prefix.proofs.sweep.sweep.Goals as goal

pub loop-block-init : goal.loop-block-init
loop-block-init c =
    let no_ranges = c.new-ranges.ensures.items in
    let no_blocks = c.new-around.ensures.items in
    record {
      swept = subst (λ ranges. IsSwept [] ranges c.new-around.result.items) (sym no_ranges)
          (subst (IsSwept [] []) (sym no_blocks) swept_none);
      by = λ k d low below. subst (AllBy (get_or c.args.blocks.now k d).first) (sym no_ranges)
          (All-nil (λ range. range.first ≤ (get_or c.args.blocks.now k d).first));
    }

pub loop-block-preserved : goal.loop-block-preserved
loop-block-preserved c =
    let blocks = c.args.blocks.now in
    let i = c.loop-block.block-index in
    let block : Block = c.block-item.result in
    let closed = c.in_ok-close_until.ensures.swept (take i blocks) c.loop-block.invariant.swept in
    let here : AllBy block.first c.loop-block.ranges.items =
    subst (λ b. AllBy b.first c.loop-block.ranges.items) (sym c.block-item.is)
    (c.loop-block.invariant.by i block (omega arith) c.loop-block-test.true) in
    let by : AllBy block.first c.close_until.new.ranges.items = c.in_ok-close_until.ensures.by here in
    let begins : c.push.new.self.items ≡ c.close_until.new.ranges.items ++ opening block ∷ [] =
    c.in_ok-push.ensures.items in
    let enters : c.push-in-loop-block.new.self.items ≡ c.close_until.new.around.items ++ block ∷ [] =
    c.in_ok-push-2.ensures.items in
    record {
      swept = swept_more blocks i block c.close_until.new.ranges.items c.push.new.self.items
          c.close_until.new.around.items c.push-in-loop-block.new.self.items
          c.requires c.loop-block-test.true c.block-item.is closed.0 by closed.1 begins enters;
      by = by_more blocks i block c.close_until.new.ranges.items c.push.new.self.items c.requires c.loop-block-test.true
          c.block-item.is by begins;
    }

pub returns : goal.returns
returns c =
    let closed = c.in_ok-close_until-2.ensures.swept (take c.loop-block.block-index c.args.blocks.now)
    c.loop-block.invariant.swept in
    swept_all c.args.blocks.now c.loop-block.block-index c.close_until-2.new.ranges.items
    c.close_until-2.new.around.items c.loop-block-test.false closed.0
    (All-weaker (λ block. 340282366920938463463374607431768211455 < end_of block.first block.len)
    (λ block. 2 ^ 128 ≤ end_of block.first block.len)
    (λ block high. omega arith) c.close_until-2.new.around.items closed.1)
