use Rattle.std.proofs.Common.{◌≡◌, ◌+◌, [], ◌∷◌, ◌++◌, sym, subst, ap, ◌∙◌}
use Rattle.pid_prefix.proofs.TableLemmas.{BlocksBefore, blocks_none, blocks_more, blocks_same, blocks_all}
use Rattle.pid_prefix.proofs.blocks.blocks_of.Goals as goal
use Rattle.pid_prefix.proofs.blocks.blocks_of.Goals.{in-Some+in_ok-push, in_default}

pub loop-place-init : goal.loop-place-init
loop-place-init c = subst (BlocksBefore c.args.family c.args.rows.now 0) (sym c.new-blocks.ensures.items)
    (blocks_none c.args.family c.args.rows.now)

pub loop-place-preserved : goal.loop-place-preserved
loop-place-preserved c =
    let rows = c.args.rows.now in
    let place = c.loop-place.place in
    let row = c.index-rows-place.result in
    elim c.match-block_of.branch [
      | in-Some+in_ok-push w ↦
          let own = w.in-Some.ensures.some in
          let pushed : c.match-block_of.blocks.items ≡ c.loop-place.blocks.items ++ w.in-Some.block ∷ [] =
          ap (λ v. v.items) w.blocks-is ∙ w.in_ok-push.ensures.items in
          blocks_more c.args.family rows place c.loop-place.blocks.items c.match-block_of.blocks.items row
          w.in-Some.block c.loop-place-test.true c.index-rows-place.is
          (own.0, own.1) own.2 pushed c.loop-place.invariant
      | in_default w ↦
          subst (λ v. BlocksBefore c.args.family rows (place + 1) v.items) (sym w.blocks-is)
          (blocks_same c.args.family rows place c.loop-place.blocks.items row c.loop-place-test.true
          c.index-rows-place.is w.in_default.ensures.none c.loop-place.invariant)
    ]

pub returns : goal.returns
returns c =
    blocks_all c.args.family c.args.rows.now c.loop-place.place c.loop-place.blocks.items c.loop-place-test.false
    c.loop-place.auto.place-end c.loop-place.invariant
