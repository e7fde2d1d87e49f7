-- One block more, behind all rows.
use Rattle.std.proofs.Common.{◌≡◌, ◌+◌, length, ap, ◌∙◌, refl, rules, arith}
use Rattle.row_chunks.specs.Blocks.{Placed}
use Rattle.row_chunks.proofs.LayLemmas.{begin_more, counted_more, joined_more}
use Rattle.row_chunks.proofs.blocks.Blocks.with_slot.Goals as goal

pub invariant_of-result : goal.invariant_of-result
invariant_of-result g c =
    let slots = c.self.inside.slots.items in
    let slot : Placed = record c.args.slot { before = c.self.inside.total } in
    let count : c.len.result ≡ length c.args.slot.rows = c.len.ensures ∙ ap length c.block.ensures.rows in
    let sum : c.in_ok-after.after ≡ c.self.inside.total + length c.args.slot.rows = search (rules, arith) in
    rw (c.in_ok-push.ensures.items, c.moved.ensures) (
      begin_more slots slot c.self.invariant.0 c.requires,
      counted_more 0 c.self.inside.total c.in_ok-after.after slots
          slot c.self.invariant.1 refl sum,
    )

pub returns-clause-whole : goal.returns-clause-whole
returns-clause-whole g c =
    let slot : Placed = record c.args.slot { before = c.self.inside.total } in
    rw (c.in_ok-push.ensures.items, c.moved.ensures, ← c.self.view_is) (joined_more c.self.inside.slots.items slot)
