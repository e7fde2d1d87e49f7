-- The block begins at the key of its first row; without one it has no rows.
use Rattle.std.proofs.Common.{◌≡◌, sym, append-nil, rules}
use Rattle.std.specs.Arc.{arc_value}
use Rattle.std.specs.Prelude.{Some, None, []}
use Rattle.row_chunks.specs.Blocks.{first_key}
use Rattle.row_chunks.proofs.LayLemmas.{begins_at_first, none_without_first}
use Rattle.row_chunks.proofs.blocks.Blocks.with_block.Goals as goal

pub returns-in_default : goal.returns-in_default
returns-in_default g c =
    let none : first_key (g.B.Block.rows c.args.block) ≡ None = search rules in
    let no_rows : g.B.Block.rows c.args.block ≡ [] = none_without_first (g.B.Block.rows c.args.block) none in
    rw no_rows (sym (append-nil c.args.self))

pub with_slot-requires : goal.with_slot-requires
with_slot-requires g c =
    let same : arc_value c.in_ok-new.field-0 ≡ c.args.block = search rules in
    let first : first_key (g.B.Block.rows c.args.block) ≡ Some c.in-Some.first.now = search rules in
    rw (c.new-2.ensures, same, c.in_ok-key.ensures)
    (begins_at_first (g.B.Block.rows c.args.block) c.in-Some.first.now first)
