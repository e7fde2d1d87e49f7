use Rattle.std.proofs.Common.{◌≡◌, ◌≤◌, ◌++◌, length}
use Rattle.std.specs.List.{AllByRecursion, flat_map}
use Rattle.row_chunks.proofs.blocks.Blocks.with_blocks.Given as goal

-- what is there, and what is left, are all
abbrev pub invariant-loop-block : goal.invariant-loop-block
invariant-loop-block g l =
    record {
      whole : l.all ++ flat_map g.B.Block.rows l.block-iterator.rest.items
          ≡ l.fn.self ++ flat_map g.B.Block.rows l.fn.blocks.items;
      small : AllByRecursion (λ block. length (g.B.Block.rows block) ≤ g.B.Block.most) l.block-iterator.rest.items;
    }
