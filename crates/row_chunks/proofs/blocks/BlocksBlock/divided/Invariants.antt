use Rattle.std.proofs.Common.{◌≡◌, ◌*◌, ◌≤◌, ◌++◌, length}
use Rattle.std.specs.List.{AllByRecursion, flat_map}
use Rattle.row_chunks.specs.Blocks.{AllBegin, joined}
use Rattle.row_chunks.proofs.blocks.BlocksBlock.divided.Given as goal

-- the lists that are there, and the pieces that are left, are all
abbrev pub invariant-loop-piece : goal.invariant-loop-piece
invariant-loop-piece g l =
    record {
      whole : flat_map (λ list. list) l.lists.items
          ++ joined (flat_map (λ piece. piece.items) l.piece-iterator.rest.items) ≡ l.fn.self;
      small : AllByRecursion (λ list. length list ≤ 16 * g.B.Block.most) l.lists.items;
      begin : AllBegin (flat_map (λ piece. piece.items) l.piece-iterator.rest.items);
      within : AllByRecursion (λ piece. length piece.items ≤ 16) l.piece-iterator.rest.items;
    }
