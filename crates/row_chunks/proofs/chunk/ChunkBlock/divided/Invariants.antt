use Rattle.std.proofs.Common.{◌≡◌, ◌≤◌, ◌++◌, length}
use Rattle.std.specs.List.{AllByRecursion, flat_map}
use Rattle.row_chunks.proofs.chunk.ChunkBlock.divided.Given as goal

-- the chunks that are there, and the pieces that are left, are all
abbrev pub invariant-loop-piece : goal.invariant-loop-piece
invariant-loop-piece l =
    record {
      whole : flat_map (λ chunk. chunk) l.chunks.items ++ flat_map (λ piece. piece.items) l.piece-iterator.rest.items
          ≡ l.fn.self;
      small : AllByRecursion (λ chunk. length chunk ≤ 32) l.chunks.items;
      within : AllByRecursion (λ piece. length piece.items ≤ 32) l.piece-iterator.rest.items;
    }
