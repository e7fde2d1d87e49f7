-- All of a chunk's rows lie together.
use Rattle.std.proofs.Common.{◌≡◌, rules}
use Rattle.row_chunks.specs.Cut.{rows_behind}
use Rattle.row_chunks.proofs.BlockLemmas.{run_of_all}
use Rattle.row_chunks.proofs.chunk.ChunkBlock.run_behind.Goals as goal

pub returns : goal.returns
returns c =
    let all : c.tail_behind.result.now ≡ rows_behind c.args.cut.now c.args.self.now = search rules in
    rw all (run_of_all (rows_behind c.args.cut.now c.args.self.now))
