use Rattle.std.proofs.Common.{arith}
use Rattle.pid_prefix.proofs.BlockLemmas.{ends_by}
use Rattle.pid_prefix.proofs.block.Block.new.Goals as goal

pub invariant_of-result : goal.invariant_of-result
invariant_of-result c =
    record {
      is_block = (
        c.requires.len,
        c.requires.aligned,
        ends_by c.args.first c.args.len (omega arith)
            c.requires.aligned,
      );
    }
