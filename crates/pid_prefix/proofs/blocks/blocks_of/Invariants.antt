use Rattle.pid_prefix.proofs.TableLemmas.{BlocksBefore}
use Rattle.pid_prefix.proofs.blocks.blocks_of.Given as goal

abbrev pub invariant-loop-place : goal.invariant-loop-place
invariant-loop-place l = BlocksBefore l.family l.rows l.place l.blocks.items
