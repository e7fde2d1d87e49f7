-- The total is the number of the rows.
use Rattle.row_chunks.proofs.LayLemmas.{counted_all}
use Rattle.row_chunks.proofs.blocks.BlocksBlock.len.Goals as goal

pub returns : goal.returns
returns g c = rw (← c.self.view_is) (counted_all c.self.inside.total c.self.inside.slots.items c.self.invariant.1)
