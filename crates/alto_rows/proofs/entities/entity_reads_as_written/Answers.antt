use Rattle.alto_rows.proofs.EntityLemmas.{entity_as_written}
use Rattle.alto_rows.proofs.entities.entity_reads_as_written.Goals as goal

pub returns : goal.returns
returns c = entity_as_written
