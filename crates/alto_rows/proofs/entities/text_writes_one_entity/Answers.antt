use Rattle.alto_rows.proofs.EntityLemmas.{one_entity}
use Rattle.alto_rows.proofs.entities.text_writes_one_entity.Goals as goal

pub returns : goal.returns
returns c = one_entity
