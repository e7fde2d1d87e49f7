use Rattle.alto_rows.proofs.IdLemmas.{unambiguous}
use Rattle.alto_rows.proofs.ids.ids_are_unambiguous.Goals as goal

pub returns : goal.returns
returns c = unambiguous
