use Rattle.alto_book.proofs.PushLemmas.{touched_resources}
use Rattle.alto_book.proofs.number_laws.touched_resources_get_numbers.Goals as goal

pub returns : goal.returns
returns c = touched_resources
