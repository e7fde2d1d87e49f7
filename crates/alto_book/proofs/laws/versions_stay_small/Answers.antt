use Rattle.alto_book.proofs.StateLemmas.{version_of-rows_of}
use Rattle.alto_book.proofs.laws.versions_stay_small.Goals as goal

pub returns : goal.returns
returns c = version_of-rows_of
