use Rattle.doc_pieces.proofs.RenewedLemmas.{pieces_stay}
use Rattle.doc_pieces.proofs.laws.untouched_pieces_stay.Goals as goal

pub returns : goal.returns
returns c = pieces_stay
