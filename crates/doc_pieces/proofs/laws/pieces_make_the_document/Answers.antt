use Rattle.doc_pieces.proofs.TextLemmas.{document_text}
use Rattle.doc_pieces.proofs.laws.pieces_make_the_document.Goals as goal

pub returns : goal.returns
returns c = document_text
