use Rattle.std.proofs.Common.{arith}
use Rattle.doc_pieces.proofs.PlainLemmas.{printed_name}
use Rattle.doc_pieces.proofs.text.name_text.Goals as goal

pub returns : goal.returns
returns c = grind (arith, c.in_ok-key.ensures, printed_name c.args.name.now)
