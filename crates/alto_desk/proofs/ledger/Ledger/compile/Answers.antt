use Rattle.alto_book.proofs.StateLemmas.{good_rows, next_versions}
use Rattle.alto_desk.proofs.ledger.Ledger.compile.Goals as goal

pub compile-requires-clause-good : goal.compile-requires-clause-good
compile-requires-clause-good g c = rw c.rows.ensures.rows (good_rows _ c.rows.ensures.legal)

pub compile-requires-clause-room : goal.compile-requires-clause-room
compile-requires-clause-room g c = rw c.rows.ensures.rows (next_versions _ c.rows.ensures.legal)
