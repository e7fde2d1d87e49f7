use Rattle.alto_book.proofs.TrimBodyLemmas.{trim_keeps_bodies}
use Rattle.alto_book.proofs.trim_laws.trim_keeps_bodies.Goals as goal

pub returns : goal.returns
returns c = trim_keeps_bodies
