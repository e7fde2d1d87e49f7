use Rattle.alto_book.proofs.TellLemmas.{graph_tells}
use Rattle.alto_book.proofs.number_laws.graphs_tell_the_book.Goals as goal

pub returns : goal.returns
returns c = graph_tells
