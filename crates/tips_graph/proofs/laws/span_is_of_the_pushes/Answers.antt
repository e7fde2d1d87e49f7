use Rattle.tips_graph.proofs.GraphLaws.{span_of_the_pushes}
use Rattle.tips_graph.proofs.laws.span_is_of_the_pushes.Goals as goal

pub returns : goal.returns
returns c = span_of_the_pushes
