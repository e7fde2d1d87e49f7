use Rattle.tips_graph.proofs.GraphLaws.{recommended_longest}
use Rattle.tips_graph.proofs.laws.recommended_is_longest.Goals as goal

pub returns : goal.returns
returns c = recommended_longest
