use Rattle.tips_graph.proofs.GraphLaws.{recommended_is_had}
use Rattle.tips_graph.proofs.laws.recommended_is_here_or_awaited.Goals as goal

pub returns : goal.returns
returns c = recommended_is_had
