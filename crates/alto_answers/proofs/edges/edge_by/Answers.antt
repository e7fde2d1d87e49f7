use Rattle.std.proofs.Common.{ap, ◌∙◌}
use Rattle.tips_graph.specs.Graph.{GraphData, status_of}
use Rattle.alto_answers.specs.declared.outcome.Answer.TheVariants as answer
use Rattle.alto_answers.proofs.EdgeLemmas.{by_status}
use Rattle.alto_answers.proofs.edges.edge_by.Goals as goal

pub returns-in_ok-edge_reply-in-Here-clause-answer : goal.returns-in_ok-edge_reply-in-Here-clause-answer
returns-in_ok-edge_reply-in-Here-clause-answer g c = λ book is.
    by_status _ _ _ _ _ _ _ _ is (c.in-Here.ensures ∙ ap (λ (graph : GraphData). status_of graph c.args.i c.args.j)
    c.graph-graph.ensures) (ap answer.Reply (c.in_ok-edge_reply-in-Here.ensures.reply book is))
