use Rattle.alto_directory.proofs.EntryLemmas.{two_pushed}
use Rattle.alto_directory.proofs.entries.push_queries.Goals as goal

pub returns : goal.returns
returns c =
    rw (c.in_ok-push-2.ensures.items, c.in_ok-push.ensures.items)
    (two_pushed c.args.entries.now.items _ _ _ _ c.in_ok-filtered_cost_map.ensures c.in_ok-endpoint_costs.ensures)
