use Rattle.alto_directory.proofs.EntryLemmas.{three_pushed}
use Rattle.alto_directory.proofs.entries.push_maps.Goals as goal

pub returns : goal.returns
returns c =
    rw (c.in_ok-push-3.ensures.items, c.in_ok-push-2.ensures.items, c.in_ok-push.ensures.items)
    (three_pushed c.args.entries.now.items _ _ _ _ _ _ c.in_ok-network_map.ensures c.in_ok-filtered_network_map.ensures
    c.in_ok-path_vectors.ensures)
