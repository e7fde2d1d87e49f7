use Rattle.std.proofs.Common.{◌≡◌, drop}
use Rattle.std.specs.List.{filter_map}
use Rattle.json_tree.specs.Document.{members_of}
use Rattle.json_tree.specs.Members.{members_data}
use Rattle.path_docs.specs.Found.{source_member}
use Rattle.path_docs.proofs.ValuedLemmas.{with_members}
use Rattle.path_docs.proofs.costs.groups.Given as goal

abbrev pub invariant-loop-source : goal.invariant-loop-source
invariant-loop-source l =
    with_members (members_data l.groups) (filter_map source_member (drop l.source-index l.sources))
    ≡ members_of (filter_map source_member l.sources)
