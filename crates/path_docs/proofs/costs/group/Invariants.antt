use Rattle.std.proofs.Common.{◌≡◌, drop, map}
use Rattle.json_tree.specs.Document.{members_of}
use Rattle.json_tree.specs.Members.{members_data}
use Rattle.path_docs.specs.Found.{pair_member}
use Rattle.path_docs.proofs.ValuedLemmas.{with_members}
use Rattle.path_docs.proofs.costs.group.Given as goal

abbrev pub invariant-loop-pair : goal.invariant-loop-pair
invariant-loop-pair l =
    with_members (members_data l.group) (map pair_member (drop l.pair-index l.pairs))
    ≡ members_of (map pair_member l.pairs)
