use Rattle.std.proofs.Common.{◌≡◌, map}
use Rattle.json_tree.specs.Document.{members_of}
use Rattle.json_tree.specs.Members.{members_data}
use Rattle.alto_maps.specs.Shape.{group_object}
use Rattle.net_docs.proofs.PidLemmas.{with_groups}
use Rattle.prop_docs.specs.PropertyMap.{entities_of, prop_face}
use Rattle.prop_docs.proofs.source.groups.Given as goal

-- the groups that are there, and those of the texts that are left, are the groups of all
abbrev pub invariant-loop-text : goal.invariant-loop-text
invariant-loop-text g l =
    let rows = g.R.RowStore.rows l.rows in
    with_groups (group_object (prop_face l.net rows)) (members_data l.groups) l.text-iterator
    ≡ members_of (map (λ text. (text, group_object (prop_face l.net rows) text)) (entities_of rows l.net))
