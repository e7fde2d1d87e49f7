use Rattle.std.proofs.Common.{◌≡◌, List, ◌++◌, take, map}
use Rattle.json_tree.specs.Tree.{data_of, entries_data}
use Rattle.json_tree.proofs.Objects.{Entry}
use Rattle.json_tree.proofs.copying.+copy.Given as goal

-- the copies say what the trees so far say
abbrev pub invariant-copy_items-loop-tree : goal.invariant-copy_items-loop-tree
invariant-copy_items-loop-tree l = map data_of l.copies.items ≡ map data_of (take l.tree-index l.tree-items)

-- the same of the members
abbrev pub invariant-copy_members-loop-name : goal.invariant-copy_members-loop-name
invariant-copy_members-loop-name l =
    (done : List Entry) × (l.members.entries ≡ done ++ l.name-iterator)
    × (entries_data l.copies.entries ≡ entries_data done)
