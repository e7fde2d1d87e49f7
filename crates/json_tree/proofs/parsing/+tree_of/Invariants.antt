use Rattle.std.proofs.Common.{◌≡◌, List, ◌++◌, map}
use Rattle.std.specs.Vec.Iter.{into_iter_items}
use Rattle.serde_json.specs.View.{view, items_view, members_view}
use Rattle.serde_json.proofs.Views.{Entry}
use Rattle.json_tree.specs.Tree.{data_of, entries_data}
use Rattle.json_tree.specs.Whole.{items_are_whole, members_are_whole}
use Rattle.json_tree.proofs.parsing.+tree_of.Given as goal

-- what was moved and what is left make the whole, and what is left decides whether the numbers are whole
abbrev pub invariant-list_of-loop-value : goal.invariant-list_of-loop-value
invariant-list_of-loop-value l =
    let left = into_iter_items l.value-iterator in
    record {
      moved : map data_of l.trees.items ++ map view left ≡ map view l.fn.values.items;
      whole : items_are_whole (items_view left) ≡ items_are_whole (items_view l.fn.values.items);
    }

-- the same of the members
abbrev pub invariant-members_of-loop-name : goal.invariant-members_of-loop-name
invariant-members_of-loop-name l =
    record {
      moved : (done : List Entry) × (l.fn.members.entries ≡ done ++ l.name-iterator)
          × (entries_data l.map.entries ≡ members_view done);
      whole : members_are_whole (members_view l.name-iterator) ≡ members_are_whole (members_view l.fn.members.entries);
    }
