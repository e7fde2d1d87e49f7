use Rattle.std.proofs.Common.{◌≡◌, ◌++◌, List, drop, Some}
use Rattle.json.specs.Tree.{items_tokens, members_tokens}
use Rattle.serde_json.specs.Data.{no_members}
use Rattle.serde_json.specs.Read.{of_items, of_members}
use Rattle.serde_json.specs.Written.{items_outline, members_outline}
use Rattle.json_tree.specs.Tree.{items_data, entries_data}
use Rattle.json_tree.specs.Whole.{items_are_whole, members_are_whole}
use Rattle.json_tree.proofs.Objects.{Entry}
use Rattle.json_tree.proofs.writing.+write.Given as goal

-- what is written and what is left to write make the whole, and if what is left reads back, the whole does
abbrev pub invariant-write_items-loop-tree : goal.invariant-write_items-loop-tree
invariant-write_items-loop-tree l =
    let all = items_data l.tree-items in
    let left = items_data (drop l.tree-index l.tree-items) in
    record {
      before : l.out.before ≡ l.initial.out.before;
      tokens : l.out.tokens ++ items_tokens (items_outline left) ≡ l.initial.out.tokens
          ++ items_tokens (items_outline all);
      reads : of_items (items_outline left) ≡ Some left → of_items (items_outline all) ≡ Some all;
      whole : items_are_whole left ≡ items_are_whole all;
    }

-- the same of the members
abbrev pub invariant-write_members-loop-name : goal.invariant-write_members-loop-name
invariant-write_members-loop-name l =
    let all = entries_data l.members.entries in
    let left = entries_data l.name-iterator in
    record {
      before : l.out.before ≡ l.initial.out.before;
      tokens : l.out.tokens ++ members_tokens (members_outline left) ≡ l.initial.out.tokens
          ++ members_tokens (members_outline all);
      reads : (done : List Entry) × (l.members.entries ≡ done ++ l.name-iterator)
          × (of_members (members_outline left) (entries_data done) ≡ Some all
          → of_members (members_outline all) no_members ≡ Some all);
      whole : members_are_whole left ≡ members_are_whole all;
    }
