use Rattle.std.proofs.Common.{◌≡◌, ℕ, ◌-◌, ◌<◌, [], ◌∷◌, ◌++◌, length, Some, None, sym, ap, ◌∙◌, arith, rules, nat_cmp}
use Rattle.std.specs.BTreeMap.{insert_entry}
use Rattle.std.specs.Cmp.Lexicographic.{slice_cmp}
use Rattle.json.specs.Token.{Token}
use Rattle.json.specs.Json.{parse_map, after_end_array, read_key, items, members, value}
use Rattle.json.proofs.Grammar.{value_is, value-begin_array, value-begin_object, read_key-shorter}
use Rattle.serde_json.specs.Data.{array, no_members, object, put, string}
use Rattle.serde_json.specs.Read.{of_json, of_items, of_members, converted}
use Rattle.json_tree.specs.Document.{with_member}
use Rattle.json_tree.specs.Tree.{data_of, entries_data}
use Rattle.json_tree.proofs.Objects.{entries_insert}
use Rattle.json_tree.proofs.TokenLemmas.{array_read, item_then, items_end, items_whole_more, member_then, members_end}
use Rattle.json_tree.proofs.TokenLemmas.{object_read, one_more_tree, put_whole, trees_before, trees_before_none}
use Rattle.json_tree.proofs.Trees.{data_of_bool, data_of_list, data_of_null, data_of_num, data_of_object}
use Rattle.json_tree.proofs.reading.+read_value.Goals as goal

pub read_items-items-preserved : goal.read_items-items-preserved
read_items-items-preserved t c =
    let p = value c.args.depth in
    let l = c.items in
    let n = l.invariant.0 in
    let going : (after_end_array l.reader ≡ None) × (c.take_end_array.new.self ≡ l.reader) = grind arith in
    let tree = c.in_ok-tree.tree in
    let done = c.in_ok-tree.ensures in
    let left = c.read_value.new.reader in
    let less : length left < length l.reader = rw (← going.1) done.shorter in
    let turn = item_then p n l.reader left (data_of tree) (omega (arith, l.invariant.1)) going.0
    (rw (← going.1) done.value) in
    let pushed : c.push.new.self.items ≡ l.trees.items ++ tree ∷ [] = search rules in (
      n - 1,
      omega (arith, l.invariant.1),
      l.invariant.2 ∙ ap (parse_map (trees_before l.trees.items)) turn ∙ one_more_tree l.trees.items tree _
          ∙ ap (λ trees. parse_map (trees_before trees) (converted of_items (items p (n - 1) left))) (sym pushed),
      omega (arith, l.invariant.3),
      rw pushed (items_whole_more l.trees.items tree l.invariant.4 done.whole),
    )

pub read_items-returns-clause-items : goal.read_items-returns-clause-items
read_items-returns-clause-items t c =
    let p = value c.args.depth in
    let l = c.items in
    let n = l.invariant.0 in
    let left = c.take_end_array.new.self in
    l.invariant.2
    ∙ ap (parse_map (trees_before l.trees.items)) (items_end p n l.reader left l.invariant.1 (grind arith))
    ∙ ap (λ items. Some (items, left)) (trees_before_none l.trees.items)

pub read_members-members-preserved : goal.read_members-members-preserved
unfolding with_member
read_members-members-preserved t c =
    let p = value c.args.depth in
    let l = c.members in
    let n = l.invariant.0 in
    let before = entries_data l.map.entries in
    let name = c.in-Some.name.now in
    let value_at = c.next_key.new.self in
    let named : read_key l.reader ≡ Some (Some name, value_at) = grind arith in
    let tree = c.in_ok-tree.tree in
    let done = c.in_ok-tree.ensures in
    let left = c.read_value.new.reader in
    let less = read_key-shorter l.reader (Some name) value_at named in
    let lesser = done.shorter in
    let copied : c.in_ok-key.key ≡ name = search rules in
    let inserted : c.insert.new.self.entries ≡ insert_entry (slice_cmp nat_cmp) l.map.entries c.in_ok-key.key tree
    = search rules in
    let put_in : entries_data c.insert.new.self.entries ≡ put name (data_of tree) before =
    entries_insert l.map.entries c.insert.new.self.entries c.in_ok-key.key tree inserted
    ∙ ap (λ key. put key (data_of tree) before) copied in (
      n - 1,
      omega (arith, l.invariant.1),
      l.invariant.2 ∙ member_then p before n name l.reader value_at left (data_of tree) (omega (arith, l.invariant.1))
          named done.value
          ∙ ap (λ found. converted (λ ms. of_members ms found) (members p (n - 1) left)) (sym put_in),
      omega (arith, l.invariant.3),
      rw put_in (put_whole name (data_of tree) before l.invariant.4 done.whole),
    )

pub read_members-returns-clause-members : goal.read_members-returns-clause-members
read_members-returns-clause-members t c =
    let p = value c.args.depth in
    let l = c.members in
    l.invariant.2 ∙ members_end p (entries_data l.map.entries) l.invariant.0 l.reader c.next_key.new.self
    l.invariant.1 (grind arith)

pub read_value-returns-in-Null-clause-value : goal.read_value-returns-in-Null-clause-value
read_value-returns-in-Null-clause-value t c =
    let first : c.args.reader.now ≡ Token.null ∷ c.next.new.self = grind arith in
    ap (converted of_json) (ap (value c.args.depth) first ∙ value_is c.args.depth _)
    ∙ ap (λ d. Some (d, c.next.new.self)) (sym data_of_null)

pub read_value-returns-in-Bool-clause-value : goal.read_value-returns-in-Bool-clause-value
read_value-returns-in-Bool-clause-value t c =
    let first : c.args.reader.now ≡ Token.boolean c.in-Bool.truth ∷ c.next.new.self = grind arith in
    ap (converted of_json) (ap (value c.args.depth) first ∙ value_is c.args.depth _)
    ∙ ap (λ d. Some (d, c.next.new.self)) (sym (data_of_bool c.in-Bool.truth))

pub read_value-returns-in_ok-whole_number-in-Number-clause-value :
    goal.read_value-returns-in_ok-whole_number-in-Number-clause-value
read_value-returns-in_ok-whole_number-in-Number-clause-value t c =
    let number = c.in_ok-whole_number-in-Number.field-0 in
    let first : c.args.reader.now ≡ Token.number c.in-Number.text.now ∷ c.next.new.self = grind arith in
    ap (converted of_json) (ap (value c.args.depth) first ∙ value_is c.args.depth _)
    ∙ rw (c.in_ok-whole_number-in-Number.ensures, data_of_num number)

pub read_value-returns-in_ok-ok-in-String-clause-value :
    goal.read_value-returns-in_ok-ok-in-String-clause-value
read_value-returns-in_ok-ok-in-String-clause-value t c =
    let first : c.args.reader.now ≡ Token.string c.in-String.text.now ∷ c.next.new.self = grind arith in
    let says : data_of c.in_ok-ok-in-String.field-0 ≡ string c.in-String.text.now = search rules in
    ap (converted of_json) (ap (value c.args.depth) first ∙ value_is c.args.depth _)
    ∙ ap (λ d. Some (d, c.next.new.self)) (sym says)

pub read_value-returns-in_ok-read_items-in-BeginArray-clause-value :
    goal.read_value-returns-in_ok-read_items-in-BeginArray-clause-value
read_value-returns-in_ok-read_items-in-BeginArray-clause-value t c =
    let trees = c.in_ok-read_items-in-BeginArray.field-0 in
    let first : c.args.reader.now ≡ Token.begin_array ∷ c.next.new.self = grind arith in
    let inner = c.in_ok-checked_sub-in-BeginArray.field-0 in
    let less : inner ≡ c.args.depth - 1 = grind arith in
    let rest = λ (depth : ℕ). items (value depth) (length c.next.new.self) c.next.new.self in
    let opened : converted of_json (value c.args.depth c.args.reader.now)
    ≡ parse_map array (converted of_items (rest inner)) =
    rw less (ap (converted of_json) (ap (value c.args.depth) first
    ∙ value-begin_array c.args.depth c.next.new.self (grind arith)) ∙ array_read (rest (c.args.depth - 1))) in
    opened ∙ ap (parse_map array) c.in_ok-read_items-in-BeginArray.ensures.items
    ∙ ap (λ d. Some (d, c.read_items.new.reader)) (sym (data_of_list trees))

pub read_value-returns-in_ok-read_members-in-BeginObject-clause-value :
    goal.read_value-returns-in_ok-read_members-in-BeginObject-clause-value
read_value-returns-in_ok-read_members-in-BeginObject-clause-value t c =
    let map = c.in_ok-read_members-in-BeginObject.field-0 in
    let first : c.args.reader.now ≡ Token.begin_object ∷ c.next.new.self = grind arith in
    let inner = c.in_ok-checked_sub-in-BeginObject.field-0 in
    let less : inner ≡ c.args.depth - 1 = grind arith in
    let rest = λ (depth : ℕ). members (value depth) (length c.next.new.self) c.next.new.self in
    let opened : converted of_json (value c.args.depth c.args.reader.now)
    ≡ parse_map object (converted (λ ms. of_members ms no_members) (rest inner)) =
    rw less (ap (converted of_json) (ap (value c.args.depth) first
    ∙ value-begin_object c.args.depth c.next.new.self (grind arith)) ∙ object_read (rest (c.args.depth - 1))) in
    opened ∙ ap (parse_map object) c.in_ok-read_members-in-BeginObject.ensures.members
    ∙ ap (λ d. Some (d, c.read_members.new.reader)) (sym (data_of_object map))
