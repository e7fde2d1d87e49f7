use Rattle.std.proofs.Common.{◌≡◌, ℕ, ◌+◌, ◌*◌, ◌≤◌, length, List, true}
use Rattle.json.specs.Token.{Token}
use Rattle.json.specs.Json.{items, members, value, parse_map}
use Rattle.serde_json.specs.Data.{Members, no_members}
use Rattle.serde_json.specs.Read.{of_items, of_members, converted}
use Rattle.json_tree.specs.Tree.{items_data, entries_data}
use Rattle.json_tree.specs.Whole.{items_are_whole, members_are_whole}
use Rattle.json_tree.proofs.TokenLemmas.{trees_before}
use Rattle.json_tree.proofs.reading.+read_value.Given as goal

abbrev pub decreases-read_value : goal.decreases-read_value
decreases-read_value l = 2 * l.depth

abbrev pub decreases-read_items : goal.decreases-read_items
decreases-read_items l = 2 * l.depth + 1

abbrev pub decreases-read_members : goal.decreases-read_members
decreases-read_members l = 2 * l.depth + 1

-- what the list reads as is the trees so far and what the tokens that are left read as, in n turns
abbrev pub invariant-read_items-items : goal.invariant-read_items-items
invariant-read_items-items l =
    let all = λ (turns : ℕ) (tokens : List Token). converted of_items (items (value l.depth) turns tokens) in
    (n : ℕ) × (length l.reader ≤ n)
    × (all (length l.initial.reader) l.initial.reader ≡ parse_map (trees_before l.trees.items) (all n l.reader))
    × (length l.reader ≤ length l.initial.reader)
    × (items_are_whole (items_data l.trees.items) ≡ true)

abbrev pub decreases-read_items-items : goal.decreases-read_items-items
decreases-read_items-items l = length l.reader

-- the same of the members, which go into those so far
abbrev pub invariant-read_members-members : goal.invariant-read_members-members
invariant-read_members-members l =
    let all = λ (found : Members) (turns : ℕ) (tokens : List Token).
    converted (λ ms. of_members ms found) (members (value l.depth) turns tokens) in
    (n : ℕ) × (length l.reader ≤ n)
    × (all no_members (length l.initial.reader) l.initial.reader ≡ all (entries_data l.map.entries) n l.reader)
    × (length l.reader ≤ length l.initial.reader)
    × (members_are_whole (entries_data l.map.entries) ≡ true)

abbrev pub decreases-read_members-members : goal.decreases-read_members-members
decreases-read_members-members l = length l.reader
