-- Tokens that were written for a value are read back as that value.
use Rattle.std.proofs.Common.{◌≡◌, ℕ, ◌≤◌, List, [], Option, Some, option_and_then, sym, ap, ◌∙◌, arith, append-nil}
use Rattle.json.specs.Token.{Token}
use Rattle.json.specs.Lex.{tokens}
use Rattle.json.specs.Json as json
use Rattle.json.specs.Tree as tree
use Rattle.json.proofs.Printed.Trees.{value-json_tokens}
use Rattle.serde_json.specs.Data.{Data, null, boolean, number, string, array, object, Items, no_items, item, Members}
use Rattle.serde_json.specs.Data.{no_members, member, depth, items_depth, members_depth}
use Rattle.serde_json.specs.Read.{read, of_json, max_depth}
use Rattle.serde_json.specs.Written.{outline, items_outline, members_outline}

mutual
  pub depth-outline : (d : Data) → tree.depth (outline d) ≤ depth d
  depth-outline null = omega arith
  depth-outline (boolean b) = omega arith
  depth-outline (number n) = omega arith
  depth-outline (string s) = omega arith
  depth-outline (array ds) = omega (arith, items_depth-outline ds)
  depth-outline (object ms) = omega (arith, members_depth-outline ms)

  items_depth-outline : (ds : Items) → tree.items_depth (items_outline ds) ≤ items_depth ds
  items_depth-outline no_items = omega arith
  items_depth-outline (item d ds) = omega (arith, depth-outline d, items_depth-outline ds)

  members_depth-outline : (ms : Members) → tree.members_depth (members_outline ms) ≤ members_depth ms
  members_depth-outline no_members = omega arith
  members_depth-outline (member k d ms) = omega (arith, depth-outline d, members_depth-outline ms)

-- what the tokens that the grammar took stand for, where none is left
abbrev whole : Option (json.Json × List Token) → Option Data
whole o = option_and_then of_json (option_and_then (λ p. json.if_last p.0 p.1) o)

pub read_back : (d : Data) (text : List ℕ) → tokens text ≡ tree.json_tokens (outline d) → of_json (outline d) ≡ Some d
    → depth d ≤ max_depth → read text ≡ Some d
read_back d text written reads shallow =
    ap whole (ap (json.value max_depth) (written ∙ sym (append-nil _))
    ∙ value-json_tokens (outline d) max_depth [] (omega (arith, depth-outline d))) ∙ reads
