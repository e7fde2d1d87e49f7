use Rattle.std.proofs.Common.{◌≡◌, [], Some, rules}
use Rattle.std.specs.Str.{IsUtf8}
use Rattle.json.specs.Json.{value}
use Rattle.json.specs.Lex.{tokens}
use Rattle.serde_json.specs.Read.{converted, of_json, read}
use Rattle.json_tree.specs.Tree.{data_of}
use Rattle.json_tree.specs.Whole.{whole_value}
use Rattle.json_tree.proofs.TextLemmas.{value_of_text}
use Rattle.json_tree.proofs.TokenLemmas.{read_whole}
use Rattle.json_tree.proofs.reading.read_tokens.Goals as goal

pub returns : goal.returns
unfolding whole_value
returns c =
    let bytes = c.args.bytes.now in
    let text = c.in_ok-text.text.now in
    let tree = c.in_ok-tree.tree in
    let same : text ≡ bytes = search rules in
    let utf8 : IsUtf8 bytes = search rules in
    let over : c.read_value.new.reader ≡ [] = search rules in
    let begun : c.in_ok-reader.reader ≡ tokens text = search rules in
    let all : converted of_json (value 127 (tokens text)) ≡ Some (data_of tree, []) =
    rw (begun, over) at c.in_ok-tree.ensures.value in
    let is : read bytes ≡ Some (data_of tree) = rw same at (read_whole (value 127 (tokens text)) (data_of tree) all) in
    rw (value_of_text bytes utf8, is, c.in_ok-tree.ensures.whole)
