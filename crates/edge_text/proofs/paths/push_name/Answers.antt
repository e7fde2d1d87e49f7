use Rattle.std.proofs.Common.{◌≡◌, ◌++◌, ap, sym, ◌∙◌, append_assoc, string_bytes, rules}
use Rattle.std.specs.Prelude.{codes, OnOk}
use Rattle.std.proofs.lemmas.Result.{on_ok_weaker}
use Rattle.edge_text.proofs.PathLemmas.{token_same}
use Rattle.edge_text.proofs.paths.push_name.Goals as goal

pub returns : goal.returns
returns c =
    let path = string_bytes c.args.path.now in
    let name = c.args.name.now in
    let added : OnOk c.push_str-2.result (string_bytes c.push_str-2.new.self ≡ string_bytes c.push_str.new.self
    ++ c.as_str.result.now) = search rules in
    on_ok_weaker c.push_str-2.result
    (λ added.
    added
    ∙ (ap (λ bytes. bytes ++ c.as_str.result.now) c.in_ok-push_str.ensures.bytes
    ∙ (append_assoc path (codes "/") c.as_str.result.now
    ∙ ap (λ text. path ++ (codes "/" ++ text)) (c.as_str.ensures
    ∙ sym (token_same name c.as_bytes.ensures.read_again)))))
    added
