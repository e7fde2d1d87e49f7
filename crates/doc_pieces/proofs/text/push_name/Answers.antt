-- Bytes that stand for themselves are put as they are.
use Rattle.std.proofs.Common.{◌≡◌, ◌∙◌, ◌∷◌, ◌++◌, [], ap, sym, append_assoc}
use Rattle.std.proofs.lemmas.Result.{on_ok_weaker}
use Rattle.std.specs.List.{flat_map, list_all}
use Rattle.json.specs.Print.{escape_byte}
use Rattle.doc_pieces.specs.Text.{is_plain}
use Rattle.doc_pieces.proofs.PlainLemmas.{plain_text}
use Rattle.doc_pieces.proofs.text.push_name.Goals as goal

pub returns-then-are_plain : goal.returns-then-are_plain
returns-then-are_plain c =
    let name = c.args.name.now in
    let plain : flat_map escape_byte name ≡ name = plain_text name
    (ap (list_all is_plain) (sym c.as_bytes.ensures.value) ∙ sym c.if-are_plain.ensures) in
    let bytes : c.as_bytes-then-are_plain.result.now ≡ name = c.as_bytes-then-are_plain.ensures.value in
    on_ok_weaker c.push_plain.result
    (λ put. put
    ∙ ap (λ text. c.args.out.now ++ 34 ∷ text)
    (ap (λ text. text ++ 34 ∷ 58 ∷ []) bytes
    ∙ (sym (append_assoc name (34 ∷ []) (58 ∷ [])) ∙ ap (λ text. (text ++ 34 ∷ []) ++ 58 ∷ []) (sym plain))))
    c.push_plain.ensures
