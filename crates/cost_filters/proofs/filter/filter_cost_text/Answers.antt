-- The groups come before the meta.
use Rattle.std.proofs.Common.{◌≡◌, ◌∙◌, ◌++◌, ◌∷◌, [], ap}
use Rattle.std.specs.Prelude.{codes}
use Rattle.json.specs.Print.{print, quoted}
use Rattle.json.specs.Token.{key}
use Rattle.json.specs.Tree.{json_tokens}
use Rattle.serde_json.specs.Written.{compact_text, outline}
use Rattle.cost_filters.specs.Filter.{filtered_face, filtered_meta}
use Rattle.doc_pieces.proofs.PlainLemmas.{printed_member, section_opened}
use Rattle.cost_filters.proofs.TextLemmas.{document_text}
use Rattle.cost_filters.proofs.filter.filter_cost_text.Goals as goal

pub returns : goal.returns
returns g c =
    let rows = g.R.RowStore.rows c.args.rows.now in
    let meta = filtered_meta rows c.args.net.now c.args.ask.now in
    let opened : c.push.new.self ≡ 123 ∷ (quoted (codes "cost-map") ++ 58 ∷ []) =
    c.in_ok-push.ensures
    ∙ (ap (λ bytes. bytes ++ 123 ∷ (34 ∷ (codes "cost-map" ++ 34 ∷ 58 ∷ []))) c.in_ok-text.ensures
    ∙ section_opened) in
    let before : c.write_meta.new.out.before ≡ c.push-2.new.self =
    c.in_ok-write_meta.ensures.before ∙ (c.new-out.ensures.before ∙ c.into_bytes.ensures) in
    let tokens : c.write_meta.new.out.tokens ≡ key (codes "meta") ∷ json_tokens (outline meta) =
    c.in_ok-write_meta.ensures.tokens
    ∙ ap (λ ts. ts ++ key (codes "meta") ∷ json_tokens (outline meta)) c.new-out.ensures.tokens in
    let told : c.into_inner-whole.result.items
    ≡ c.push-2.new.self ++ (quoted (codes "meta") ++ 58 ∷ compact_text meta) =
    c.into_inner-whole.ensures.items
    ∙ ((λ i. before i ++ print (tokens i))
    ∙ ap (λ text. c.push-2.new.self ++ text) (printed_member (codes "meta") meta)) in
    document_text (filtered_face rows c.args.net.now c.args.ask.now) c.push.new.self
    c.push_section.new.out c.push-2.new.self c.into_inner-whole.result.items c.push-3.new.self.items
    opened c.in_ok-push_section.ensures c.in_ok-push-2.ensures told c.in_ok-push-3.ensures.items
