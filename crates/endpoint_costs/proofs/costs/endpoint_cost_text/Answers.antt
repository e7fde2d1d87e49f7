-- The groups come before the meta.
use Rattle.std.proofs.Common.{◌≡◌, ◌∙◌, ◌++◌, ◌∷◌, [], ap}
use Rattle.std.specs.Prelude.{codes}
use Rattle.json.specs.Print.{print, quoted}
use Rattle.json.specs.Token.{key}
use Rattle.json.specs.Tree.{json_tokens}
use Rattle.serde_json.specs.Written.{compact_text, outline}
use Rattle.doc_pieces.proofs.PlainLemmas.{printed_member}
use Rattle.json_tree.specs.Document.{object_of}
use Rattle.endpoint_costs.specs.Ask.{EndAskData}
use Rattle.endpoint_costs.specs.Costs.{addrs_at, endpoint_meta, endpoints_at, endpoints_of, pairs_object}
use Rattle.endpoint_costs.proofs.TextLemmas.{document_text, section_opened}
use Rattle.endpoint_costs.proofs.costs.endpoint_cost_text.Goals as goal

pub returns : goal.returns
returns g c =
    let rows = g.R.RowStore.rows c.args.rows.now in
    let net = c.args.net.now in
    let ask = c.args.ask.now in
    let peer = c.args.peer in
    let srcs : c.in_ok-srcs.srcs.items ≡ endpoints_at rows net ask.srcs peer =
    c.in_ok-srcs.ensures.are ∙ (λ i. endpoints_of (c.requires.table i)
    (addrs_at (ap (λ (asked : EndAskData). asked.srcs) c.ask.view_is i) peer)) in
    let dsts : c.in_ok-dsts.dsts.items ≡ endpoints_at rows net ask.dsts peer =
    c.in_ok-dsts.ensures.are ∙ (λ i. endpoints_of (c.requires.table i)
    (addrs_at (ap (λ (asked : EndAskData). asked.dsts) c.ask.view_is i) peer)) in
    let meta = endpoint_meta ask in
    let opened : c.push.new.self ≡ 123 ∷ (quoted (codes "endpoint-cost-map") ++ 58 ∷ []) =
    c.in_ok-push.ensures
    ∙ (ap (λ bytes. bytes ++ 123 ∷ (34 ∷ (codes "endpoint-cost-map" ++ 34 ∷ 58 ∷ []))) c.in_ok-text.ensures
    ∙ section_opened) in
    let before : c.write_meta.new.out.before ≡ c.push-2.new.self =
    c.in_ok-write_meta.ensures.before ∙ (c.new-out.ensures.before ∙ c.into_bytes.ensures) in
    let tokens : c.write_meta.new.out.tokens ≡ key (codes "meta") ∷ json_tokens (outline meta) =
    c.in_ok-write_meta.ensures.tokens
    ∙ ap (λ ts. ts ++ key (codes "meta") ∷ json_tokens (outline meta)) c.new-out.ensures.tokens in
    let told : c.into_inner-whole.result.items
    ≡ c.push-2.new.self ++ (quoted (codes "meta") ++ 58 ∷ compact_text meta) =
    c.into_inner-whole.ensures.items
    ∙ ((λ i. before i ++ print (tokens i))
    ∙ ap (λ text. c.push-2.new.self ++ text) (printed_member (codes "meta") meta)) in
    document_text (pairs_object rows net ask c.in_ok-srcs.srcs.items c.in_ok-dsts.dsts.items) meta
    c.push.new.self c.push_section.new.out c.push-2.new.self
    c.into_inner-whole.result.items c.push-3.new.self.items
    opened c.in_ok-push_section.ensures c.in_ok-push-2.ensures told c.in_ok-push-3.ensures.items
    ∙ (λ i. compact_text (object_of ((codes "meta", meta)
    ∷ (codes "endpoint-cost-map", pairs_object rows net ask (srcs i) (dsts i)) ∷ [])))
