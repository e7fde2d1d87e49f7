use Rattle.std.proofs.Common.{◌≡◌, true, ℕ, Bool, Option, rules, sym, ap, subst, ◌∙◌, is_some}
use Rattle.std.proofs.lemmas.Result.{on_ok_weaker}
use Rattle.alto_rows.specs.Order.{same_name}
use Rattle.alto_maps.specs.Shape.{stands}
use Rattle.alto_rows.specs.Costs.{cost_of}
use Rattle.cost_docs.specs.CostMap.{cost_face}
use Rattle.cost_docs.specs.Writing.{AddsTokens}
use Rattle.edge_text.specs.Merge.{change_tokens, pair_tokens, standing, turn_tokens}
use Rattle.edge_text.specs.Pairs.{Pair}
use Rattle.edge_text.proofs.PlaceLemmas.{cost_is, cost_stands, pair_is}
use Rattle.edge_text.proofs.WrittenLemmas.{both_added}
use Rattle.edge_text.proofs.merge.write_key.Goals as goal

pub turn_to-requires : goal.turn_to-requires
turn_to-requires g c =
    let rows = g.R.RowStore.rows c.args.rows.now in
    let net = c.args.net.now in
    let metric = c.args.metric.now in
    let src = c.in-Cost.source in
    let dst = c.in-Cost.destination in
    let same : same_name net c.in-Cost.of ≡ true = search rules in
    let same' : same_name metric c.in-Cost.kind ≡ true = search rules in
    let cost : c.number_at-cost.result ≡ cost_of rows net metric src dst =
    search rules ∙ cost_is net metric c.in-Cost.of c.in-Cost.kind src dst rows c.args.key.now
    (search rules) same same' in
    λ some. cost_stands net metric src dst rows c.requires (ap is_some (sym cost) ∙ some)

pub returns-in_ok-stands-in-Cost-clause-tokens : goal.returns-in_ok-stands-in-Cost-clause-tokens
returns-in_ok-stands-in-Cost-clause-tokens g c =
    let rows = g.R.RowStore.rows c.args.rows.now in
    let net = c.args.net.now in
    let metric = c.args.metric.now in
    let src = c.in-Cost.source in
    let dst = c.in-Cost.destination in
    let st = stands (cost_face net metric rows) in
    let begun = c.args.begun.now in
    let same : same_name net c.in-Cost.of ≡ true = search rules in
    let same' : same_name metric c.in-Cost.kind ≡ true = search rules in
    let cost : c.number_at-cost.result ≡ cost_of rows net metric src dst =
    search rules ∙ cost_is net metric c.in-Cost.of c.in-Cost.kind src dst rows c.args.key.now
    (search rules) same same' in
    let told : c.in_ok-stands-in-Cost.stands ≡ standing st begun src = c.in_ok-stands-in-Cost.ensures.stands in
    on_ok_weaker c.write_change.result
    (λ changed.
    subst (λ (o : Option Pair). AddsTokens (pair_tokens st (cost_of rows net metric) begun o) c.args.out.now
    c.write_change.new.out)
    (sym (pair_is net metric c.in-Cost.of c.in-Cost.kind src dst c.args.key.now (search rules) same same'))
    (both_added (turn_tokens st begun src) (change_tokens (standing st begun src) dst (cost_of rows net metric src dst))
    c.args.out.now c.turn_to.new.out c.write_change.new.out
    c.in_ok-stands-in-Cost.ensures.tokens
    (subst (λ (n : Option ℕ). AddsTokens (change_tokens (standing st begun src) dst n) c.turn_to.new.out
    c.write_change.new.out) cost
    (subst (λ (s : Bool). AddsTokens (change_tokens s dst c.number_at-cost.result) c.turn_to.new.out
    c.write_change.new.out) told changed))))
    c.write_change.ensures
