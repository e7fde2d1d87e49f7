use Rattle.std.proofs.Common.{◌≡◌, ◌++◌, List, rules, sym, subst, map, ap, ◌∙◌, is_some}
use Rattle.std.proofs.lemmas.Result.{on_ok_weaker}
use Rattle.std.specs.Prelude.{codes, true, false, Some, option_map}
use Rattle.json.specs.Token.{Token}
use Rattle.json_patch.specs.Operations.{Operation}
use Rattle.alto_rows.specs.Order.{same_name}
use Rattle.alto_rows.specs.Rows.{value_of}
use Rattle.alto_maps.specs.OperationForm.{under}
use Rattle.alto_rows.specs.Costs.{cost_of, number_at}
use Rattle.cost_docs.specs.CostMap.{cost_face}
use Rattle.cost_docs.specs.Writing.{AddsTokens}
use Rattle.edge_text.specs.Operations.{are_both, both_standing, known_of, on_cost, on_pair, on_whole}
use Rattle.edge_text.specs.Operations.{tokens_of}
use Rattle.edge_text.specs.Pairs.{pair_in}
use Rattle.edge_text.proofs.OperationLemmas.{under_more}
use Rattle.edge_text.proofs.PlaceLemmas.{cost_is, cost_stands, pair_is}
use Rattle.edge_text.proofs.TurnLemmas.{first_alone, first_is, more_is}
use Rattle.edge_text.proofs.WrittenLemmas.{both_added}
use Rattle.edge_text.proofs.operations.write_key.Goals as goal

pub turn_to-requires-clause-stood : goal.turn_to-requires-clause-stood
turn_to-requires-clause-stood g c =
    let net = c.args.maps.now.net.now in
    let metric = c.args.maps.now.metric.now in
    let rows = g.R.RowStore.rows c.args.maps.now.before.now in
    let src = c.in-Cost.source in
    let dst = c.in-Cost.destination in
    let same : same_name net c.in-Cost.of ≡ true = search rules in
    let same' : same_name metric c.in-Cost.kind ≡ true = search rules in
    let cost : c.costs_of-costs.result.before ≡ cost_of rows net metric src dst =
    c.costs_of-costs.ensures.before ∙ cost_is net metric c.in-Cost.of c.in-Cost.kind src dst rows c.args.key.now
    (search rules) same same' in
    λ some. cost_stands net metric src dst rows c.requires.good_before (ap is_some (sym cost) ∙ some)

pub turn_to-requires-clause-stands : goal.turn_to-requires-clause-stands
turn_to-requires-clause-stands g c =
    let net = c.args.maps.now.net.now in
    let metric = c.args.maps.now.metric.now in
    let rows = g.R.RowStore.rows c.args.maps.now.after.now in
    let src = c.in-Cost.source in
    let dst = c.in-Cost.destination in
    let same : same_name net c.in-Cost.of ≡ true = search rules in
    let same' : same_name metric c.in-Cost.kind ≡ true = search rules in
    let cost : c.costs_of-costs.result.after ≡ cost_of rows net metric src dst =
    c.costs_of-costs.ensures.after ∙ cost_is net metric c.in-Cost.of c.in-Cost.kind src dst rows c.args.key.now
    (search rules) same same' in
    λ some. cost_stands net metric src dst rows c.requires.good (ap is_some (sym cost) ∙ some)

pub returns-in-Some-true-clause-tokens : goal.returns-in-Some-true-clause-tokens
returns-in-Some-true-clause-tokens g c =
    let net = c.args.maps.now.net.now in
    let metric = c.args.maps.now.metric.now in
    let rows = g.R.RowStore.rows c.args.maps.now.before.now in
    let rows' = g.R.RowStore.rows c.args.maps.now.after.now in
    let src = c.in-Cost.source in
    let dst = c.in-Cost.destination in
    let turned = c.args.turned.now in
    let same : same_name net c.in-Cost.of ≡ true = search rules in
    let same' : same_name metric c.in-Cost.kind ≡ true = search rules in
    let is : pair_in net metric c.args.key.now ≡ Some (src, dst) =
    pair_is net metric c.in-Cost.of c.in-Cost.kind src dst c.args.key.now (search rules) same same' in
    let old : number_at (value_of rows c.args.key.now) ≡ cost_of rows net metric src dst =
    cost_is net metric c.in-Cost.of c.in-Cost.kind src dst rows c.args.key.now (search rules) same same' in
    let new : number_at (value_of rows' c.args.key.now) ≡ cost_of rows' net metric src dst =
    cost_is net metric c.in-Cost.of c.in-Cost.kind src dst rows' c.args.key.now (search rules) same same' in
    let costs = c.change_of.result in
    let known : Some true ≡ option_map are_both (known_of turned src) =
    ap (λ b. Some b) (sym c.in-Some-true.field-0-test) ∙ c.in-Some-true.ensures in
    let pair : on_pair (cost_face net metric rows) (cost_face net metric rows')
    turned (pair_in net metric c.args.key.now) ≡ map (under src) (on_cost dst costs.before costs.after) =
    more_is net metric src dst rows rows' turned (pair_in net metric c.args.key.now)
    (number_at (value_of rows c.args.key.now)) costs.after c.requires.good_before c.requires.good is known old
    (c.change_of.ensures.after ∙ new)
    ∙ ap (λ n. map (under src) (on_cost dst n costs.after)) (sym c.change_of.ensures.before) in
    on_ok_weaker c.write_change.result
    (λ changed. subst (λ (os : List Operation). AddsTokens (tokens_of (map (under (codes "cost-map")) os))
    c.args.out.now c.write_change.new.out) (sym pair) changed)
    c.write_change.ensures

pub returns-then-branch-clause-tokens : goal.returns-then-branch-clause-tokens
returns-then-branch-clause-tokens g c =
    let net = c.args.maps.now.net.now in
    let metric = c.args.maps.now.metric.now in
    let rows = g.R.RowStore.rows c.args.maps.now.before.now in
    let rows' = g.R.RowStore.rows c.args.maps.now.after.now in
    let src = c.in-Cost.source in
    let dst = c.in-Cost.destination in
    let turned = c.args.turned.now in
    let same : same_name net c.in-Cost.of ≡ true = search rules in
    let same' : same_name metric c.in-Cost.kind ≡ true = search rules in
    let is : pair_in net metric c.args.key.now ≡ Some (src, dst) =
    pair_is net metric c.in-Cost.of c.in-Cost.kind src dst c.args.key.now (search rules) same same' in
    let old : number_at (value_of rows c.args.key.now) ≡ cost_of rows net metric src dst =
    cost_is net metric c.in-Cost.of c.in-Cost.kind src dst rows c.args.key.now (search rules) same same' in
    let new : number_at (value_of rows' c.args.key.now) ≡ cost_of rows' net metric src dst =
    cost_is net metric c.in-Cost.of c.in-Cost.kind src dst rows' c.args.key.now (search rules) same same' in
    let costs = c.costs_of-costs.result in
    let both = both_standing (cost_face net metric rows) (cost_face net metric rows') src in
    let whole = on_whole (cost_face net metric rows') src both in
    let change = map (under src) (on_cost dst costs.before costs.after) in
    let together : are_both both ≡ true = sym c.in_ok-turn_to-in-None.ensures.both ∙ c.if-branch.true in
    let pair : on_pair (cost_face net metric rows) (cost_face net metric rows')
    turned (pair_in net metric c.args.key.now) ≡ whole ++ change =
    first_is net metric src dst rows rows' turned (pair_in net metric c.args.key.now) costs.before costs.after
    c.requires.good_before c.requires.good is c.in-None.ensures
    (c.costs_of-costs.ensures.before ∙ old) (c.costs_of-costs.ensures.after ∙ new) together in
    on_ok_weaker c.write_change-then-branch.result
    (λ changed.
    subst (λ (os : List Operation). AddsTokens (tokens_of (map (under (codes "cost-map")) os)) c.args.out.now
    c.write_change-then-branch.new.out) (sym pair)
    (subst (λ (ts : List Token). AddsTokens ts c.args.out.now c.write_change-then-branch.new.out)
    (sym (under_more (codes "cost-map") whole change))
    (both_added (tokens_of (map (under (codes "cost-map")) whole)) (tokens_of (map (under (codes "cost-map")) change))
    c.args.out.now c.turn_to.new.out c.write_change-then-branch.new.out
    c.in_ok-turn_to-in-None.ensures.tokens changed)))
    c.write_change-then-branch.ensures

pub returns-else-branch-clause-tokens : goal.returns-else-branch-clause-tokens
returns-else-branch-clause-tokens g c =
    let net = c.args.maps.now.net.now in
    let metric = c.args.maps.now.metric.now in
    let rows = g.R.RowStore.rows c.args.maps.now.before.now in
    let rows' = g.R.RowStore.rows c.args.maps.now.after.now in
    let src = c.in-Cost.source in
    let dst = c.in-Cost.destination in
    let turned = c.args.turned.now in
    let same : same_name net c.in-Cost.of ≡ true = search rules in
    let same' : same_name metric c.in-Cost.kind ≡ true = search rules in
    let is : pair_in net metric c.args.key.now ≡ Some (src, dst) =
    pair_is net metric c.in-Cost.of c.in-Cost.kind src dst c.args.key.now (search rules) same same' in
    let both = both_standing (cost_face net metric rows) (cost_face net metric rows') src in
    let apart : are_both both ≡ false = sym c.in_ok-turn_to-in-None.ensures.both ∙ c.if-branch.false in
    subst (λ (os : List Operation). AddsTokens (tokens_of (map (under (codes "cost-map")) os)) c.args.out.now
    c.turn_to.new.out)
    (sym (first_alone (cost_face net metric rows) (cost_face net metric rows') turned src
    dst (pair_in net metric c.args.key.now) is c.in-None.ensures apart))
    c.in_ok-turn_to-in-None.ensures.tokens
