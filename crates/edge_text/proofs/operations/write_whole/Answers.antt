use Rattle.std.proofs.Common.{◌≡◌, ◌∷◌, [], List, ℕ, rules, sym, subst}
use Rattle.std.proofs.lemmas.Result.{on_ok_weaker}
use Rattle.std.specs.Prelude.{codes}
use Rattle.json.specs.Token.{Token}
use Rattle.json_tree.specs.Pointer.{pointer_text}
use Rattle.json_patch.specs.Operations.{Operation}
use Rattle.alto_maps.specs.Shape.{group_object}
use Rattle.cost_docs.specs.CostMap.{cost_face}
use Rattle.cost_docs.specs.Writing.{AddsTokens}
use Rattle.edge_text.specs.Operations.{addition_tokens, removal_tokens, tokens_of}
use Rattle.edge_text.proofs.ChangeLemmas.{addition_written, removed_told, whole_added, whole_removed}
use Rattle.edge_text.proofs.operations.write_whole.Goals as goal

pub returns-in_ok-group_path-in-true-false : goal.returns-in_ok-group_path-in-true-false
returns-in_ok-group_path-in-true-false g c =
    let after = cost_face c.args.maps.now.net.now c.args.maps.now.metric.now
    (g.R.RowStore.rows c.args.maps.now.after.now) in
    let path = codes "cost-map" ∷ c.args.source.now ∷ [] in
    let printed : c.as_str.result.now ≡ pointer_text path = search rules in
    on_ok_weaker c.write_removal.result
    (λ removal.
    subst (λ (os : List Operation). AddsTokens (tokens_of os) c.args.out.now c.write_removal.new.out)
    (sym (whole_removed (codes "cost-map") after c.args.source.now c.args.stood c.args.stands (search rules)
    (search rules)))
    (subst (λ (ts : List Token). AddsTokens ts c.args.out.now c.write_removal.new.out) (sym (removed_told path))
    (subst (λ (text : List ℕ). AddsTokens (removal_tokens text) c.args.out.now c.write_removal.new.out)
    printed removal)))
    c.write_removal.ensures

pub returns-in_ok-write_costs-in-false-true : goal.returns-in_ok-write_costs-in-false-true
returns-in_ok-write_costs-in-false-true g c =
    let after = cost_face c.args.maps.now.net.now c.args.maps.now.metric.now
    (g.R.RowStore.rows c.args.maps.now.after.now) in
    let path = codes "cost-map" ∷ c.args.source.now ∷ [] in
    let printed : c.as_str-in-false-true.result.now ≡ pointer_text path = search rules in
    let begun : AddsTokens (addition_tokens (pointer_text path)) c.args.out.now c.begin_addition.new.out =
    subst (λ (text : List ℕ). AddsTokens (addition_tokens text) c.args.out.now c.begin_addition.new.out) printed
    c.in_ok-begin_addition-in-false-true.ensures in
    on_ok_weaker c.end_object.result
    (λ closed.
    subst (λ (os : List Operation). AddsTokens (tokens_of os) c.args.out.now c.end_object.new.self)
    (sym (whole_added (codes "cost-map") after c.args.source.now c.args.stood c.args.stands (search rules)
    (search rules)))
    (addition_written path (group_object after c.args.source.now) c.args.out.now c.begin_addition.new.out
    c.write_costs.new.out c.end_object.new.self begun
    c.in_ok-write_costs-in-false-true.ensures closed (search rules)))
    c.end_object.ensures.ok
