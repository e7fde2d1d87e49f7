use Rattle.std.proofs.Common.{◌≡◌, ◌∷◌, [], List, ℕ, None, Some, rules, sym, subst, is_some}
use Rattle.std.proofs.lemmas.Result.{on_ok_weaker}
use Rattle.std.specs.Prelude.{codes, true}
use Rattle.serde_json.specs.Data.{number, unsigned}
use Rattle.json.specs.Token.{Token}
use Rattle.json_tree.specs.Pointer.{pointer_text}
use Rattle.json_patch.specs.Operations.{Operation}
use Rattle.alto_maps.specs.Writing.{AddsValue}
use Rattle.cost_docs.specs.Writing.{AddsTokens}
use Rattle.edge_text.specs.Operations.{addition_tokens, removal_tokens, tokens_of}
use Rattle.edge_text.proofs.ChangeLemmas.{addition_written, cost_added, cost_removed, removed_told}
use Rattle.edge_text.proofs.operations.write_change.Goals as goal

pub returns-in-Some : goal.returns-in-Some
returns-in-Some c =
    let old = c.args.costs.before in
    let new = c.args.costs.after in
    let path = codes "cost-map" ∷ c.args.source.now ∷ c.args.destination.now ∷ [] in
    let there : new ≡ Some c.in-Some.cost = search rules in
    let printed : c.as_str.result.now ≡ pointer_text path = search rules in
    let begun : AddsTokens (addition_tokens (pointer_text path)) c.args.out.now c.begin_addition.new.out =
    subst (λ (text : List ℕ). AddsTokens (addition_tokens text) c.args.out.now c.begin_addition.new.out) printed
    c.in_ok-begin_addition.ensures in
    let value : AddsValue (number (unsigned c.in-Some.cost)) c.begin_addition.new.out c.u64.new.self =
    record { tokens = search rules; before = search rules } in
    on_ok_weaker c.end_object.result
    (λ closed.
    subst (λ (os : List Operation). AddsTokens (tokens_of os) c.args.out.now c.end_object.new.self)
    (sym (cost_added (codes "cost-map") c.args.source.now c.args.destination.now old new c.in-Some.cost there))
    (addition_written path (number (unsigned c.in-Some.cost)) c.args.out.now c.begin_addition.new.out c.u64.new.self
    c.end_object.new.self begun value closed (search rules)))
    c.end_object.ensures.ok

pub returns-then-is_some : goal.returns-then-is_some
returns-then-is_some c =
    let old = c.args.costs.before in
    let new = c.args.costs.after in
    let path = codes "cost-map" ∷ c.args.source.now ∷ c.args.destination.now ∷ [] in
    let gone : new ≡ None = search rules in
    let was : is_some old ≡ true = search rules in
    let printed : c.as_str-then-is_some.result.now ≡ pointer_text path = search rules in
    on_ok_weaker c.write_removal.result
    (λ removal.
    subst (λ (os : List Operation). AddsTokens (tokens_of os) c.args.out.now c.write_removal.new.out)
    (sym (cost_removed (codes "cost-map") c.args.source.now c.args.destination.now old new gone was))
    (subst (λ (ts : List Token). AddsTokens ts c.args.out.now c.write_removal.new.out) (sym (removed_told path))
    (subst (λ (text : List ℕ). AddsTokens (removal_tokens text) c.args.out.now c.write_removal.new.out)
    printed removal)))
    c.write_removal.ensures
