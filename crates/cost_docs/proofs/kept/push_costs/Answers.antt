-- Each turn writes one cost, and the end the brace behind the last.
use Rattle.std.proofs.Common.{◌≡◌, ◌++◌, ◌∙◌, None, Some, ap, option_map, slice_get, sym}
use Rattle.std.proofs.lemmas.Result.{on_ok_weaker}
use Rattle.serde_json.specs.Written.{compact_text}
use Rattle.cost_docs.specs.Kept.{costs_object}
use Rattle.cost_docs.proofs.KeptLemmas.{text_ended, text_more}
use Rattle.cost_docs.proofs.kept.push_costs.Goals as goal

pub loop-destination-preserved : goal.loop-destination-preserved
loop-destination-preserved c =
    let costs = c.args.costs.now in
    let l = c.loop-destination in
    let dst = c.in-Some.destination.now in
    let cost = c.in-Some.cost in
    let there : slice_get costs l.place ≡ Some (dst, cost) =
    sym c.pair.ensures ∙ ap (option_map (λ pair. (pair.0.now, pair.1))) c.in-Some.is in
    record {
      all = l.invariant.all;
      text = text_more l.out c.push_cost.new.out (c.args.out.now ++ compact_text (costs_object costs)) costs l.place
          (dst, cost) l.later there c.in_ok-push_cost.ensures l.invariant.text;
    }

pub returns-clause-text : goal.returns-clause-text
returns-clause-text c =
    let costs = c.args.costs.now in
    let l = c.loop-destination in
    let none : slice_get costs l.place ≡ None =
    sym c.pair.ensures ∙ ap (option_map (λ pair. (pair.0.now, pair.1))) c.in_default.is in
    let text = c.args.out.now ++ compact_text (costs_object costs) in
    on_ok_weaker c.push-2.result
    (λ is. text_ended l.out c.push-2.new.self text costs l.place l.later none is l.invariant.text) c.push-2.ensures
