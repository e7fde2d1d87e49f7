use Rattle.std.proofs.Common.{rules, sym, subst, List}
use Rattle.std.proofs.lemmas.Result.{on_ok_weaker}
use Rattle.json_patch.specs.Operations.{Operation}
use Rattle.cost_docs.specs.CostMap.{cost_face}
use Rattle.cost_docs.specs.Writing.{AddsTokens}
use Rattle.edge_text.specs.Operations.{tokens_of}
use Rattle.edge_text.proofs.ChangeLemmas.{no_version, version_written}
use Rattle.edge_text.proofs.WrittenLemmas.{nothing_added}
use Rattle.edge_text.proofs.operations.write_version.Goals as goal

pub returns-then-not-has_version : goal.returns-then-not-has_version
returns-then-not-has_version g c =
    let net = c.args.maps.now.net.now in
    let metric = c.args.maps.now.metric.now in
    let after = cost_face net metric (g.R.RowStore.rows c.args.maps.now.after.now) in
    subst (λ (os : List Operation). AddsTokens (tokens_of os) c.args.out.now c.args.out.now)
    (sym (no_version net metric after c.args.keys.now (search rules))) (nothing_added c.args.out.now)

pub returns : goal.returns
returns g c =
    on_ok_weaker c.end_object.result
    (λ closed.
    version_written c.args.maps.now.net.now c.args.maps.now.metric.now (g.R.RowStore.rows c.args.maps.now.after.now)
    c.args.keys.now c.args.out.now c.begin_object.new.self
    c.write_text.new.out c.write_text-2.new.out c.key.new.self c.write_tags.new.out c.end_object.new.self (search rules)
    (search rules) (search rules)
    c.in_ok-write_text.ensures c.in_ok-write_text-2.ensures (search rules) (search rules) c.in_ok-write_tags.ensures
    closed (search rules))
    c.end_object.ensures.ok
