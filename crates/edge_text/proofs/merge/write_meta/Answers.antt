use Rattle.std.proofs.Common.{rules, sym, subst, Option}
use Rattle.std.proofs.lemmas.Result.{on_ok_weaker}
use Rattle.std.specs.Prelude.{codes}
use Rattle.serde_json.specs.Data.{Data}
use Rattle.cost_docs.specs.CostMap.{cost_face}
use Rattle.cost_docs.specs.Writing.{AddsTokens}
use Rattle.edge_text.specs.Merge.{part_tokens}
use Rattle.edge_text.proofs.WrittenLemmas.{meta_added, no_meta, nothing_added}
use Rattle.edge_text.proofs.merge.write_meta.Goals as goal

pub returns-then-not-has_version : goal.returns-then-not-has_version
returns-then-not-has_version g c =
    let face = cost_face c.args.net.now c.args.metric.now (g.R.RowStore.rows c.args.rows.now) in
    subst (λ (meta : Option Data). AddsTokens (part_tokens (codes "meta") meta) c.args.out.now c.args.out.now)
    (sym (no_meta c.args.net.now c.args.metric.now face c.args.keys.now (search rules)))
    (nothing_added c.args.out.now)

pub returns : goal.returns
returns g c =
    on_ok_weaker c.end_object.result
    (λ closed.
    meta_added c.args.net.now c.args.metric.now (g.R.RowStore.rows c.args.rows.now) c.args.keys.now c.args.out.now
    c.key.new.self c.begin_object.new.self
    c.write_dependent_tags.new.out c.end_object.new.self (search rules) (search rules) (search rules) (search rules)
    (search rules) c.in_ok-write_dependent_tags.ensures closed (search rules))
    c.end_object.ensures.ok
