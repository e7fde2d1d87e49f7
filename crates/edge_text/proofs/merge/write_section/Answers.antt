use Rattle.std.proofs.Common.{rules, sym, subst, Option}
use Rattle.std.proofs.lemmas.Result.{on_ok_weaker}
use Rattle.std.specs.Prelude.{codes}
use Rattle.serde_json.specs.Data.{Data}
use Rattle.alto_maps.specs.MergeForm.{group_change}
use Rattle.cost_docs.specs.CostMap.{cost_face}
use Rattle.cost_docs.specs.Writing.{AddsTokens}
use Rattle.edge_text.specs.Merge.{part_tokens}
use Rattle.edge_text.proofs.PlaceLemmas.{places_of}
use Rattle.edge_text.proofs.WrittenLemmas.{no_section, nothing_added, section_added}
use Rattle.edge_text.proofs.merge.write_section.Goals as goal

pub returns-then-not-has_pair : goal.returns-then-not-has_pair
returns-then-not-has_pair g c =
    let net = c.args.net.now in
    let metric = c.args.metric.now in
    let face = cost_face net metric (g.R.RowStore.rows c.args.rows.now) in
    subst (λ (section : Option Data). AddsTokens (part_tokens (codes "cost-map") section) c.args.out.now c.args.out.now)
    (sym (no_section net metric c.args.keys.now (group_change face (places_of net metric c.args.keys.now))
    (search rules)))
    (nothing_added c.args.out.now)

pub returns : goal.returns
returns g c =
    on_ok_weaker c.end_object.result
    (λ closed.
    section_added c.args.net.now c.args.metric.now (g.R.RowStore.rows c.args.rows.now) c.args.keys.now c.args.out.now
    c.key.new.self c.begin_object.new.self c.write_groups.new.out
    c.end_object.new.self c.requires.good c.requires.rising (search rules) (search rules) (search rules) (search rules)
    (search rules) c.in_ok-write_groups.ensures closed (search rules))
    c.end_object.ensures.ok
