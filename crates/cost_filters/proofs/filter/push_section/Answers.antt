-- The groups between their braces are those of the filtered map.
use Rattle.std.proofs.Common.{◌≡◌, ◌∙◌, ◌++◌, ◌∷◌, [], ap, append_assoc, map, subst, sym}
use Rattle.std.proofs.lemmas.Result.{on_ok_weaker}
use Rattle.std.specs.Prelude.{List, false, option_map}
use Rattle.alto_maps.specs.Shape.{Name}
use Rattle.serde_json.specs.Data.{Data, object}
use Rattle.serde_json.specs.Written.{compact_text, members_text}
use Rattle.json_tree.specs.Tree.{members_in_order}
use Rattle.alto_maps.specs.Shape.{section_object}
use Rattle.cost_filters.specs.Ask.{CostAskData}
use Rattle.cost_filters.specs.Columns.{srcs_tried, valued}
use Rattle.cost_filters.specs.Filter.{filtered_face}
use Rattle.cost_tables.specs.Tables.{IsSetOf}
use Rattle.cost_filters.specs.Names.{AreSetIfAny, names_given, srcs_among}
use Rattle.cost_filters.specs.Pairs.{pairs_of}
use Rattle.cost_filters.specs.Text.{group_made}
use Rattle.cost_filters.proofs.TextLemmas.{given_rise, section_is, tried_set}
use Rattle.cost_filters.proofs.filter.push_section.Goals as goal

pub push_groups-requires : goal.push_groups-requires
push_groups-requires g c = subst AreSetIfAny (sym c.in_ok-given.ensures) (given_rise c.ask.inside.dsts)

pub returns : goal.returns
returns g c =
    let rows = g.R.RowStore.rows c.args.rows.now in
    let net = c.args.net.now in
    let ask = c.args.ask.now in
    let srcs = c.in_ok-srcs.srcs.items in
    let made : c.in_ok-pairs.pairs ≡ pairs_of rows net ask =
    c.in_ok-pairs.ensures
    ∙ ((λ i. record {
      rows = rows;
      net = net;
      types = c.deref.ensures.value i;
      tested = c.deref-2.ensures.value i;
      alternatives = map (λ constraints. constraints.items) (c.deref-3.ensures.value i);
    })
    ∙ ap (pairs_of rows net) c.ask.view_is) in
    let set : IsSetOf srcs (srcs_tried rows net ask.srcs) =
    subst (λ (asked : CostAskData). IsSetOf srcs (srcs_tried rows net asked.srcs)) c.ask.view_is
    (tried_set rows net c.ask.inside.srcs c.in_ok-pids.pids.items srcs c.requires.good.sorted c.in_ok-pids.ensures
    (c.in_ok-srcs.ensures ∙ ap (λ (pids : List Name). srcs_among pids c.ask.inside.srcs) c.deref-4.ensures.value)) in
    let given : option_map (λ names. names.items) c.in_ok-given.given ≡ names_given ask.dsts =
    c.in_ok-given.ensures ∙ ap (λ (asked : CostAskData). names_given asked.dsts) c.ask.view_is in
    let multi : c.ask.inside.multi ≡ ask.multi = ap (λ (asked : CostAskData). asked.multi) c.ask.view_is in
    let whole : object (members_in_order
    (valued (group_made c.ask.inside.multi (option_map (λ names. names.items) c.in_ok-given.given) c.in_ok-pairs.pairs)
    c.deref-5.result.now))
    ≡ section_object (filtered_face rows net ask) =
    (λ i. object (members_in_order (valued (group_made (multi i) (given i) (made i)) (c.deref-5.ensures.value i))))
    ∙ section_is rows net ask srcs c.requires.good set in
    let members = members_in_order (valued (group_made c.ask.inside.multi
    (option_map (λ names. names.items) c.in_ok-given.given) c.in_ok-pairs.pairs) c.deref-5.result.now) in
    on_ok_weaker c.push_groups.result
    (λ put. put
    ∙ (ap (λ bytes. bytes ++ members_text false members) c.in_ok-push.ensures
    ∙ (append_assoc c.args.out.now (123 ∷ []) (members_text false members)
    ∙ ap (λ (d : Data). c.args.out.now ++ compact_text d) whole)))
    c.push_groups.ensures
