-- The groups of the addresses by what is found between their PIDs.
use Rattle.std.proofs.Common.{◌≡◌, ◌∙◌, ◌++◌, ◌∷◌, [], ap, append_assoc, map}
use Rattle.std.proofs.lemmas.Result.{on_ok_weaker}
use Rattle.std.specs.Prelude.{false}
use Rattle.serde_json.specs.Data.{Data, object}
use Rattle.serde_json.specs.Written.{compact_text, members_text}
use Rattle.json_tree.specs.Tree.{members_in_order}
use Rattle.alto_rows.specs.Prefixes.{prefixes_in}
use Rattle.cost_filters.specs.Pairs.{pair_costs, pairs_of}
use Rattle.endpoint_costs.specs.Ask.{EndAskData}
use Rattle.endpoint_costs.specs.Costs.{pairs_object, pid_ask}
use Rattle.cost_filters.specs.Text.{member_start}
use Rattle.endpoint_costs.specs.Entries.{groups_at, pids, texts}
use Rattle.endpoint_costs.proofs.EntryLemmas.{found_of, groups_are}
use Rattle.endpoint_costs.proofs.costs.push_section.Goals as goal

pub returns : goal.returns
returns g c =
    let rows = g.R.RowStore.rows c.args.rows.now in
    let net = c.args.net.now in
    let ask = c.args.ask.now in
    let srcs = c.args.srcs.items in
    let dsts = c.args.dsts.items in
    let multi : c.ask.inside.multi ≡ ask.multi = ap (λ (asked : EndAskData). asked.multi) c.ask.view_is in
    let made : c.in_ok-pairs.pairs ≡ pairs_of rows net (pid_ask ask) =
    c.in_ok-pairs.ensures
    ∙ ((λ i. record {
      rows = rows;
      net = net;
      types = c.deref.ensures.value i;
      tested = c.deref-2.ensures.value i;
      alternatives = map (λ constraints. constraints.items) (c.deref-3.ensures.value i);
    })
    ∙ ap (λ (asked : EndAskData). pairs_of rows net (pid_ask asked)) c.ask.view_is) in
    let from = c.in_order-srcs.result.items in
    let to = c.in_order-dsts.result.items in
    let src_pids : c.deref-6.result.now ≡ pids from =
    c.deref-6.ensures.value ∙ (c.in_ok-pids_of.ensures ∙ ap pids c.deref-5.ensures.value) in
    let dst_pids : c.deref-8.result.now ≡ pids to =
    c.deref-8.ensures.value ∙ (c.in_ok-pids_of-2.ensures ∙ ap pids c.deref-7.ensures.value) in
    let found : c.in_ok-between.between ≡ found_of (pairs_of rows net (pid_ask ask)) from to =
    c.in_ok-between.ensures ∙ (λ i. map (λ src. map (pair_costs (made i) src) (dst_pids i)) (src_pids i)) in
    let starts : c.in_ok-starts.starts ≡ map member_start (texts to) =
    c.in_ok-starts.ensures ∙ ap (λ ends. map member_start (texts ends)) c.deref-4.ensures.value in
    let whole : object (members_in_order
    (groups_at c.ask.inside.multi (texts to) c.deref-9.result.now c.in_ok-between.between))
    ≡ pairs_object rows net ask srcs dsts =
    (λ i. object (members_in_order
    (groups_at (multi i) (texts to) (c.deref-9.ensures.value i) (found i))))
    ∙ groups_are rows net ask (prefixes_in rows net) srcs dsts from to c.requires.srcs c.requires.dsts
    c.in_order-srcs.ensures c.in_order-dsts.ensures in
    let members = members_in_order
    (groups_at c.ask.inside.multi (texts to) c.deref-9.result.now c.in_ok-between.between) in
    on_ok_weaker c.push_groups.result
    (λ put. put (texts to) starts
    ∙ (ap (λ bytes. bytes ++ members_text false members) c.in_ok-push.ensures
    ∙ (append_assoc c.args.out.now (123 ∷ []) (members_text false members)
    ∙ ap (λ (d : Data). c.args.out.now ++ compact_text d) whole)))
    c.push_groups.ensures
