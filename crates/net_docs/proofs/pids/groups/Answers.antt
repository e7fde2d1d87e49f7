use Rattle.std.proofs.Common.{◌≡◌, ap, ◌∙◌}
use Rattle.std.proofs.lemmas.Result.{IfOk-weaker}
use Rattle.alto_rows.specs.Prefixes.{prefixes_in}
use Rattle.serde_json.specs.Data.{object}
use Rattle.net_docs.specs.NetworkMap.{pids_of}
use Rattle.net_docs.specs.Merged.{merged_groups}
use Rattle.net_docs.proofs.MergedLemmas.{groups_merged}
use Rattle.net_docs.proofs.pids.groups.Goals as goal

pub returns : goal.returns
returns g c =
    let net = c.args.net.now in
    let rows = g.R.RowStore.rows c.args.rows.now in
    let pids : c.deref.result.now ≡ pids_of rows net = c.deref.ensures.value ∙ c.in_ok-pids.ensures in
    let prefixes : c.deref-2.result.now ≡ prefixes_in rows net = c.deref-2.ensures.value ∙ c.in_ok-prefixes.ensures in
    IfOk-weaker c.merged_groups.result _ _
    (λ tree is.
    is
    ∙ ((λ i. merged_groups (pids i) (prefixes i)) ∙ ap object (groups_merged net rows c.requires.sorted)))
    c.merged_groups.ensures
