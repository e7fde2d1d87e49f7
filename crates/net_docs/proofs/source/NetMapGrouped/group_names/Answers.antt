use Rattle.std.proofs.Common.{sym, ◌∙◌}
use Rattle.std.proofs.lemmas.Result.{IfOk-weaker}
use Rattle.doc_pieces.proofs.NameLemmas.{set_of-rising}
use Rattle.net_docs.specs.NetworkMap.{pids_of}
use Rattle.net_docs.proofs.MergedLemmas.{pids_rise}
use Rattle.net_docs.proofs.source.NetMapGrouped.group_names.Goals as goal

pub returns : goal.returns
returns g c =
    let rows = g.R.RowStore.rows c.self.inside.rows.now in
    let net = c.self.inside.net.now in
    rw (← c.self.view_is)
    (IfOk-weaker c.group_names.result _ _ (λ names is. is
    ∙ sym (set_of-rising (pids_of rows net) (pids_rise net rows c.self.invariant.sorted))) c.group_names.ensures)
