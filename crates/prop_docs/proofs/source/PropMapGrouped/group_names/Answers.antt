use Rattle.std.proofs.Common.{sym, ◌∙◌}
use Rattle.std.proofs.lemmas.Result.{IfOk-weaker}
use Rattle.alto_maps.proofs.SetLemmas.{rise-set_of}
use Rattle.doc_pieces.proofs.NameLemmas.{set_of-rising}
use Rattle.prop_docs.specs.PropertyMap.{entities_of}
use Rattle.prop_docs.proofs.source.PropMapGrouped.group_names.Goals as goal

pub returns : goal.returns
returns g c =
    let rows = g.R.RowStore.rows c.self.inside.rows.now in
    let net = c.self.inside.net.now in
    rw (← c.self.view_is)
    (IfOk-weaker c.group_names.result _ _ (λ names is. is ∙ sym (set_of-rising (entities_of rows net) (rise-set_of _)))
    c.group_names.ensures)
