use Rattle.std.proofs.Common.{◌∙◌}
use Rattle.path_docs.proofs.AneLemmas.{properties_from}
use Rattle.path_docs.proofs.ShownLemmas.{costs_from}
use Rattle.path_docs.proofs.answer.path_vector.Goals as goal

pub returns : goal.returns
returns g c =
    let rows = g.R.RowStore.rows c.args.rows.now in
    let net = c.args.net.now in
    let ask = c.args.ask.now in
    record {
      costs = c.in_ok-costs.ensures ∙ costs_from rows net ask c.args.n _ c.requires (c.deref.ensures.value
          ∙ c.in_ok-sources.ensures);
      properties = c.in_ok-properties.ensures
          ∙ properties_from rows net ask c.args.n _ c.requires (c.deref-2.ensures.value ∙ c.in_ok-sources.ensures);
    }
