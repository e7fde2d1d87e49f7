use Rattle.std.proofs.Common.{ap, ◌∙◌}
use Rattle.net_docs.specs.Prefixes.{listed, texts_in_family}
use Rattle.net_docs.proofs.SourceLemmas.{listed_is}
use Rattle.net_docs.proofs.source.member_of.Goals as goal

pub returns : goal.returns
returns g c =
    let rows = g.R.RowStore.rows c.args.rows.now in
    let net = c.args.net.now in
    let pid = c.args.pid.now in
    c.listed.ensures
    ∙ (ap listed (c.in_ok-texts.ensures
    ∙ (λ i. texts_in_family (c.as_str.ensures.value i) ((c.deref.ensures.value ∙ c.in_ok-prefixes.ensures) i)))
    ∙ listed_is rows net pid c.args.kind.now c.requires)
