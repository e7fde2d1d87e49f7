use Rattle.std.proofs.Common.{◌∙◌}
use Rattle.net_docs.proofs.FilterLemmas.{asked_owned, families_asked}
use Rattle.net_docs.specs.Prefixes.{prefixes_owned}
use Rattle.net_docs.proofs.filter.group.Goals as goal

pub returns : goal.returns
returns g c =
    let net = c.args.net.now in
    let pid = c.args.pid.now in
    let asked = c.args.families.now in
    let rows = g.R.RowStore.rows c.args.rows.now in
    rw (
      c.into_tree.ensures,
      c.in_ok-put_asked-2.ensures,
      c.in_ok-put_asked.ensures,
      c.new-group.ensures,
      c.deref.ensures.value,
      c.deref-2.ensures.value,
      c.in_ok-prefixes.ensures,
    )
    (families_asked asked (prefixes_owned rows net pid) ∙ asked_owned rows net pid asked)
