use Rattle.std.proofs.Common.{ap, ◌∙◌}
use Rattle.std.proofs.lemmas.Result.{IfOk-weaker}
use Rattle.net_docs.specs.Prefixes.{group_of}
use Rattle.net_docs.proofs.GroupLemmas.{group_owned}
use Rattle.net_docs.proofs.pids.group.Goals as goal

pub returns : goal.returns
returns g c =
    let net = c.args.net.now in
    let rows = g.R.RowStore.rows c.args.rows.now in
    IfOk-weaker c.group_of.result _ _
    (λ tree is. is ∙ (ap group_of (c.deref.ensures.value ∙ c.in_ok-prefixes.ensures)
    ∙ group_owned rows net c.args.pid.now))
    c.group_of.ensures
