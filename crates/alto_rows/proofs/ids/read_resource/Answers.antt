use Rattle.std.proofs.lemmas.Result.{IfOk-weaker}
use Rattle.alto_rows.proofs.IdLemmas.{by_rest_at, no_net}
use Rattle.alto_rows.proofs.ids.read_resource.Goals as goal

pub returns-in-Some : goal.returns-in-Some
returns-in-Some c =
    let name = rw c.in-Some.is at c.in_ok-net.ensures in
    IfOk-weaker c.read_rest.result _ _
    (λ found is. by_rest_at c.args.text.now c.in-Some.net c.behind_first-rest.result.now c.net_end-end.result
    c.net_end-end.ensures name.0
    c.behind_first-rest.ensures found is)
    c.read_rest.ensures

pub returns-in-None : goal.returns-in-None
returns-in-None c =
    no_net c.args.text.now c.net_end-end.result c.net_end-end.ensures (rw c.in-None.is at c.in_ok-net.ensures)
