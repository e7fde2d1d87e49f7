use Rattle.std.proofs.Common.{◌∙◌}
use Rattle.std.proofs.lemmas.Result.{IfOk-weaker}
use Rattle.alto_rows.proofs.IdLemmas.{names_none, names_if_declared}
use Rattle.alto_rows.proofs.ids.find_resource.Goals as goal

pub returns-in-Some : goal.returns-in-Some
returns-in-Some g c =
    let reads = rw c.in-Some.is at c.in_ok-of.ensures in
    IfOk-weaker c.if_declared.result _ _
    (λ found e. e ∙ names_if_declared (g.R.RowStore.rows c.args.rows.now) c.args.text.now c.in-Some.of c.requires reads)
    c.if_declared.ensures

pub returns-in-None : goal.returns-in-None
returns-in-None g c =
    let reads = rw c.in-None.is at c.in_ok-of.ensures in
    names_none (g.R.RowStore.rows c.args.rows.now) c.args.text.now c.requires reads
