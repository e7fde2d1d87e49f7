-- The declared networks decide.
use Rattle.std.proofs.Common.{arith}
use Rattle.std.proofs.lemmas.Result.{IfOk-weaker}
use Rattle.batch_check.proofs.NumberLemmas.{within_told}
use Rattle.batch_check.proofs.numbers.are_within.Goals as goal

pub returns : goal.returns
returns g c =
    IfOk-weaker c.nets_fit.result _ _
    (λ fit is. within_told (g.R.RowStore.rows c.args.rows.now) fit
    c.requires (omega (arith, c.len.ensures.count, c.if-len-gt-MOST_ROWS.false))
    (omega (arith, c.count_in.ensures.count, c.if-count_in-gt-MOST_NETS.false)) is)
    c.nets_fit.ensures
