-- The moments tell, or the ids.
use Rattle.std.proofs.Common.{sym, ◌∙◌}
use Rattle.std.proofs.lemmas.Result.{IfOk-weaker}
use Rattle.base_check.proofs.ReceiptLemmas.{fall, ids_decide}
use Rattle.base_check.proofs.receipts.keep_receipts.Goals as goal

pub returns-then-not-never_fall : goal.returns-then-not-never_fall
returns-then-not-never_fall c = fall c.args.receipts.now (sym c.never_fall.ensures ∙ c.if-not-never_fall.true)

pub returns : goal.returns
returns c =
    IfOk-weaker c.are_distinct.result _ _
    (λ distinct decides. ids_decide c.args.receipts.now distinct (sym c.never_fall.ensures
    ∙ c.if-not-never_fall.false) decides)
    c.are_distinct.ensures
