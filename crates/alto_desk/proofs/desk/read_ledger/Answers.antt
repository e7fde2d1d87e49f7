-- What is told of a base and batches is told of the records that spell them.
use Rattle.std.proofs.Common.{sym, ◌∙◌}
use Rattle.std.proofs.lemmas.Result.{IfErr-weaker}
use Rattle.alto_desk.proofs.RecordLemmas.{explained}
use Rattle.alto_desk.proofs.desk.read_ledger.Goals as goal

pub returns-clause-refused : goal.returns-clause-refused
returns-clause-refused g c =
    let records = c.in_ok-records.ensures in
    IfErr-weaker c.opened.result _ _
    (λ fault tells clean stored held.
    explained fault stored _ _ _ _ records.head records.base records.storable
    (sym (c.in_ok-stored.ensures.loaded clean stored held) ∙ records.spelled)
    tells)
    c.opened.ensures.err
