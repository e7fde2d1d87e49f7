-- Any other edit has one write.
use Rattle.alto_rules.proofs.CompileLemmas.{one_left}
use Rattle.alto_rules.proofs.draft.Draft.with.Goals as goal

pub with_row-requires : goal.with_row-requires
with_row-requires g c =
    one_left c.args.edit.now c.in_default.not-NetDrop c.in_default.not-PidDrop c.in_default.not-MetricDrop
    c.in_default.not-PrefixPut
