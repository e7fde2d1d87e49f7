use Rattle.alto_desk.proofs.trim.ledger_of.Goals as goal

pub count_writes-requires : goal.count_writes-requires
count_writes-requires g c = c.requires.writes
