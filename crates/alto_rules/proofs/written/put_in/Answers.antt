-- What has a row was put.
use Rattle.std.proofs.Common.{refl}
use Rattle.alto_rules.proofs.written.put_in.Goals as goal

pub returns-then-has_row : goal.returns-then-has_row
returns-then-has_row c = rw (← c.has_row.ensures, c.if-has_row.true) refl
