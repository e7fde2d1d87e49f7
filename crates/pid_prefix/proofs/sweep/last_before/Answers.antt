use Rattle.pid_prefix.proofs.sweep.last_before.Goals as goal

pub returns-then-last-number-clause-some : goal.returns-then-last-number-clause-some
returns-then-last-number-clause-some c = (
  c.in_ok-block.block.now,
  (c.in_ok-block.field-0-1.now, c.in_ok-block.ensures.cases.0),
  c.last-last.ensures,
  c.if-last-number.true,
)
