use Rattle.code_bytes.proofs.FixedLemmas.{one_bad, one_none}
use Rattle.code_bytes.proofs.one.read_one.Goals as goal

pub returns-in_default-clause-stops : goal.returns-in_default-clause-stops
returns-in_default-clause-stops c = one_none c.args.byte c.args.bytes.now c.in_default.ensures

pub returns-then-first-byte-clause-stops : goal.returns-then-first-byte-clause-stops
returns-then-first-byte-clause-stops c = one_bad c.args.byte c.in-Some.first c.args.bytes.now c.in-Some.rest.now
    c.in-Some.ensures.0 c.if-first-byte.true
