use Rattle.code_bytes.proofs.PrefixLemmas.{length_bad, length_none}
use Rattle.code_bytes.proofs.prefix.read_length.Goals as goal

pub returns-in_default-clause-stops : goal.returns-in_default-clause-stops
returns-in_default-clause-stops c = length_none c.args.addr c.args.bytes.now c.in_default.ensures

pub returns-in-None-clause-stops : goal.returns-in-None-clause-stops
returns-in-None-clause-stops c = length_bad c.args.addr c.in-Some.len c.args.bytes.now c.in-Some.rest.now
    c.in-Some.ensures.0 c.in-None.ensures
