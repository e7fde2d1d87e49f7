use Rattle.std.proofs.Common.{arith, append-nil, sym}
use Rattle.code_bytes.proofs.NameLemmas.{bad_letter, too_short}
use Rattle.code_bytes.proofs.name.too_few.Goals as goal

pub returns-in-Some : goal.returns-in-Some
returns-in-Some g c =
    bad_letter g.K.Kind.alphabet g.K.Kind.LEAST c.args.bytes.now c.args.bytes.now _ c.args.count c.in-Some.place _
    g.met.K.Kind.has_least (omega arith)
    (sym (append-nil c.args.bytes.now)) c.in-Some.ensures.place (omega (arith, c.in-Some.ensures.within))

pub returns-in-None : goal.returns-in-None
returns-in-None g c =
    too_short g.K.Kind.alphabet g.K.Kind.LEAST c.args.bytes.now c.args.count g.met.K.Kind.has_least c.requires
    c.in-None.ensures.place
