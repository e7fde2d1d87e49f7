use Rattle.std.proofs.Common.{arith}
use Rattle.alto_http.proofs.FieldLemmas.{capped_more}
use Rattle.alto_http.proofs.fields.capped.Goals as goal

pub loop-digit-preserved : goal.loop-digit-preserved
loop-digit-preserved c =
    let more = capped_more c.args.digits.now c.loop-digit.digit-index c.loop-digit.size c.requires
    c.loop-digit-test.true c.loop-digit.invariant in
    grind (arith, more)
