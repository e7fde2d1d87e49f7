-- An octet has three digits at most.
use Rattle.std.proofs.Common.{◌<◌, ◌≤◌, arith}
use Rattle.alto_addr.proofs.Dotted.{octet_is_short}
use Rattle.alto_addr.proofs.addr.put_octet.Goals as goal

pub write_digits-requires : goal.write_digits-requires
write_digits-requires c =
    let short = octet_is_short c.into.result (omega (arith, c.into.ensures, c.ranges.octet.fits)) in
    (omega (arith, short, c.requires.0), omega (arith, c.told-room, c.requires.1))

pub returns-clause-start : goal.returns-clause-start
returns-clause-start c =
    let short = octet_is_short c.into.result (omega (arith, c.into.ensures, c.ranges.octet.fits)) in
    (omega (arith, c.write_digits.ensures.start), omega (arith, short, c.write_digits.ensures.start))
