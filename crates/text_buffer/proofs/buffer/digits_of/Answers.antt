-- One digit more than the greatest power of ten that isn't above the number.
use Rattle.std.proofs.Common.{arith, sym}
use Rattle.itoa.proofs.Decimal.{length_one}
use Rattle.text_buffer.proofs.DigitsLemmas.{digits_are}
use Rattle.text_buffer.proofs.buffer.digits_of.Goals as goal

pub returns-in-Some : goal.returns-in-Some
returns-in-Some c = sym (digits_are c.in-Some.power c.args.number (omega (arith, c.ranges.number.fits))
    c.in-Some.ensures.power_le c.in-Some.ensures.next_power_gt)

pub returns-in-None : goal.returns-in-None
returns-in-None c = sym (length_one c.args.number (omega (arith, c.in-None.ensures.none)))
