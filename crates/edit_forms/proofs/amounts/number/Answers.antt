-- One digit more keeps the number below 10 to the power of the digits so far.
use Rattle.std.proofs.Common.{arith}
use Rattle.edit_forms.proofs.AmountLemmas.{number_grows}
use Rattle.edit_forms.proofs.amounts.number.Goals as goal

pub overflow_mul-number : goal.overflow_mul-number
overflow_mul-number c =
    let grows = number_grows c.args.digits.now c.loop-digit.digit-index c.loop-digit.number c.requires.decimal
    c.requires.few c.loop-digit-test.true c.loop-digit.invariant.value c.loop-digit.invariant.small in
    omega (arith, grows.fits)

pub overflow_add-number : goal.overflow_add-number
overflow_add-number c =
    let grows = number_grows c.args.digits.now c.loop-digit.digit-index c.loop-digit.number c.requires.decimal
    c.requires.few c.loop-digit-test.true c.loop-digit.invariant.value c.loop-digit.invariant.small in
    omega (arith, grows.fits, grows.digit, c.from.ensures)

pub loop-digit-preserved : goal.loop-digit-preserved
loop-digit-preserved c =
    let grows = number_grows c.args.digits.now c.loop-digit.digit-index c.loop-digit.number c.requires.decimal
    c.requires.few c.loop-digit-test.true c.loop-digit.invariant.value c.loop-digit.invariant.small in
    record { value = omega (arith, grows.value, c.from.ensures); small = omega (arith, grows.small, c.from.ensures) }
