-- Fewer than sixteen digits write a number that has room for one more.
use Rattle.std.proofs.Common.{◌<◌, ◌^◌, arith}
use Rattle.cost_rule.proofs.DigitLemmas.{below_power}
use Rattle.cost_rule.proofs.digits.Digits.after.Goals as goal

pub overflow_mul-result : goal.overflow_mul-result
overflow_mul-result c =
    let below : c.args.self.number < 10 ^ 15 =
    below_power 15 c.args.self.count c.args.self.number (omega arith) c.requires.counted.bounded in
    omega arith

pub overflow_add-result-then-self-most : goal.overflow_add-result-then-self-most
overflow_add-result-then-self-most c =
    let below : c.args.self.number < 10 ^ 15 =
    below_power 15 c.args.self.count c.args.self.number (omega arith) c.requires.counted.bounded in
    omega arith
