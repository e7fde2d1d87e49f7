-- Digits that pass the test, and others.
use Rattle.std.proofs.Common.{sym, ◌∙◌, lit≤}
use Rattle.alto_addr.proofs.TokenTests.{value_is, decimal_refused}
use Rattle.alto_addr.proofs.reading.read_length.Goals as goal

pub returns-then-is_decimal-clause-ok : goal.returns-then-is_decimal-clause-ok
returns-then-is_decimal-clause-ok c =
    value_is c.args.digits.now c.value.result (sym c.is_decimal.ensures ∙ c.if-is_decimal.true) c.value.ensures

pub returns-else-is_decimal-clause-err : goal.returns-else-is_decimal-clause-err
returns-else-is_decimal-clause-err c = (
  decimal_refused 1000 (lit≤ tt) (lit≤ tt) c.args.digits.now (sym c.is_decimal.ensures ∙ c.if-is_decimal.false),
  c.length_text_front.ensures,
)
