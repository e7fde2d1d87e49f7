use Rattle.std.proofs.Common.{refl, arith}
use Rattle.std.proofs.lemmas.Fmt.{decimal_digit}
use Rattle.alto_rows.specs.Order.{key_cmp, resource_cmp}
use Rattle.json_tree.specs.Document.{with_member}
use Rattle.json.specs.Print.{escape_byte}
use Rattle.percent_encoding.specs.Percent.{percent_decode}
use Rattle.worked_examples.proofs.Decimals.{decimal_three}
use Rattle.worked_examples.proofs.WrittenBook.{metro_book-written}
use Rattle.worked_examples.proofs.edges.what_lies_ahead_is_awaited_or_too_early.Goals as goal

pub returns-clause-next_step : goal.returns-clause-next_step
unfolding key_cmp resource_cmp with_member escape_byte percent_decode
returns-clause-next_step c = rw (metro_book-written 8) refl

pub returns-clause-snapshot : goal.returns-clause-snapshot
unfolding key_cmp resource_cmp with_member escape_byte percent_decode
returns-clause-snapshot c = rw (
  metro_book-written 8,
  decimal_digit 4 (omega arith),
  decimal_three 425 (omega arith)
      (omega arith),
) refl

pub returns-clause-step : goal.returns-clause-step
unfolding key_cmp resource_cmp with_member escape_byte percent_decode
returns-clause-step c = rw (
  metro_book-written 8,
  decimal_digit 4 (omega arith),
  decimal_three 425 (omega arith)
      (omega arith),
) refl

pub returns-clause-longer : goal.returns-clause-longer
unfolding key_cmp resource_cmp with_member escape_byte percent_decode
returns-clause-longer c = rw (
  metro_book-written 8,
  decimal_digit 4 (omega arith),
  decimal_three 425 (omega arith)
      (omega arith),
) refl
