use Rattle.std.proofs.Common.{refl, arith}
use Rattle.alto_rows.specs.Order.{key_cmp, resource_cmp}
use Rattle.json_tree.specs.Document.{with_member}
use Rattle.json.specs.Print.{escape_byte}
use Rattle.percent_encoding.specs.Percent.{percent_decode}
use Rattle.worked_examples.proofs.Decimals.{decimal_three}
use Rattle.worked_examples.proofs.WrittenBook.{metro_book-written}
use Rattle.worked_examples.proofs.edges.what_is_no_edge_is_not_found.Goals as goal

pub returns-clause-odd : goal.returns-clause-odd
unfolding key_cmp resource_cmp with_member escape_byte percent_decode
returns-clause-odd c = rw (metro_book-written 8, decimal_three 404 (omega arith) (omega arith)) refl

pub returns-clause-no_step : goal.returns-clause-no_step
unfolding key_cmp resource_cmp with_member escape_byte percent_decode
returns-clause-no_step c = rw (metro_book-written 8, decimal_three 404 (omega arith) (omega arith)) refl

pub returns-clause-nothing : goal.returns-clause-nothing
unfolding key_cmp resource_cmp with_member escape_byte percent_decode
returns-clause-nothing c = rw (metro_book-written 8, decimal_three 404 (omega arith) (omega arith)) refl
