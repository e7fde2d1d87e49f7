use Rattle.std.proofs.Common.{refl, arith}
use Rattle.std.proofs.lemmas.Fmt.{decimal_digit}
use Rattle.alto_rows.specs.Order.{key_cmp, resource_cmp}
use Rattle.json_tree.specs.Document.{with_member}
use Rattle.alto_maps.specs.MergeForm.{merge_form}
use Rattle.alto_maps.specs.Places.{set_of}
use Rattle.json.specs.Print.{escape_byte}
use Rattle.percent_encoding.specs.Percent.{percent_decode}
use Rattle.alto_maps.specs.Shape.{document}
use Rattle.worked_examples.proofs.Decimals.{decimal_three}
use Rattle.worked_examples.proofs.WrittenBook.{metro_book-written}
use Rattle.worked_examples.proofs.edges.an_edge_below_the_window_is_gone.Goals as goal

pub returns-clause-step : goal.returns-clause-step
unfolding key_cmp resource_cmp with_member escape_byte percent_decode document merge_form set_of
returns-clause-step c = rw (
  metro_book-written 2,
  decimal_digit 3 (omega arith),
  decimal_three 410 (omega arith)
      (omega arith),
) refl

pub returns-clause-snapshot : goal.returns-clause-snapshot
unfolding key_cmp resource_cmp with_member escape_byte percent_decode document merge_form set_of
returns-clause-snapshot c = rw (
  metro_book-written 2,
  decimal_digit 3 (omega arith),
  decimal_three 410 (omega arith)
      (omega arith),
) refl

pub returns-clause-kept_step : goal.returns-clause-kept_step
unfolding key_cmp resource_cmp with_member escape_byte percent_decode document merge_form set_of
returns-clause-kept_step c = rw (metro_book-written 2, decimal_digit 4 (omega arith)) refl

pub returns-clause-kept_snapshot : goal.returns-clause-kept_snapshot
unfolding key_cmp resource_cmp with_member escape_byte percent_decode document merge_form set_of
returns-clause-kept_snapshot c = rw (metro_book-written 2, decimal_digit 3 (omega arith)) refl
