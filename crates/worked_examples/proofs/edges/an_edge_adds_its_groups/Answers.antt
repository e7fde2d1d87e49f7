use Rattle.std.proofs.Common.{refl, arith}
use Rattle.std.proofs.lemmas.Fmt.{decimal_digit}
use Rattle.alto_rows.specs.Order.{key_cmp, resource_cmp}
use Rattle.json_tree.specs.Document.{with_member}
use Rattle.alto_maps.specs.MergeForm.{merge_form}
use Rattle.alto_maps.specs.Places.{set_of}
use Rattle.json.specs.Print.{escape_byte}
use Rattle.percent_encoding.specs.Percent.{percent_decode}
use Rattle.worked_examples.proofs.WrittenBook.{metro_book-written}
use Rattle.worked_examples.proofs.edges.an_edge_adds_its_groups.Goals as goal

pub returns-clause-step : goal.returns-clause-step
unfolding key_cmp resource_cmp with_member escape_byte percent_decode merge_form set_of
returns-clause-step c = rw (metro_book-written 8, decimal_digit 2 (omega arith)) refl

pub returns-clause-longer : goal.returns-clause-longer
unfolding key_cmp resource_cmp with_member escape_byte percent_decode merge_form set_of
returns-clause-longer c = rw (metro_book-written 8, decimal_digit 4 (omega arith)) refl
