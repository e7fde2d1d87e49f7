use Rattle.std.proofs.Common.{refl, arith}
use Rattle.std.proofs.lemmas.Fmt.{decimal_digit}
use Rattle.alto_rows.specs.Order.{key_cmp, resource_cmp}
use Rattle.json_tree.specs.Document.{with_member}
use Rattle.json.specs.Print.{escape_byte}
use Rattle.percent_encoding.specs.Percent.{percent_decode}
use Rattle.alto_maps.specs.Shape.{document}
use Rattle.worked_examples.proofs.WrittenBook.{metro_book-written}
use Rattle.worked_examples.proofs.edges.a_snapshot_is_of_its_own_number.Goals as goal

pub returns : goal.returns
unfolding key_cmp resource_cmp with_member escape_byte percent_decode document
returns c = rw (metro_book-written 8, decimal_digit 2 (omega arith)) refl
