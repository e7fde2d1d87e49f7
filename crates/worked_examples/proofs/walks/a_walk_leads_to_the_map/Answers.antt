use Rattle.std.proofs.Common.{refl, arith}
use Rattle.std.proofs.lemmas.Fmt.{decimal_digit}
use Rattle.alto_rows.specs.Order.{key_cmp, resource_cmp}
use Rattle.json.specs.Print.{escape_byte}
use Rattle.json_patch.specs.Merge.{merge_patched}
use Rattle.json_patch.specs.Operations.{operations_applied}
use Rattle.json_tree.specs.Document.{with_member}
use Rattle.alto_maps.specs.MergeForm.{merge_form}
use Rattle.alto_maps.specs.OperationForm.{operation_form}
use Rattle.alto_maps.specs.Places.{set_of}
use Rattle.alto_maps.specs.Shape.{document}
use Rattle.worked_examples.proofs.WrittenBook.{metro_book-written}
use Rattle.worked_examples.proofs.walks.a_walk_leads_to_the_map.Goals as goal

pub returns : goal.returns
unfolding key_cmp resource_cmp with_member document merge_patched escape_byte merge_form operation_form
    operations_applied set_of
returns c = rw (metro_book-written 8, decimal_digit 4 (omega arith)) refl
