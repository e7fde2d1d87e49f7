use Rattle.std.proofs.Common.{refl}
use Rattle.worked_examples.specs.Story.{metro_book}
use Rattle.alto_book.specs.Acceptance.{accept}
use Rattle.alto_edits.specs.Rules.{broken_rule}
use Rattle.alto_rows.specs.Order.{key_cmp, resource_cmp}
use Rattle.worked_examples.proofs.imports.a_refused_import_names_row_and_rule.Goals as goal

pub returns : goal.returns
unfolding metro_book accept broken_rule key_cmp resource_cmp
returns c = refl
