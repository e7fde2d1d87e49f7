use Rattle.std.proofs.Common.{refl}
use Rattle.worked_examples.specs.Story.{metro_book}
use Rattle.alto_book.specs.Acceptance.{accept}
use Rattle.alto_edits.specs.Rules.{broken_rule}
use Rattle.alto_rows.specs.Order.{key_cmp, resource_cmp}
use Rattle.worked_examples.proofs.imports.a_known_import_is_told_again.Goals as goal

pub returns-clause-same_body : goal.returns-clause-same_body
unfolding metro_book accept broken_rule key_cmp resource_cmp
returns-clause-same_body c = refl

pub returns-clause-other_body : goal.returns-clause-other_body
unfolding metro_book accept broken_rule key_cmp resource_cmp
returns-clause-other_body c = refl
