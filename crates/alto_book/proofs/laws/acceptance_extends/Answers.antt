use Rattle.alto_book.proofs.AcceptanceLemmas.{accept_extends}
use Rattle.alto_book.proofs.laws.acceptance_extends.Goals as goal

pub returns-clause-one_import : goal.returns-clause-one_import
returns-clause-one_import c = accept_extends
