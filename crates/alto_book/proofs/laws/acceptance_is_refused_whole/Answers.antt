use Rattle.alto_book.proofs.AcceptanceLemmas.{refused_leaves, known_leaves}
use Rattle.alto_book.proofs.RefusalLemmas.{refused_for_itself}
use Rattle.alto_book.proofs.laws.acceptance_is_refused_whole.Goals as goal

pub returns-clause-refused : goal.returns-clause-refused
returns-clause-refused c = refused_leaves

pub returns-clause-known : goal.returns-clause-known
returns-clause-known c = known_leaves

pub returns-clause-cause : goal.returns-clause-cause
returns-clause-cause c = refused_for_itself
