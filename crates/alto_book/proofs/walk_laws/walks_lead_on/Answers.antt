use Rattle.alto_book.proofs.WalkLemmas.{walks_lead_on}
use Rattle.alto_book.proofs.walk_laws.walks_lead_on.Goals as goal

pub returns : goal.returns
returns c = walks_lead_on
