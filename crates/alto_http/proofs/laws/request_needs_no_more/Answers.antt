use Rattle.alto_http.proofs.Fronts.{begin_needs_no_more}
use Rattle.alto_http.proofs.laws.request_needs_no_more.Goals as goal

pub returns : goal.returns
returns c = begin_needs_no_more
