use Rattle.alto_http.proofs.OneNext.{begin_is_whole}
use Rattle.alto_http.proofs.laws.request_leaves_the_rest.Goals as goal

pub returns : goal.returns
returns c = begin_is_whole
