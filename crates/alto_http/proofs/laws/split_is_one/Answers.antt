use Rattle.alto_http.proofs.OneNext.{split_is_one}
use Rattle.alto_http.proofs.laws.split_is_one.Goals as goal

pub returns : goal.returns
returns c = split_is_one
