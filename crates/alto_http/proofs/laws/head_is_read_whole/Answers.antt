use Rattle.alto_http.proofs.HeadEnds.{head_is_read_whole}
use Rattle.alto_http.proofs.laws.head_is_read_whole.Goals as goal

pub returns : goal.returns
returns c = head_is_read_whole
