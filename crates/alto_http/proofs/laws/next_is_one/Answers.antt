use Rattle.alto_http.proofs.OneNext.{begin_is_one, begin_is_no_end, end_is_one}
use Rattle.alto_http.proofs.laws.next_is_one.Goals as goal

pub returns-clause-request : goal.returns-clause-request
returns-clause-request c = begin_is_one

pub returns-clause-either : goal.returns-clause-either
returns-clause-either c = begin_is_no_end

pub returns-clause-end : goal.returns-clause-end
returns-clause-end c = end_is_one
