use Rattle.alto_http.proofs.Ahead.{ahead_more}
use Rattle.alto_http.proofs.receive.find_end.Goals as goal

pub returns-in_err-fill-clause-ahead : goal.returns-in_err-fill-clause-ahead
returns-in_err-fill-clause-ahead g c =
    ahead_more _ _ _ _ _ _ c.pieces.invariant.3 c.in_err-fill.ensures.ahead
