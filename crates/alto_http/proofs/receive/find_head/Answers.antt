use Rattle.std.proofs.Common.{sym}
use Rattle.alto_http.proofs.Ahead.{ahead_more}
use Rattle.alto_http.proofs.Places.{breaks_now, start_fails, end_fails}
use Rattle.alto_http.proofs.receive.find_head.Goals as goal

pub returns-in-Err-clause-err : goal.returns-in-Err-clause-err
returns-in-Err-clause-err g c = start_fails c.in-Err.fault _ _ c.in-Err.ensures.err

pub returns-in-Err-find_end-clause-err : goal.returns-in-Err-find_end-clause-err
returns-in-Err-find_end-clause-err g c =
    let found = rw c.in-Ok-Some.field-0-is at c.in-Ok-Some.ensures.ok in
    let now = breaks_now _ _ _ _ _ found.0 found.1 c.find_end.ensures.ahead in
    end_fails c.in-Err-find_end.fault _ _ _ now.0 now.1 c.in-Err-find_end.ensures.err

pub returns-in-Ok-clause-ok : goal.returns-in-Ok-clause-ok
returns-in-Ok-clause-ok g c =
    let found = rw c.in-Ok-Some.field-0-is at c.in-Ok-Some.ensures.ok in
    let now = breaks_now _ _ _ _ _ found.0 found.1 c.find_end.ensures.ahead in
    record { behind_breaks = sym now.0; ends = c.in-Ok.ensures.ok.0; within = c.in-Ok.ensures.ok.1 }

pub returns-in-Ok-clause-ahead : goal.returns-in-Ok-clause-ahead
returns-in-Ok-clause-ahead g c = ahead_more _ _ _ _ _ _ c.find_start.ensures.ahead c.find_end.ensures.ahead

pub returns-in-Err-find_end-clause-ahead : goal.returns-in-Err-find_end-clause-ahead
returns-in-Err-find_end-clause-ahead g c = ahead_more _ _ _ _ _ _ c.find_start.ensures.ahead c.find_end.ensures.ahead
