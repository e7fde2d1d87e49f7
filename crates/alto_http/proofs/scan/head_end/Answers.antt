use Rattle.std.proofs.Common.{sym, arith}
use Rattle.alto_http.proofs.Heads.{no_end_more}
use Rattle.alto_http.proofs.scan.head_end.Goals as goal

pub lines-smaller : goal.lines-smaller
lines-smaller c = omega (arith, c.in-Some.ensures.found.0, c.in-Some.ensures.found.1)

pub lines-preserved : goal.lines-preserved
lines-preserved c =
    let found = c.in-Some.ensures.found in
    (omega (arith, found.1), no_end_more _ _ found.2 (sym c.if-ends_in_empty_line.ensures))
