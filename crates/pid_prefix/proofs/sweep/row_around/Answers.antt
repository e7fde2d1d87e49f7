use Rattle.std.proofs.Common.{None, ap, sym, ◌∙◌}
use Rattle.pid_prefix.specs.Sweep.{innermost_row}
use Rattle.pid_prefix.proofs.SweepLemmas.{innermost_row-push}
use Rattle.pid_prefix.proofs.sweep.row_around.Goals as goal

pub returns-in-Some : goal.returns-in-Some
returns-in-Some c =
    sym (ap (innermost_row None) c.in-Some.ensures.cases.0 ∙ innermost_row-push None c.in-Some.field-0-1.now
    c.in-Some.block.now)
