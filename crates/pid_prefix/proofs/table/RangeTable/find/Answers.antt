use Rattle.std.proofs.Common.{◌≡◌, ◌*◌, arith, length, ap, ◌∙◌}
use Rattle.pid_prefix.specs.Longest.{longest_prefix}
use Rattle.pid_prefix.proofs.FindLemmas.{narrowed_count, narrowed_rise, pid_found}
use Rattle.pid_prefix.proofs.table.RangeTable.find.Goals as goal

pub returns-clause-pid : goal.returns-clause-pid
returns-clause-pid g c =
    let t = c.self.inside in
    c.pid_in.ensures.pid
    ∙ (pid_found t.rows.items t.v4 t.v6 c.args.addr.now c.self.invariant c.pid_in.ensures.fits
    ∙ ap (λ rows. longest_prefix rows c.args.addr.now) c.self.view_is)

pub returns-clause-cost : goal.returns-clause-cost
returns-clause-cost g c =
    let t = c.self.inside in
    let rows : length t.rows.items ≡ length c.args.self.now = ap length c.self.view_is in
    let counts = narrowed_count t.rows.items t.v4 t.v6 c.self.invariant in
    omega (arith, rows, c.pid_in.ensures.cost (2 * length t.rows.items) counts.0 counts.1)

pub pid_in-requires-clause-v4 : goal.pid_in-requires-clause-v4
pid_in-requires-clause-v4 g c =
    let t = c.self.inside in (narrowed_rise t.rows.items t.v4 t.v6 c.self.invariant).0

pub pid_in-requires-clause-v6 : goal.pid_in-requires-clause-v6
pid_in-requires-clause-v6 g c =
    let t = c.self.inside in (narrowed_rise t.rows.items t.v4 t.v6 c.self.invariant).1
