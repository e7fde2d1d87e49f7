use Rattle.std.proofs.Common.{◌≤◌, ◌-◌, ◌∙◌, ap, length, drop, arith}
use Rattle.alto_http.proofs.Ranges.{range_from, range_short}
use Rattle.alto_http.proofs.intake.Intake.consume.Goals as goal

pub returns : goal.returns
returns c =
    let i = c.self.inside in
    let few : c.args.count ≤ i.end - i.start =
    omega (arith, ap length c.self.view_is, range_short i.buffer.items i.start i.end) in
    range_from i.buffer.items i.start i.end c.args.count few ∙ ap (drop c.args.count) c.self.view_is
