use Rattle.std.proofs.Common.{arith, ap, sym, ◌∙◌, Bool}
use Rattle.pid_prefix.specs.Pids.{pid_if}
use Rattle.pid_prefix.proofs.PidsLemmas.{length_packed, packed_at}
use Rattle.pid_prefix.proofs.pids.Pids.at.Goals as goal

pub index-name-requires : goal.index-name-requires
index-name-requires c =
    let t = c.self.inside in
    omega (
      arith,
      c.requires,
      length_packed t.are_pids.items t.names.items c.args.self.now
          (c.self.invariant, c.self.view_is),
    )

pub index-requires : goal.index-requires
index-requires c =
    let t = c.self.inside in
    omega (
      arith,
      c.requires,
      c.self.invariant,
      length_packed t.are_pids.items t.names.items c.args.self.now
          (c.self.invariant, c.self.view_is),
    )

pub returns-then-index : goal.returns-then-index
returns-then-index c =
    let t = c.self.inside in
    sym (ap (λ (sign : Bool). pid_if (sign, c.index-name.result.now)) c.if-index.true)
    ∙ packed_at t.are_pids.items t.names.items c.args.self.now c.args.place c.index.result.now
    c.index-name.result.now (c.self.invariant, c.self.view_is) c.requires c.index.ensures c.index-name.ensures

pub returns-else-index : goal.returns-else-index
returns-else-index c =
    let t = c.self.inside in
    sym (ap (λ (sign : Bool). pid_if (sign, c.index-name.result.now)) c.if-index.false)
    ∙ packed_at t.are_pids.items t.names.items c.args.self.now c.args.place c.index.result.now
    c.index-name.result.now (c.self.invariant, c.self.view_is) c.requires c.index.ensures c.index-name.ensures
