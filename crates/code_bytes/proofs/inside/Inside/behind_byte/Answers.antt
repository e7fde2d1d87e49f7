use Rattle.std.proofs.Common.{arith, ◌-◌}
use Rattle.code_bytes.proofs.CharLemmas.{tail_passes}
use Rattle.code_bytes.proofs.inside.Inside.behind_byte.Goals as goal

pub returns : goal.returns
returns c =
    tail_passes c.args.self.many (c.args.self.many - 1) c.args.self.least c.args.self.most
    c.args.self.behind c.args.byte
    (omega (arith, c.if-self-eq0.false)) (omega (arith, c.if-byte-self.false)) (omega (arith, c.if-self-byte.false))
