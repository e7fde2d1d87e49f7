use Rattle.std.proofs.Common.{◌<◌, take}
use Rattle.alto_addr.specs.Tokens.{IsDecimal}
use Rattle.alto_addr.proofs.token.decimal_front.Given as goal

abbrev pub invariant-loop-n : goal.invariant-loop-n
invariant-loop-n l = 0 < l.n → IsDecimal l.limit (take l.n l.text)
