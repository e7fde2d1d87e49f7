use Rattle.std.proofs.Common.{◌<◌, take}
use Rattle.alto_addr.specs.Tokens.{IsGroup}
use Rattle.alto_addr.proofs.token.group_front.Given as goal

abbrev pub invariant-loop-n : goal.invariant-loop-n
invariant-loop-n l = 0 < l.n → IsGroup (take l.n l.text)
