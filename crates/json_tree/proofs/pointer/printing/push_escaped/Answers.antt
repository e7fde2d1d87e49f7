use Rattle.std.proofs.Common.{◌≢◌, arith, rules}
use Rattle.json_tree.proofs.PointerLemmas.{token_of-encode}
use Rattle.json_tree.proofs.pointer.printing.push_escaped.Goals as goal

pub returns-in_default : goal.returns-in_default
returns-in_default c =
    let tilde : c.args.c ≢ 126 = omega arith in
    let slash : c.args.c ≢ 47 = omega arith in
    rw (token_of-encode c.args.c tilde slash) (search rules)
