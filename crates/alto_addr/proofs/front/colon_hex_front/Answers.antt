-- `::` at the front, or groups.
use Rattle.std.proofs.Common.{arith}
use Rattle.alto_addr.specs.Fronts.{ColonHex}
use Rattle.alto_addr.proofs.Steps.{whole_head, whole_elided, whole_colon, same_front}
use Rattle.alto_addr.proofs.front.colon_hex_front.Goals as goal

pub returns-in_default : goal.returns-in_default
returns-in_default c = whole_head c.args.text.now c.head_front.result c.in_default.ensures c.head_front.ensures

pub returns-in-Some-behind : goal.returns-in-Some-behind
returns-in-Some-behind c =
    same_front ColonHex c.args.text.now _ _ (omega arith)
    (whole_elided c.args.text.now c.in-Some.rest.now c.in-Some-behind.tail.now c.tail_up_to_front.result
    c.in-Some.ensures c.in-Some-behind.ensures c.tail_up_to_front.ensures)

pub returns-in-None : goal.returns-in-None
returns-in-None c = whole_colon c.args.text.now c.in-Some.rest.now c.in-Some.ensures c.in-None.ensures
