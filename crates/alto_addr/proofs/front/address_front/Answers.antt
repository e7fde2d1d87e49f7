-- The longer of the two families' fronts.
use Rattle.std.proofs.Common.{◌≡◌, max, arith}
use Rattle.alto_addr.specs.Fronts.{Address}
use Rattle.alto_addr.proofs.Steps.{either_family, same_front}
use Rattle.alto_addr.proofs.front.address_front.Goals as goal

pub returns : goal.returns
returns c =
    let size : max c.colon_hex_front.result c.octets_front.result ≡ c.max.result = omega (arith, c.max.ensures) in
    same_front Address c.args.text.now _ _ size
    (either_family c.args.text.now c.colon_hex_front.result c.octets_front.result c.colon_hex_front.ensures
    c.octets_front.ensures)
