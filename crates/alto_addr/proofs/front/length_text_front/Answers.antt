-- The longest length at the front is the longest front that begins one.
use Rattle.std.proofs.Common.{decimal, refl, lit<}
use Rattle.alto_addr.specs.Tokens.{IsLength}
use Rattle.alto_addr.proofs.Tokens.{IsToken-IsLength, IsLongestFront-Token}
use Rattle.alto_addr.proofs.front.length_text_front.Goals as goal

pub returns : goal.returns
returns c =
    IsLongestFront-Token IsLength IsToken-IsLength (decimal 0) c.args.text.now c.length_front.result
    (record { value = 0; fits = lit< tt; spelled = refl }) c.length_front.ensures
