-- Where std reads no address, there is none.
use Rattle.alto_addr.proofs.NoAddr.{none_read}
use Rattle.alto_addr.proofs.Whole.{IsLongestFront-IsAnyAddr}
use Rattle.alto_addr.proofs.reading.read_addr.Goals as goal

pub returns-in-Err-clause-err : goal.returns-in-Err-clause-err
returns-in-Err-clause-err c = (
  none_read c.args.text.now c.in-Err.ensures,
  IsLongestFront-IsAnyAddr c.args.text.now c.address_front.result
      c.address_front.ensures,
)
