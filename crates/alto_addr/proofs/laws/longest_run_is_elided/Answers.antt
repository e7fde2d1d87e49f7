use Rattle.alto_addr.specs.Text.{groups_of}
use Rattle.alto_addr.proofs.Compressed.{compressed}
use Rattle.alto_addr.proofs.laws.longest_run_is_elided.Goals as goal

pub returns : goal.returns
returns c = λ number. compressed (groups_of number)
