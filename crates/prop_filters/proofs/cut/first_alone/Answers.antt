use Rattle.std.proofs.Common.{◌-◌}
use Rattle.prop_filters.proofs.CutLemmas.{first_stay, none_last}
use Rattle.prop_filters.proofs.cut.first_alone.Goals as goal

pub returns-clause-first : goal.returns-clause-first
returns-clause-first c = rw c.last.ensures.bits (first_stay c.args.number (c.args.width - c.args.len))

pub returns-clause-rest : goal.returns-clause-rest
returns-clause-rest c = rw c.last.ensures.bits (none_last c.args.number (c.args.width - c.args.len))
