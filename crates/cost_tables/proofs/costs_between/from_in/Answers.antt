use Rattle.std.proofs.Common.{[]}
use Rattle.cost_tables.proofs.ListLemmas.{have_numbers, none_numbered}
use Rattle.cost_tables.proofs.costs_between.from_in.Goals as goal

pub returns-in-None-clause-lists : goal.returns-in-None-clause-lists
returns-in-None-clause-lists c = rw c.in-None.is (have_numbers 0 [] (none_numbered 0))
