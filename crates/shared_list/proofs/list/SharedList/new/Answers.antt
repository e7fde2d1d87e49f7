use Rattle.shared_list.proofs.OrderLemmas.{none_in_order}
use Rattle.shared_list.proofs.list.SharedList.new.Goals as goal

pub invariant_of-result : goal.invariant_of-result
invariant_of-result g c = rw c.new.ensures.items (none_in_order g.T.Named.name)
