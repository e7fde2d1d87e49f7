-- Whether one of the networks that are left has such a prefix tells it of all.
use Rattle.std.proofs.Common.{◌≡◌}
use Rattle.std.specs.List.{list_any}
use Rattle.batch_check.specs.Owners.{is_shared_in}
use Rattle.batch_check.proofs.owners.some_shared.Given as goal

abbrev pub invariant-loop-net : goal.invariant-loop-net
invariant-loop-net g l =
    list_any (is_shared_in (g.R.RowStore.rows l.next) l.owners) l.net-iterator
    ≡ list_any (is_shared_in (g.R.RowStore.rows l.next) l.owners) l.initial.net-iterator
