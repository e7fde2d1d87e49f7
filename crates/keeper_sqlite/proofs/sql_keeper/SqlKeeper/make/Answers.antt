-- What was held when the database was asked is held when the table is made.
use Rattle.keeper_sqlite.proofs.AddingLemmas.{on_ok_weaker, on_err_weaker}
use Rattle.keeper_sqlite.proofs.sql_keeper.SqlKeeper.make.Goals as goal

pub returns-clause-made : goal.returns-clause-made
returns-clause-made g c =
    on_ok_weaker c.make_table.result (λ made clean stored holds.
    made clean stored (c.in_ok-probe.ensures.stays (c.make_table.ensures.faithful clean) stored holds))
    c.make_table.ensures.made

pub returns-clause-refused : goal.returns-clause-refused
returns-clause-refused g c =
    on_err_weaker c.make_table.result (λ refused sure stored holds.
    refused sure stored (c.in_ok-probe.ensures.stays (c.make_table.ensures.faithful sure.0) stored holds))
    c.make_table.ensures.refused
