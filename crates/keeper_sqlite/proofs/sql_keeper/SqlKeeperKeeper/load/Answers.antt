-- What is told of the records that were read.
use Rattle.keeper_sqlite.proofs.AddingLemmas.{told_ok, told_if_ok}
use Rattle.keeper_sqlite.proofs.CrashLemmas.{kept_left, kept_settled}
use Rattle.keeper_sqlite.proofs.sql_keeper.SqlKeeperKeeper.load.Goals as goal

pub returns-clause-loaded : goal.returns-clause-loaded
returns-clause-loaded g c =
    rw (c.counted.ensures.told, c.counted.ensures.counted) (told_if_ok _ c.read-read.result c.read-read.ensures.loaded)

pub returns-clause-stays : goal.returns-clause-stays
returns-clause-stays g c = rw c.counted.ensures.counted c.read-read.ensures.stays

pub returns-clause-crash : goal.returns-clause-crash
returns-clause-crash g c = rw c.counted.ensures.counted c.read-read.ensures.crash

pub returns-clause-left : goal.returns-clause-left
returns-clause-left g c =
    rw c.counted.ensures.counted
    (kept_left g.S.Store c.args.self.now c.read-read.new.self c.read-read.ensures.crash)

pub returns-clause-settled : goal.returns-clause-settled
returns-clause-settled g c =
    rw (c.counted.ensures.told, c.counted.ensures.counted) (told_ok _ c.read-read.result
    (kept_settled g.S.Store c.args.self.now c.read-read.new.self c.read-read.result c.read-read.ensures.settled))
