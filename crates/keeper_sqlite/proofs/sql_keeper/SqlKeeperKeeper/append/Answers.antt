-- What is told of the row that was added.
use Rattle.std.proofs.Common.{rules, w64}
use Rattle.std.proofs.lemmas.Int.{to_z-of_z}
use Rattle.keeper_sqlite.proofs.AddingLemmas.{told_ok, told_err}
use Rattle.keeper_sqlite.proofs.CrashLemmas.{added_left, added_settled}
use Rattle.keeper_sqlite.proofs.sql_keeper.SqlKeeperKeeper.append.Goals as goal

pub returns-clause-added : goal.returns-clause-added
returns-clause-added g c =
    rw (c.counted.ensures.told, c.counted.ensures.counted) (told_ok _ c.add-added.result
    (rw (to_z-of_z w64 c.args.n (search rules)) at c.add-added.ensures.added))

pub returns-clause-refused : goal.returns-clause-refused
returns-clause-refused g c =
    rw (c.counted.ensures.told, c.counted.ensures.counted) (told_err _ c.add-added.result c.add-added.ensures.refused)

pub returns-clause-left : goal.returns-clause-left
returns-clause-left g c =
    rw c.counted.ensures.counted
    (added_left g.S.Store c.args.self.now c.add-added.new.self c.args.n c.args.bytes.now
    (rw (to_z-of_z w64 c.args.n (search rules)) at c.add-added.ensures.crash))

pub returns-clause-settled : goal.returns-clause-settled
returns-clause-settled g c =
    rw (c.counted.ensures.told, c.counted.ensures.counted) (told_ok _ c.add-added.result
    (added_settled g.S.Store c.args.self.now c.add-added.new.self c.args.n c.args.bytes.now c.add-added.result
    (rw (to_z-of_z w64 c.args.n (search rules)) at c.add-added.ensures.settled)))
