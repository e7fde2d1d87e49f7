-- What is told of the base that was put in place.
use Rattle.std.proofs.Common.{rules, w64}
use Rattle.std.proofs.lemmas.Int.{to_z-of_z}
use Rattle.keeper_sqlite.proofs.AddingLemmas.{told_ok, told_err}
use Rattle.keeper_sqlite.proofs.CrashLemmas.{moved_left, moved_settled}
use Rattle.keeper_sqlite.proofs.sql_keeper.SqlKeeperKeeper.rebase.Goals as goal

pub returns-clause-rebased : goal.returns-clause-rebased
returns-clause-rebased g c =
    rw (c.counted.ensures.told, c.counted.ensures.counted)
    (told_ok _ c.move_base-moved.result
    (rw (to_z-of_z w64 c.args.upto (search rules)) at c.move_base-moved.ensures.moved))

pub returns-clause-refused : goal.returns-clause-refused
returns-clause-refused g c =
    rw (c.counted.ensures.told, c.counted.ensures.counted)
    (told_err _ c.move_base-moved.result c.move_base-moved.ensures.refused)

pub returns-clause-left : goal.returns-clause-left
returns-clause-left g c =
    rw c.counted.ensures.counted
    (moved_left g.S.Store c.args.self.now c.move_base-moved.new.self _ c.args.upto
    (rw (to_z-of_z w64 c.args.upto (search rules)) at c.move_base-moved.ensures.crash))

pub returns-clause-settled : goal.returns-clause-settled
returns-clause-settled g c =
    rw (c.counted.ensures.told, c.counted.ensures.counted) (told_ok _ c.move_base-moved.result
    (moved_settled g.S.Store c.args.self.now c.move_base-moved.new.self _ c.args.upto c.move_base-moved.result
    (rw (to_z-of_z w64 c.args.upto (search rules)) at c.move_base-moved.ensures.settled)))
