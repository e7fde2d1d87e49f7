-- The table is made, or was there; a refusal leaves all.
use Rattle.std.proofs.Common.{◌≡◌, [], sym, subst, arith}
use Rattle.sqlite.specs.Held.{state}
use Rattle.alto_keeper.specs.Stored.{StoredData}
use Rattle.keeper_sqlite.specs.Store.{table_rows}
use Rattle.keeper_sqlite.specs.Texts.{create_text}
use Rattle.keeper_sqlite.specs.SqlKeeper.{SqlKeeperData, Holds, IsClean, CrashFinds}
use Rattle.keeper_sqlite.proofs.EndLemmas.{executes_open, refused_ends, ends_idle, still_held}
use Rattle.keeper_sqlite.proofs.StatementLemmas.{created_held}
use Rattle.keeper_sqlite.proofs.DeleteLemmas.{on_err}
use Rattle.keeper_sqlite.proofs.CrashLemmas.{create_finds}
use Rattle.keeper_sqlite.proofs.sql_keeper.SqlKeeper.make_table.Goals as goal

pub returns-in_err-create-clause-clean : goal.returns-in_err-create-clause-clean
returns-in_err-create-clause-clean g c sure =
    subst (λ (keeper : SqlKeeperData g.row.S.Denot). IsClean (state g.S.Store keeper.conn)) c.self.view_is (
      omega (arith, sure.0, c.create.ensures.survives.clean),
      executes_open create_text [] (state g.S.Store c.self.inside.conn) (state g.S.Store c.create.new.conn) _
          (c.create.ensures.runs sure.0) sure.1,
    )

pub returns-in_ok-create-clause-clean : goal.returns-in_ok-create-clause-clean
returns-in_ok-create-clause-clean g c sure =
    subst (λ (keeper : SqlKeeperData g.row.S.Denot). IsClean (state g.S.Store keeper.conn)) c.self.view_is (
      omega (arith, sure.0, c.create.ensures.survives.clean),
      executes_open create_text [] (state g.S.Store c.self.inside.conn) (state g.S.Store c.create.new.conn) _
          (c.create.ensures.runs sure.0) sure.1,
    )

pub returns-in_ok-create-clause-made : goal.returns-in_ok-create-clause-made
returns-in_ok-create-clause-made g c clean stored holds =
    created_held c.self.inside.is_made (state g.S.Store c.self.inside.conn) (state g.S.Store c.create.new.conn) stored _
    (c.in_ok-create.ensures.runs clean)
    (subst (λ (keeper : SqlKeeperData g.row.S.Denot). Holds g.S.Store keeper stored) (sym c.self.view_is) holds)

pub returns-in_err-create-clause-refused : goal.returns-in_err-create-clause-refused
returns-in_err-create-clause-refused g c =
    on_err c.from_residual.result (λ sure stored holds.
    let had = subst (λ (keeper : SqlKeeperData g.row.S.Denot). Holds g.S.Store keeper stored)
    (sym c.self.view_is) holds in
    let old = state g.S.Store c.self.inside.conn in
    let new = state g.S.Store c.create.new.conn in
    still_held c.self.inside.is_made old new stored
    (ends_idle old new (refused_ends create_text [] old new _ (c.in_err-create.ensures.runs sure.0)) sure.1 had.0) had)

pub returns-in_ok-create-clause-crash : goal.returns-in_ok-create-clause-crash
returns-in_ok-create-clause-crash g c =
    subst (λ (keeper : SqlKeeperData g.row.S.Denot). CrashFinds (state g.S.Store keeper.conn)
    (state g.S.Store c.create.new.conn) (λ found. (stored : StoredData)
    → Holds g.S.Store keeper stored → found 0 ≡ table_rows stored)) c.self.view_is
    (create_finds c.self.inside.is_made (state g.S.Store c.self.inside.conn) (state g.S.Store c.create.new.conn)
    c.create.ensures.survives)

pub returns-in_err-create-clause-crash : goal.returns-in_err-create-clause-crash
returns-in_err-create-clause-crash g c =
    subst (λ (keeper : SqlKeeperData g.row.S.Denot). CrashFinds (state g.S.Store keeper.conn)
    (state g.S.Store c.create.new.conn) (λ found. (stored : StoredData)
    → Holds g.S.Store keeper stored → found 0 ≡ table_rows stored)) c.self.view_is
    (create_finds c.self.inside.is_made (state g.S.Store c.self.inside.conn) (state g.S.Store c.create.new.conn)
    c.create.ensures.survives)
