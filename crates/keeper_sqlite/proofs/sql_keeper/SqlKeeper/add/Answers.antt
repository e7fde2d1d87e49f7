-- The row is added behind the others; a refusal leaves all.
use Rattle.std.proofs.Common.{◌≡◌, ◌⊎◌, arith, rules, inl, sym, subst, w64}
use Rattle.std.proofs.lemmas.Int.{to_z-of_z}
use Rattle.sqlite.specs.Held.{state}
use Rattle.sqlite.specs.State.{HasCleanDisk}
use Rattle.sqlite.specs.Tree.{Trees}
use Rattle.alto_keeper.specs.Stored.{RowData, StoredData, with_row}
use Rattle.keeper_sqlite.specs.Store.{table_rows}
use Rattle.keeper_sqlite.specs.Texts.{insert_text}
use Rattle.keeper_sqlite.specs.SqlKeeper.{SqlKeeperData, IsClean, IsSure, Holds, HoldsRows}
use Rattle.keeper_sqlite.proofs.EndLemmas.{executes_open, refused_ends, ends_idle}
use Rattle.keeper_sqlite.proofs.StatementLemmas.{added_held, added_open}
use Rattle.keeper_sqlite.proofs.EndLemmas.{still_rows}
use Rattle.keeper_sqlite.proofs.DeleteLemmas.{on_err}
use Rattle.keeper_sqlite.proofs.CrashLemmas.{insert_finds, settled_rows}
use Rattle.keeper_sqlite.proofs.sql_keeper.SqlKeeper.add.Goals as goal

pub returns-in_err-insert-clause-clean : goal.returns-in_err-insert-clause-clean
returns-in_err-insert-clause-clean g c sure =
    c.in_ok-make.ensures.clean (subst (λ (keeper : SqlKeeperData g.row.S.Denot). IsClean
    (state g.S.Store keeper.conn)) c.self.view_is (
      omega (arith, sure.0, c.insert.ensures.survives.clean),
      executes_open insert_text _ (state g.S.Store c.self.inside.conn) (state g.S.Store c.insert.new.conn) _
          (c.insert.ensures.runs sure.0) sure.1,
    ))

pub returns-clause-clean : goal.returns-clause-clean
returns-clause-clean g c sure =
    c.in_ok-make.ensures.clean (subst (λ (keeper : SqlKeeperData g.row.S.Denot). IsClean
    (state g.S.Store keeper.conn)) c.self.view_is (
      omega (arith, sure.0, c.insert.ensures.survives.clean),
      executes_open insert_text _ (state g.S.Store c.self.inside.conn) (state g.S.Store c.insert.new.conn) _
          (c.insert.ensures.runs sure.0) sure.1,
    ))

pub returns-clause-added : goal.returns-clause-added
returns-clause-added g c sure stored holds next =
    let old = state g.S.Store c.self.inside.conn in
    let new = state g.S.Store c.insert.new.conn in
    let mid : IsClean old = (
      omega
          (arith, sure.0, c.insert.ensures.survives.clean),
      executes_open insert_text _ old new _
          (c.insert.ensures.runs sure.0) sure.1,
    ) in
    let early = subst (λ (keeper : SqlKeeperData g.row.S.Denot). IsClean
    (state g.S.Store keeper.conn)) c.self.view_is mid in
    let had = subst (λ (keeper : SqlKeeperData g.row.S.Denot). HoldsRows (state g.S.Store keeper.conn) stored)
    (sym c.self.view_is) (c.in_ok-make.ensures.made early.0 stored holds) in
    let row : RowData = record { n = c.args.n; bytes = c.args.bytes.now } in
    let held = added_held old new stored row _ had next
    (rw (to_z-of_z w64 c.args.n (search rules)) at (c.in_ok-insert.ensures.runs sure.0)) in
    (held.0, inl held.1)

pub returns-in_err-insert-clause-refused : goal.returns-in_err-insert-clause-refused
returns-in_err-insert-clause-refused g c =
    on_err c.from_residual-in_err-insert.result (λ sure stored holds.
    let old = state g.S.Store c.self.inside.conn in
    let new = state g.S.Store c.insert.new.conn in
    let mid : IsClean old = (
      omega
          (arith, sure.0, c.insert.ensures.survives.clean),
      executes_open insert_text _ old new _
          (c.insert.ensures.runs sure.0) sure.1,
    ) in
    let early = subst (λ (keeper : SqlKeeperData g.row.S.Denot). IsClean
    (state g.S.Store keeper.conn)) c.self.view_is mid in
    let had = subst (λ (keeper : SqlKeeperData g.row.S.Denot). HoldsRows (state g.S.Store keeper.conn) stored)
    (sym c.self.view_is) (c.in_ok-make.ensures.made early.0 stored holds) in
    let held = still_rows old new stored (ends_idle old new
    (refused_ends insert_text _ old new _ (c.in_err-insert.ensures.runs sure.0)) sure.1 had.0) had in
    (held.0, inl held.1))

pub returns-clause-crash : goal.returns-clause-crash
returns-clause-crash g c clean =
    let mid : HasCleanDisk (state g.S.Store c.self.inside.conn) = omega
    (arith, clean, c.insert.ensures.survives.clean) in
    let early = subst (λ (keeper : SqlKeeperData g.row.S.Denot). HasCleanDisk
    (state g.S.Store keeper.conn)) c.self.view_is mid in
    let had = λ (stored : StoredData) (holds : Holds g.S.Store c.args.self.now stored). (subst
    (λ (keeper : SqlKeeperData g.row.S.Denot). HoldsRows (state g.S.Store keeper.conn) stored)
    (sym c.self.view_is) (c.in_ok-make.ensures.made early stored holds)).1 in
    let first = subst (λ (keeper : SqlKeeperData g.row.S.Denot). (found : Trees)
    → g.S.Store.recovers keeper.conn.store found
    → g.S.Store.recovers c.args.self.now.conn.store found
    ⊎ (IsSure g.S.Store c.args.self.now × ((stored : StoredData) → Holds g.S.Store c.args.self.now stored
    → found 0 ≡ table_rows stored)))
    (sym c.self.view_is) (c.in_ok-make.ensures.crash early) in
    insert_finds (g.S.Store.recovers c.args.self.now.conn.store) (IsSure g.S.Store c.args.self.now)
    (Holds g.S.Store c.args.self.now) (state g.S.Store c.self.inside.conn) (state g.S.Store c.insert.new.conn)
    (c.in_ok-make.ensures.sure early) had first (record { n = c.args.n; bytes = c.args.bytes.now })
    (rw (to_z-of_z w64 c.args.n (search rules)) at c.insert.ensures.survives) clean

pub returns-in_err-insert-clause-crash : goal.returns-in_err-insert-clause-crash
returns-in_err-insert-clause-crash g c clean =
    let mid : HasCleanDisk (state g.S.Store c.self.inside.conn) = omega
    (arith, clean, c.insert.ensures.survives.clean) in
    let early = subst (λ (keeper : SqlKeeperData g.row.S.Denot). HasCleanDisk
    (state g.S.Store keeper.conn)) c.self.view_is mid in
    let had = λ (stored : StoredData) (holds : Holds g.S.Store c.args.self.now stored). (subst
    (λ (keeper : SqlKeeperData g.row.S.Denot). HoldsRows (state g.S.Store keeper.conn) stored)
    (sym c.self.view_is) (c.in_ok-make.ensures.made early stored holds)).1 in
    let first = subst (λ (keeper : SqlKeeperData g.row.S.Denot). (found : Trees)
    → g.S.Store.recovers keeper.conn.store found
    → g.S.Store.recovers c.args.self.now.conn.store found
    ⊎ (IsSure g.S.Store c.args.self.now × ((stored : StoredData) → Holds g.S.Store c.args.self.now stored
    → found 0 ≡ table_rows stored)))
    (sym c.self.view_is) (c.in_ok-make.ensures.crash early) in
    insert_finds (g.S.Store.recovers c.args.self.now.conn.store) (IsSure g.S.Store c.args.self.now)
    (Holds g.S.Store c.args.self.now) (state g.S.Store c.self.inside.conn) (state g.S.Store c.insert.new.conn)
    (c.in_ok-make.ensures.sure early) had first (record { n = c.args.n; bytes = c.args.bytes.now })
    (rw (to_z-of_z w64 c.args.n (search rules)) at c.insert.ensures.survives) clean

pub returns-clause-settled : goal.returns-clause-settled
returns-clause-settled g c clean =
    let old = state g.S.Store c.self.inside.conn in
    let new = state g.S.Store c.insert.new.conn in
    let mid : HasCleanDisk old = omega (arith, clean, c.insert.ensures.survives.clean) in
    let early = subst (λ (keeper : SqlKeeperData g.row.S.Denot). HasCleanDisk
    (state g.S.Store keeper.conn)) c.self.view_is mid in
    let row : RowData = record { n = c.args.n; bytes = c.args.bytes.now } in
    let ran = rw (to_z-of_z w64 c.args.n (search rules)) at (c.in_ok-insert.ensures.runs clean) in (
      c.in_ok-make.ensures.sure early,
      λ stored holds next.
          let had = subst (λ (keeper : SqlKeeperData g.row.S.Denot). HoldsRows (state g.S.Store keeper.conn) stored)
          (sym c.self.view_is) (c.in_ok-make.ensures.made early stored holds) in
          settled_rows g.S.Store g.met.S.Store.settled c.insert.new.conn (with_row row.n row.bytes stored)
          (clean, added_open old new stored row _ had.1 ran) (added_held old new stored row _ had next ran),
    )
