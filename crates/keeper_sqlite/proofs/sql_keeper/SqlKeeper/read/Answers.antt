-- What is read is all that the table holds, and the database is left.
use Rattle.std.proofs.Common.{◌≡◌, ◌⊎◌, arith, inl, sym, ap, subst, ◌∙◌, map}
use Rattle.std.proofs.lemmas.Result.{IfOk-weaker}
use Rattle.sqlite.specs.Held.{state}
use Rattle.sqlite.specs.State.{HasCleanDisk}
use Rattle.sqlite.specs.Tree.{Trees}
use Rattle.alto_keeper.specs.Stored.{StoredData}
use Rattle.keeper_sqlite.specs.Texts.{select_text}
use Rattle.keeper_sqlite.specs.Reading.{shown_in, stored_in}
use Rattle.keeper_sqlite.specs.Store.{all_rows, table_rows}
use Rattle.keeper_sqlite.specs.SqlKeeper.{SqlKeeperData, IsClean, IsSure, Holds, HoldsRows}
use Rattle.keeper_sqlite.proofs.TableLemmas.{read_back}
use Rattle.keeper_sqlite.proofs.EndLemmas.{shown_open, query_ends, ends_open, ends_idle, still_rows}
use Rattle.keeper_sqlite.proofs.StatementLemmas.{read_rows, read_same}
use Rattle.keeper_sqlite.proofs.CrashLemmas.{select_finds, on_ok, settled_rows}
use Rattle.keeper_sqlite.proofs.sql_keeper.SqlKeeper.read.Goals as goal

pub returns-in_err-rows-clause-clean : goal.returns-in_err-rows-clause-clean
returns-in_err-rows-clause-clean g c sure =
    let old = state g.S.Store c.self.inside.conn in
    let new = state g.S.Store c.select.new.conn in
    c.in_ok-make.ensures.clean (subst (λ (keeper : SqlKeeperData g.row.S.Denot). IsClean
    (state g.S.Store keeper.conn)) c.self.view_is (
      omega (arith, sure.0, c.select.ensures.survives.clean),
      ends_open old new (query_ends select_text _ old new _ (c.in_err-rows.ensures.fails sure.0)) sure.1,
    ))

pub returns-in_err-rows-clause-stays : goal.returns-in_err-rows-clause-stays
returns-in_err-rows-clause-stays g c sure stored holds =
    let old = state g.S.Store c.self.inside.conn in
    let new = state g.S.Store c.select.new.conn in
    let ends = query_ends select_text _ old new _ (c.in_err-rows.ensures.fails sure.0) in
    let mid : IsClean old = (omega (arith, sure.0, c.select.ensures.survives.clean), ends_open old new ends sure.1) in
    let early = subst (λ (keeper : SqlKeeperData g.row.S.Denot). IsClean
    (state g.S.Store keeper.conn)) c.self.view_is mid in
    let had = subst (λ (keeper : SqlKeeperData g.row.S.Denot). HoldsRows (state g.S.Store keeper.conn) stored)
    (sym c.self.view_is) (c.in_ok-make.ensures.made early.0 stored holds) in
    let held = still_rows old new stored (ends_idle old new ends sure.1 had.0) had in
    (held.0, inl held.1)

pub returns-clause-clean : goal.returns-clause-clean
returns-clause-clean g c sure =
    let old = state g.S.Store c.self.inside.conn in
    let new = state g.S.Store c.select.new.conn in
    c.in_ok-make.ensures.clean (subst (λ (keeper : SqlKeeperData g.row.S.Denot). IsClean
    (state g.S.Store keeper.conn)) c.self.view_is (
      omega (arith, sure.0, c.select.ensures.survives.clean),
      shown_open select_text _ old new _ (c.in_ok-rows.ensures.shows sure.0),
    ))

pub returns-clause-loaded : goal.returns-clause-loaded
returns-clause-loaded g c =
    let old = state g.S.Store c.self.inside.conn in
    let new = state g.S.Store c.select.new.conn in
    IfOk-weaker c.stored_in.result _ _ (λ all is sure stored holds.
    let shows = c.in_ok-rows.ensures.shows sure.0 in
    let mid : IsClean old = (
      omega
          (arith, sure.0, c.select.ensures.survives.clean),
      shown_open select_text _ old new _ shows,
    ) in
    let early = subst (λ (keeper : SqlKeeperData g.row.S.Denot). IsClean
    (state g.S.Store keeper.conn)) c.self.view_is mid in
    let had = subst (λ (keeper : SqlKeeperData g.row.S.Denot). HoldsRows (state g.S.Store keeper.conn) stored)
    (sym c.self.view_is) (c.in_ok-make.ensures.made early.0 stored holds) in
    let shown : map shown_in c.deref.result.now ≡ all_rows stored =
    rw c.deref.ensures.value (read_rows old new stored _ had.1 shows) in
    is ∙ ap stored_in shown ∙ read_back stored had.1.base had.1.own)
    c.stored_in.ensures

pub returns-clause-stays : goal.returns-clause-stays
returns-clause-stays g c sure stored holds =
    let old = state g.S.Store c.self.inside.conn in
    let new = state g.S.Store c.select.new.conn in
    let shows = c.in_ok-rows.ensures.shows sure.0 in
    let mid : IsClean old = (
      omega
          (arith, sure.0, c.select.ensures.survives.clean),
      shown_open select_text _ old new _ shows,
    ) in
    let early = subst (λ (keeper : SqlKeeperData g.row.S.Denot). IsClean
    (state g.S.Store keeper.conn)) c.self.view_is mid in
    let had = subst (λ (keeper : SqlKeeperData g.row.S.Denot). HoldsRows (state g.S.Store keeper.conn) stored)
    (sym c.self.view_is) (c.in_ok-make.ensures.made early.0 stored holds) in
    let same = read_same old new stored _ had.1 shows in
    let held = still_rows old new stored (
      (
        same.0.mode ∙ had.0.0,
        same.0.now_is ∙ had.0.1
            ∙ sym same.0.committed_is,
      ),
      same.0.now_is,
    ) had in
    (held.0, inl held.1)

pub returns-in_err-rows-clause-crash : goal.returns-in_err-rows-clause-crash
returns-in_err-rows-clause-crash g c clean =
    let mid : HasCleanDisk (state g.S.Store c.self.inside.conn) = omega
    (arith, clean, c.select.ensures.survives.clean) in
    let early = subst (λ (keeper : SqlKeeperData g.row.S.Denot). HasCleanDisk
    (state g.S.Store keeper.conn)) c.self.view_is mid in
    let had = λ (stored : StoredData) (holds : Holds g.S.Store c.args.self.now stored). (subst
    (λ (keeper : SqlKeeperData g.row.S.Denot). HoldsRows (state g.S.Store keeper.conn) stored)
    (sym c.self.view_is) (c.in_ok-make.ensures.made early stored holds)).1 in
    let first = subst (λ (keeper : SqlKeeperData g.row.S.Denot). (found : Trees)
    → g.S.Store.recovers keeper.conn.store found
    → g.S.Store.recovers c.args.self.now.conn.store found
    ⊎ (IsSure g.S.Store c.args.self.now × ((stored : StoredData) → Holds g.S.Store c.args.self.now stored
    → found 0 ≡ table_rows stored)))
    (sym c.self.view_is) (c.in_ok-make.ensures.crash early) in
    select_finds (g.S.Store.recovers c.args.self.now.conn.store) (IsSure g.S.Store c.args.self.now)
    (Holds g.S.Store c.args.self.now) (state g.S.Store c.self.inside.conn) (state g.S.Store c.select.new.conn)
    (c.in_ok-make.ensures.sure early) had first c.select.ensures.survives clean

pub returns-clause-crash : goal.returns-clause-crash
returns-clause-crash g c clean =
    let mid : HasCleanDisk (state g.S.Store c.self.inside.conn) = omega
    (arith, clean, c.select.ensures.survives.clean) in
    let early = subst (λ (keeper : SqlKeeperData g.row.S.Denot). HasCleanDisk
    (state g.S.Store keeper.conn)) c.self.view_is mid in
    let had = λ (stored : StoredData) (holds : Holds g.S.Store c.args.self.now stored). (subst
    (λ (keeper : SqlKeeperData g.row.S.Denot). HoldsRows (state g.S.Store keeper.conn) stored)
    (sym c.self.view_is) (c.in_ok-make.ensures.made early stored holds)).1 in
    let first = subst (λ (keeper : SqlKeeperData g.row.S.Denot). (found : Trees)
    → g.S.Store.recovers keeper.conn.store found
    → g.S.Store.recovers c.args.self.now.conn.store found
    ⊎ (IsSure g.S.Store c.args.self.now × ((stored : StoredData) → Holds g.S.Store c.args.self.now stored
    → found 0 ≡ table_rows stored)))
    (sym c.self.view_is) (c.in_ok-make.ensures.crash early) in
    select_finds (g.S.Store.recovers c.args.self.now.conn.store) (IsSure g.S.Store c.args.self.now)
    (Holds g.S.Store c.args.self.now) (state g.S.Store c.self.inside.conn) (state g.S.Store c.select.new.conn)
    (c.in_ok-make.ensures.sure early) had first c.select.ensures.survives clean

pub returns-clause-settled : goal.returns-clause-settled
returns-clause-settled g c =
    on_ok c.stored_in.result (λ clean.
    let old = state g.S.Store c.self.inside.conn in
    let new = state g.S.Store c.select.new.conn in
    let mid : HasCleanDisk old = omega (arith, clean, c.select.ensures.survives.clean) in
    let early = subst (λ (keeper : SqlKeeperData g.row.S.Denot). HasCleanDisk
    (state g.S.Store keeper.conn)) c.self.view_is mid in (
      c.in_ok-make.ensures.sure early,
      λ stored holds _.
          let had = subst (λ (keeper : SqlKeeperData g.row.S.Denot). HoldsRows (state g.S.Store keeper.conn) stored)
          (sym c.self.view_is) (c.in_ok-make.ensures.made early stored holds) in
          let same = read_same old new stored _ had.1 (c.in_ok-rows.ensures.shows clean) in
          settled_rows g.S.Store g.met.S.Store.settled c.select.new.conn stored (clean, same.0.is_open)
          (still_rows old new stored (
            (same.0.mode ∙ had.0.0, same.0.now_is ∙ had.0.1 ∙ sym same.0.committed_is),
            same.0.now_is,
          ) had),
    ))
