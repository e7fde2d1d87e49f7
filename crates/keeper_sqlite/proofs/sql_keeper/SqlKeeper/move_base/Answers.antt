-- The base is put in the place of the one before; a refusal leaves all.
use Rattle.std.proofs.Common.{◌≡◌, ◌⊎◌, inl, inr, map, vec_items, sym, subst, rules, w64}
use Rattle.std.proofs.lemmas.Int.{to_z-of_z}
use Rattle.sqlite.specs.Held.{state}
use Rattle.sqlite.specs.State.{HasCleanDisk}
use Rattle.sqlite.specs.Tree.{Trees}
use Rattle.alto_keeper.specs.Stored.{StoredData}
use Rattle.keeper_sqlite.specs.Store.{table_rows}
use Rattle.keeper_sqlite.specs.SqlKeeper.{SqlKeeperData, IsClean, IsSure, Holds, HoldsRows}
use Rattle.keeper_sqlite.proofs.EndLemmas.{still_rows}
use Rattle.keeper_sqlite.proofs.AddingLemmas.{on_ok_weaker, on_err_weaker}
use Rattle.keeper_sqlite.proofs.CrashLemmas.{move_finds}
use Rattle.keeper_sqlite.proofs.sql_keeper.SqlKeeper.move_base.Goals as goal

pub returns-clause-clean : goal.returns-clause-clean
returns-clause-clean g c sure =
    c.in_ok-make.ensures.clean (subst (λ (keeper : SqlKeeperData g.row.S.Denot). IsClean
    (state g.S.Store keeper.conn)) c.self.view_is
    (c.replace_base.ensures.clean sure))

pub returns-clause-moved : goal.returns-clause-moved
returns-clause-moved g c =
    on_ok_weaker c.replace_base.result (λ moved sure stored holds.
    let early = subst (λ (keeper : SqlKeeperData g.row.S.Denot). IsClean (state g.S.Store keeper.conn)) c.self.view_is
    (c.replace_base.ensures.clean sure) in
    let had = subst (λ (keeper : SqlKeeperData g.row.S.Denot). HoldsRows (state g.S.Store keeper.conn) stored)
    (sym c.self.view_is) (c.in_ok-make.ensures.made early.0 stored holds) in
    let held = rw (to_z-of_z w64 c.args.upto (search rules)) at (moved sure stored had) in
    (held.0, inl held.1)) c.replace_base.ensures.moved

pub returns-clause-refused : goal.returns-clause-refused
returns-clause-refused g c =
    on_err_weaker c.replace_base.result (λ refused sure stored holds.
    let old = state g.S.Store c.self.inside.conn in
    let new = state g.S.Store c.replace_base.new.conn in
    let early = subst (λ (keeper : SqlKeeperData g.row.S.Denot). IsClean (state g.S.Store keeper.conn)) c.self.view_is
    (c.replace_base.ensures.clean sure) in
    let had = subst (λ (keeper : SqlKeeperData g.row.S.Denot). HoldsRows (state g.S.Store keeper.conn) stored)
    (sym c.self.view_is) (c.in_ok-make.ensures.made early.0 stored holds) in
    let held = still_rows old new stored (refused sure had.0) had in
    (held.0, inl held.1)) c.replace_base.ensures.refused

pub returns-clause-crash : goal.returns-clause-crash
returns-clause-crash g c clean =
    let old = state g.S.Store c.self.inside.conn in
    let new = state g.S.Store c.replace_base.new.conn in
    let early = subst (λ (keeper : SqlKeeperData g.row.S.Denot). HasCleanDisk (state g.S.Store keeper.conn))
    c.self.view_is (c.replace_base.ensures.faithful clean) in
    let had = λ (stored : StoredData) (holds : Holds g.S.Store c.args.self.now stored). subst
    (λ (keeper : SqlKeeperData g.row.S.Denot). HoldsRows (state g.S.Store keeper.conn) stored)
    (sym c.self.view_is) (c.in_ok-make.ensures.made early stored holds) in
    let first = subst (λ (keeper : SqlKeeperData g.row.S.Denot). (found : Trees)
    → g.S.Store.recovers keeper.conn.store found
    → g.S.Store.recovers c.args.self.now.conn.store found
    ⊎ (IsSure g.S.Store c.args.self.now × ((stored : StoredData) → Holds g.S.Store c.args.self.now stored
    → found 0 ≡ table_rows stored)))
    (sym c.self.view_is) (c.in_ok-make.ensures.crash early) in
    let moved = rw (to_z-of_z w64 c.args.upto (search rules)) at (c.replace_base.ensures.crash clean) in
    move_finds (g.S.Store.recovers c.args.self.now.conn.store) (IsSure g.S.Store c.args.self.now)
    (Holds g.S.Store c.args.self.now) old new (c.in_ok-make.ensures.sure early) (λ stored holds. (had stored holds).1)
    first (map vec_items c.args.pieces.now) c.args.upto (λ found may. elim (moved found may) [
      | inl before ↦ inl before
      | inr it ↦ inr (λ stored holds. it stored (had stored holds))
    ])

pub returns-clause-settled : goal.returns-clause-settled
returns-clause-settled g c =
    on_ok_weaker c.replace_base.result (λ settled clean.
    let early = subst (λ (keeper : SqlKeeperData g.row.S.Denot). HasCleanDisk (state g.S.Store keeper.conn))
    c.self.view_is (c.replace_base.ensures.faithful clean) in (
      c.in_ok-make.ensures.sure early,
      λ stored holds _.
          let had = subst (λ (keeper : SqlKeeperData g.row.S.Denot). HoldsRows (state g.S.Store keeper.conn) stored)
          (sym c.self.view_is) (c.in_ok-make.ensures.made early stored holds) in
          rw (to_z-of_z w64 c.args.upto (search rules)) at (settled clean stored had),
    )) c.replace_base.ensures.settled
