-- What is open after the question was so before it; a refusal leaves all.
use Rattle.std.proofs.Common.{[], sym, subst, arith}
use Rattle.sqlite.specs.Held.{state}
use Rattle.keeper_sqlite.specs.Texts.{probe_text}
use Rattle.keeper_sqlite.specs.SqlKeeper.{SqlKeeperData, Holds, IsClean}
use Rattle.keeper_sqlite.proofs.EndLemmas.{probe_open, not_run_ends, ends_idle, still_held}
use Rattle.keeper_sqlite.proofs.AddingLemmas.{refused_by}
use Rattle.keeper_sqlite.proofs.sql_keeper.SqlKeeper.probe.Goals as goal

pub returns-clause-clean : goal.returns-clause-clean
returns-clause-clean g c sure =
    subst (λ (keeper : SqlKeeperData g.row.S.Denot). IsClean (state g.S.Store keeper.conn)) c.self.view_is (
      omega (arith, sure.0, c.probe.ensures.survives.clean),
      probe_open probe_text [] (state g.S.Store c.self.inside.conn) (state g.S.Store c.probe.new.conn) c.probe.result
          (c.probe.ensures.unchanged sure.0) (c.probe.ensures.fails sure.0) sure.1,
    )

pub returns-clause-refused : goal.returns-clause-refused
returns-clause-refused g c =
    refused_by c.probe.result (λ sure. c.probe.ensures.fails sure.0) (λ sure e not_run stored holds.
    let had = subst (λ (keeper : SqlKeeperData g.row.S.Denot). Holds g.S.Store keeper stored)
    (sym c.self.view_is) holds in
    let old = state g.S.Store c.self.inside.conn in
    let new = state g.S.Store c.probe.new.conn in
    still_held c.self.inside.is_made old new stored
    (ends_idle old new (not_run_ends old new probe_text [] e not_run) sure.1 had.0) had)
