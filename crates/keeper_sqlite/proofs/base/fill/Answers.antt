-- The base before goes with the rows that the next one takes in, and its pieces stand.
use Rattle.std.proofs.Common.{arith, rules, w64, []}
use Rattle.std.proofs.lemmas.Int.{to_z-of_z}
use Rattle.sqlite.specs.Held.{state}
use Rattle.sqlite.specs.State.{HasCleanDisk}
use Rattle.alto_keeper.specs.Stored.{rebased}
use Rattle.keeper_sqlite.proofs.DeleteLemmas.{taken_out}
use Rattle.keeper_sqlite.proofs.AddingLemmas.{on_ok_weaker}
use Rattle.keeper_sqlite.proofs.base.fill.Goals as goal

pub returns-clause-filled : goal.returns-clause-filled
returns-clause-filled g c =
    let old = state g.S.Store c.args.tx.now.conn.now in
    let mid = state g.S.Store c.delete.new.tx.conn.now in
    on_ok_weaker c.add_pieces.result (λ added clean stored has.
    let early : HasCleanDisk mid = omega (arith, clean, c.add_pieces.ensures.survives.clean) in
    let one = c.in_ok-delete.ensures.runs early c.requires.inside in
    (added clean one.1.mode).2 (rebased [] c.args.upto stored)
    (taken_out old mid stored c.args.upto _ c.requires.upto has
    (rw (to_z-of_z w64 c.args.upto (search rules)) at one.0)))
    c.add_pieces.ensures.added

pub returns-clause-inside : goal.returns-clause-inside
returns-clause-inside g c =
    let mid = state g.S.Store c.delete.new.tx.conn.now in
    on_ok_weaker c.add_pieces.result (λ added clean.
    let early : HasCleanDisk mid = omega (arith, clean, c.add_pieces.ensures.survives.clean) in
    (added clean (c.in_ok-delete.ensures.runs early c.requires.inside).1.mode).0) c.add_pieces.ensures.added
