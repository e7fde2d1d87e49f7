use Rattle.std.proofs.Common.{◌≡◌, map, take, vec_items}
use Rattle.sqlite.specs.Held.{state}
use Rattle.sqlite.specs.State.{Survives}
use Rattle.keeper_sqlite.specs.SqlKeeper.{HasAdded}
use Rattle.keeper_sqlite.proofs.base.add_pieces.Given as goal

-- the transaction is still that of the same connection, and has the pieces so far
abbrev pub invariant-loop-index : goal.invariant-loop-index
invariant-loop-index g l =
    (l.tx.conn.ghost_name ≡ l.initial.tx.conn.ghost_name)
    × Survives (state g.S.Store l.initial.tx.conn.now) (state g.S.Store l.tx.conn.now) (λ _. ⊥)
    × HasAdded g.S.Store l.initial.tx.conn.now l.tx.conn.now (map vec_items (take l.index l.pieces))
