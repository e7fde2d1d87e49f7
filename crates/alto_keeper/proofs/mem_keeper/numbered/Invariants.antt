use Rattle.std.proofs.Common.{◌≡◌, ◌++◌, map, drop, vec_items}
use Rattle.alto_keeper.specs.Stored.{numbered}
use Rattle.alto_keeper.proofs.mem_keeper.numbered.Given as goal

-- the pieces so far, and those that are left under the numbers behind
abbrev pub invariant-loop-index : goal.invariant-loop-index
invariant-loop-index l = numbered 0 (map vec_items l.pieces)
    ≡ l.rows.items ++ numbered l.index (map vec_items (drop l.index l.pieces))
