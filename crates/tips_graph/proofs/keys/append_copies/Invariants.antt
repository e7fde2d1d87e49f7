use Rattle.std.proofs.Common.{◌≡◌, ◌++◌, take}
use Rattle.tips_graph.proofs.keys.append_copies.Given as goal

abbrev pub invariant-loop-key : goal.invariant-loop-key
invariant-loop-key l = l.keys.items ≡ l.initial.keys.items ++ take l.key-index l.more
