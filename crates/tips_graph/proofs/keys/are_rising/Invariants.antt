use Rattle.std.proofs.Common.{◌∷◌, drop}
use Rattle.std.specs.List.Sorted.{IsStrictlySortedBy}
use Rattle.alto_rows.specs.Order.{key_cmp}
use Rattle.tips_graph.proofs.keys.are_rising.Given as goal

-- where the last key and those that are left rise, all rise
abbrev pub invariant-loop-key : goal.invariant-loop-key
invariant-loop-key l = IsStrictlySortedBy key_cmp (l.last ∷ drop l.key-index l.rest)
    → IsStrictlySortedBy key_cmp l.fn.keys
