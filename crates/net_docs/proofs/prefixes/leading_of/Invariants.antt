use Rattle.std.proofs.Common.{◌≡◌, ◌++◌, length}
use Rattle.net_docs.specs.Prefixes.{leading_of}
use Rattle.net_docs.proofs.prefixes.leading_of.Given as goal

-- the prefixes so far, and those of the PID that stand next, are those that stand first
abbrev pub invariant-loop-first : goal.invariant-loop-first
invariant-loop-first l = l.own.items ++ leading_of l.pid l.left ≡ leading_of l.pid l.prefixes

abbrev pub decreases-loop-first : goal.decreases-loop-first
decreases-loop-first l = length l.left
