use Rattle.std.proofs.Common.{◌≡◌, ◌++◌, length}
use Rattle.std.specs.List.{filter_map}
use Rattle.path_docs.specs.Found.{pair_in}
use Rattle.path_docs.proofs.found.pairs_walked.Given as goal

-- the pairs that are there, and those that the walk has left, are all
abbrev pub invariant-loop-row : goal.invariant-loop-row
invariant-loop-row g l =
    l.pairs.items ++ filter_map pair_in l.paths ≡ filter_map pair_in l.initial.paths

abbrev pub decreases-loop-row : goal.decreases-loop-row
decreases-loop-row g l = length l.paths
