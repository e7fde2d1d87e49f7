-- The sources that are there, and those of the rows that the walk has left, are all. Each turn takes one row.
use Rattle.std.proofs.Common.{length}
use Rattle.std.specs.Map.{keys_of}
use Rattle.cost_tables.proofs.SourceLemmas.{AreWith}
use Rattle.cost_tables.proofs.sources.sources_walked.Given as goal

abbrev pub invariant-loop-row : goal.invariant-loop-row
invariant-loop-row g l =
    AreWith l.net l.metric (keys_of l.initial.costs) l.sources.keys (keys_of l.costs)

abbrev pub decreases-loop-row : goal.decreases-loop-row
decreases-loop-row g l = length l.costs
