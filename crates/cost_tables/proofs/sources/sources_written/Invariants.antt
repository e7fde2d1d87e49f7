use Rattle.std.proofs.Common.{drop, map}
use Rattle.cost_tables.proofs.SourceLemmas.{AreWith}
use Rattle.cost_tables.proofs.sources.sources_written.Given as goal

-- the sources that are there, and those of the writes that are left, are all
abbrev pub invariant-loop-write : goal.invariant-loop-write
invariant-loop-write l =
    AreWith l.net l.metric (map (λ write. write.key) l.writes) l.sources.keys
    (map (λ write. write.key) (drop l.write-index l.writes))
