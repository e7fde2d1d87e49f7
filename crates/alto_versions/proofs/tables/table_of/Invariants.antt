use Rattle.std.proofs.Common.{◌≡◌, drop}
use Rattle.alto_versions.specs.Front.{table_in}
use Rattle.alto_versions.specs.Graphs.{entries}
use Rattle.alto_versions.proofs.tables.table_of.Given as goal

-- the tables so far are of other networks
abbrev pub invariant-loop-name : goal.invariant-loop-name
invariant-loop-name l = table_in (entries l.tables) l.text ≡ table_in (entries (drop l.name-index l.tables)) l.text
