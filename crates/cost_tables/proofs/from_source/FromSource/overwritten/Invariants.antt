use Rattle.std.proofs.Common.{◌≡◌, length, take, zip}
use Rattle.alto_rows.specs.Rows.{AreSorted, Rows, after}
use Rattle.cost_tables.specs.Tables.{HasCostsOf}
use Rattle.cost_tables.proofs.from_source.FromSource.overwritten.Given as goal

-- the costs are those of rows after the writes so far
abbrev pub invariant-loop-write : goal.invariant-loop-write
invariant-loop-write l =
    let names = l.self.1.list.names in
    record {
      even : length l.costs ≡ length names;
      told : (before : Rows) → AreSorted before → HasCostsOf before l.net l.metric l.self.0 l.self.1.costs
          → HasCostsOf (after before (take l.write-index l.writes)) l.net l.metric l.self.0 (zip names l.costs);
    }
