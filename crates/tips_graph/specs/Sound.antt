-- What holds of every graph that stands in memory.
use Rattle.std.specs.Prelude.{◌≤◌, ◌<◌, ◌^◌, length}
use Rattle.tips_graph.specs.Graph.{GraphData, AreSets}

-- a window of 2 to 32, a last number that another can follow, no more pushes than the window has room for and than
-- there are numbers, and their keys sets in order
pub record IsSound (graph : GraphData) : Type 0 where
  pub at_least : 2 ≤ graph.window
  pub at_most : graph.window ≤ 32
  pub small : graph.last < 2 ^ 63
  pub within : length graph.kept ≤ graph.window
  pub numbered : length graph.kept ≤ graph.last
  pub sets : AreSets graph.kept
