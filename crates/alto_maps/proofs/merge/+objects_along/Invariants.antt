use Rattle.std.proofs.Common.{length}
use Rattle.alto_maps.proofs.merge.+objects_along.Given as goal

abbrev pub decreases-objects_along : goal.decreases-objects_along
decreases-objects_along l = length l.path.now
