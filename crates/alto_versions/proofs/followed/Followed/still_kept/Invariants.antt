-- The texts so far are those of their numbers.
use Rattle.std.proofs.Common.{All, map}
use Rattle.std.specs.Arc.{arc_value}
use Rattle.alto_versions.specs.Followed.{AreTextsAt}
use Rattle.alto_versions.proofs.followed.Followed.still_kept.Given as goal

abbrev pub invariant-loop-texts : goal.invariant-loop-texts
invariant-loop-texts g l = All (AreTextsAt l.self l.of) (map arc_value l.kept.items)
