-- Whether the writes that are left give their versions tells it of all.
use Rattle.std.proofs.Common.{◌≡◌, drop}
use Rattle.std.specs.Cmp.Lexicographic.{pointwise}
use Rattle.batch_check.specs.Touched.{gives_version}
use Rattle.batch_check.proofs.versions.are_same.Given as goal

abbrev pub invariant-loop-index : goal.invariant-loop-index
invariant-loop-index l =
    pointwise gives_version (drop l.index l.writes) (drop l.index l.versions)
    ≡ pointwise gives_version l.writes l.versions
