use Rattle.std.proofs.Common.{◌≡◌, take}
use Rattle.alto_book.specs.Numbers.{touching}
use Rattle.alto_versions.proofs.graphs.touching.Given as goal

abbrev pub invariant-loop-write : goal.invariant-loop-write
invariant-loop-write l = l.keys.items ≡ touching l.of (take l.write-index l.writes)
