use Rattle.std.proofs.Common.{◌≡◌, ◌++◌, take}
use Rattle.std.specs.List.{flat_map}
use Rattle.batch_code.specs.Spelling.{write_bytes}
use Rattle.batch_code.proofs.encoding.push_writes.Given as goal

abbrev pub invariant-loop-write : goal.invariant-loop-write
invariant-loop-write l = l.out.items ≡ l.fn.out.items ++ flat_map write_bytes (take l.write-index l.writes)
