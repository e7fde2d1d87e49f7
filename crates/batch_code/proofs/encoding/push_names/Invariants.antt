use Rattle.std.proofs.Common.{◌≡◌, ◌++◌, take}
use Rattle.std.specs.List.{flat_map}
use Rattle.code_bytes.specs.Pieces.{name}
use Rattle.batch_code.proofs.encoding.push_names.Given as goal

abbrev pub invariant-loop-ane : goal.invariant-loop-ane
invariant-loop-ane l = l.out.items ≡ l.fn.out.items ++ flat_map name (take l.ane-index l.names)
