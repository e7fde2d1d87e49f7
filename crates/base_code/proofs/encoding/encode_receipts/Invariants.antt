use Rattle.std.proofs.Common.{◌≡◌, ◌++◌, take}
use Rattle.std.specs.List.{flat_map}
use Rattle.base_code.specs.Pieces.{kept_bytes}
use Rattle.base_code.proofs.encoding.encode_receipts.Given as goal

abbrev pub invariant-loop-kept : goal.invariant-loop-kept
invariant-loop-kept l = l.out.items ≡ l.initial.out.items ++ flat_map kept_bytes (take l.kept-index l.receipts)
