use Rattle.std.proofs.Common.{◌≡◌, ◌++◌, map, take}
use Rattle.std.specs.List.{flat_map}
use Rattle.batch_code.specs.Spelling.{write_bytes}
use Rattle.base_code.specs.Bases.{write_of}
use Rattle.base_code.proofs.encoding.encode_rows.Given as goal

abbrev pub invariant-loop-row : goal.invariant-loop-row
invariant-loop-row l = l.out.items
    ≡ l.initial.out.items ++ flat_map write_bytes (map write_of (take l.row-index l.rows))
