use Rattle.std.proofs.Common.{◌≡◌, take}
use Rattle.alto_rows.proofs.value.AneNamesClone.clone.Given as goal

-- the names that the loop has passed are copied
abbrev pub invariant-loop-name : goal.invariant-loop-name
invariant-loop-name l = l.names.items ≡ take l.name-index l.name-items
