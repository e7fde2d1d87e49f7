use Rattle.std.proofs.Common.{◌≡◌, string_bytes, take}
use Rattle.json_tree.specs.Pointer.{pointer_text}
use Rattle.json_tree.proofs.pointer.printing.pointer_string.Given as goal

abbrev pub invariant-loop-name : goal.invariant-loop-name
invariant-loop-name l = string_bytes l.text ≡ pointer_text (take l.name-index l.names)
