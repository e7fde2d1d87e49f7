use Rattle.std.proofs.Common.{◌≡◌, ◌∷◌, map}
use Rattle.std.specs.List.{range_with_len}
use Rattle.alto_edits.specs.declared.edit.Edit.TheVariants as edit
use Rattle.alto_drill.specs.Imports.{net_name, pid_name}
use Rattle.alto_drill.proofs.edits.opening_edits.Given as goal

abbrev pub invariant-loop-number : goal.invariant-loop-number
invariant-loop-number l =
    l.edits.items ≡ edit.NetAdd net_name ∷ map (λ m. edit.PidAdd net_name (pid_name m)) (range_with_len 0 l.number)
