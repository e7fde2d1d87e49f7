use Rattle.std.proofs.Common.{◌∷◌, ◌++◌, [], List, ap, sym, ◌∙◌, arith}
use Rattle.std.proofs.lemmas.List.FromFn.{map-range_with_len_more}
use Rattle.alto_edits.specs.declared.edit.Edit.{Edit}
use Rattle.alto_edits.specs.declared.edit.Edit.TheVariants as edit
use Rattle.alto_drill.specs.Imports.{net_name, pid_name}
use Rattle.alto_drill.proofs.edits.opening_edits.Goals as goal

pub loop-number-preserved : goal.loop-number-preserved
loop-number-preserved c =
    c.in_ok-push-2.ensures.items
    ∙ (λ n. c.loop-number.invariant n ++ c.in_ok-pid_add.ensures n ∷ [])
    ∙ ap (λ (edits : List Edit). edit.NetAdd net_name ∷ edits)
    (sym (map-range_with_len_more (λ m. edit.PidAdd net_name (pid_name m)) 0 c.loop-number.number
    c.loop-number.number (omega arith)))
