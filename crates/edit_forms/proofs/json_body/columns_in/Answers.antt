-- The texts in the six places are the columns; too few or too many items, or one that is no text, make no six columns.
use Rattle.std.proofs.Common.{inl, inr, sym, arith}
use Rattle.edit_forms.proofs.ItemLemmas.{not_a_text, other_length, six_columns}
use Rattle.edit_forms.proofs.json_body.columns_in.Goals as goal
use Rattle.edit_forms.proofs.json_body.columns_in.Goals.{then-texts-lt2-via-then-texts-lt2}
use Rattle.edit_forms.proofs.json_body.columns_in.Goals.{then-texts-lt2-via-else-texts-lt2+then-texts-gt6}

pub returns-then-texts-lt2-clause-other : goal.returns-then-texts-lt2-clause-other
returns-then-texts-lt2-clause-other c =
    elim c.then-texts-lt2.branch [
      | then-texts-lt2-via-then-texts-lt2 w ↦ other_length c.args.texts.now (inl (omega arith))
      | then-texts-lt2-via-else-texts-lt2+then-texts-gt6 w ↦ other_length c.args.texts.now (inr (omega arith))
    ]

pub returns-in_err-column-clause-other : goal.returns-in_err-column-clause-other
returns-in_err-column-clause-other c =
    rw c.from_residual.ensures (not_a_text c.args.texts.now 0 (sym c.in_err-column.ensures))

pub returns-in_err-column-2-clause-other : goal.returns-in_err-column-2-clause-other
returns-in_err-column-2-clause-other c =
    rw c.from_residual-in_err-column-2.ensures (not_a_text c.args.texts.now 1 (sym c.in_err-column-2.ensures))

pub returns-in_err-column-3-clause-other : goal.returns-in_err-column-3-clause-other
returns-in_err-column-3-clause-other c =
    rw c.from_residual-in_err-column-3.ensures (not_a_text c.args.texts.now 2 (sym c.in_err-column-3.ensures))

pub returns-in_err-column-4-clause-other : goal.returns-in_err-column-4-clause-other
returns-in_err-column-4-clause-other c =
    rw c.from_residual-in_err-column-4.ensures (not_a_text c.args.texts.now 3 (sym c.in_err-column-4.ensures))

pub returns-in_err-column-5-clause-other : goal.returns-in_err-column-5-clause-other
returns-in_err-column-5-clause-other c =
    rw c.from_residual-in_err-column-5.ensures (not_a_text c.args.texts.now 4 (sym c.in_err-column-5.ensures))

pub returns-in_err-column-6-clause-other : goal.returns-in_err-column-6-clause-other
returns-in_err-column-6-clause-other c =
    rw c.from_residual-in_err-column-6.ensures (not_a_text c.args.texts.now 5 (sym c.in_err-column-6.ensures))

pub returns-clause-six : goal.returns-clause-six
returns-clause-six c =
    six_columns c.args.texts.now _ _ _ _ _ _ (omega arith) (omega arith)
    (sym c.in_ok-column.ensures) (sym c.in_ok-column-2.ensures) (sym c.in_ok-column-3.ensures)
    (sym c.in_ok-column-4.ensures) (sym c.in_ok-column-5.ensures) (sym c.in_ok-column-6.ensures)
