-- The rows before the key's place, and those behind it.
use Rattle.std.proofs.Common.{◌∙◌, ◌+◌}
use Rattle.std.proofs.lemmas.List.{take_rest}
use Rattle.alto_rows.proofs.PlaceLemmas.{drop_past_row, drop_past_gap, take_at_row, take_at_gap}
use Rattle.row_chunks.proofs.merge.split_round.Goals as goal

pub returns-in-Ok-clause-before : goal.returns-in-Ok-clause-before
returns-in-Ok-clause-before c = take_at_row c.args.rows.now c.args.key.now c.in-Ok.at c.requires c.in-Ok.ensures.place

pub returns-in-Ok-clause-past : goal.returns-in-Ok-clause-past
returns-in-Ok-clause-past c =
    take_rest c.args.rows.now (c.in-Ok.at + 1) ∙ drop_past_row c.args.rows.now c.args.key.now c.in-Ok.at c.requires
    c.in-Ok.ensures.place

pub returns-in-Err-clause-before : goal.returns-in-Err-clause-before
returns-in-Err-clause-before c =
    take_at_gap c.args.rows.now c.args.key.now c.in-Err.at c.requires c.in-Err.ensures.place

pub returns-in-Err-clause-past : goal.returns-in-Err-clause-past
returns-in-Err-clause-past c =
    take_rest c.args.rows.now c.in-Err.at ∙ drop_past_gap c.args.rows.now c.args.key.now c.in-Err.at c.requires
    c.in-Err.ensures.place
