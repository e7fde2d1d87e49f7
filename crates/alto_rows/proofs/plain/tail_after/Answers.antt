-- The rows behind the key's row, or those from the place where it would go.
use Rattle.std.proofs.Common.{◌∙◌, ◌+◌}
use Rattle.std.proofs.lemmas.List.{take_rest}
use Rattle.alto_rows.proofs.PlaceLemmas.{drop_past_row, drop_past_gap}
use Rattle.alto_rows.proofs.plain.tail_after.Goals as goal

pub returns-in-Ok : goal.returns-in-Ok
returns-in-Ok c = take_rest c.args.rows.now (c.in-Ok.at + 1) ∙ drop_past_row c.args.rows.now c.args.key.now c.in-Ok.at
    c.requires c.in-Ok.ensures.place

pub returns-in-Err : goal.returns-in-Err
returns-in-Err c = take_rest c.args.rows.now c.in-Err.at ∙ drop_past_gap c.args.rows.now c.args.key.now c.in-Err.at
    c.requires c.in-Err.ensures.place
