-- The rows before the key's place, whether it has a row there or not.
use Rattle.std.proofs.Common.{◌∙◌, inl, inr, sym}
use Rattle.alto_rows.proofs.PlaceLemmas.{take_at_row, take_at_gap}
use Rattle.alto_rows.proofs.plain.head_before.Goals as goal

pub returns : goal.returns
returns c =
    let rows = c.args.rows.now in
    let key = c.args.key.now in
    elim c.in-Ok.is [
      | inl row ↦ take_at_row rows key c.in-Ok.at c.requires (sym row ∙ c.place.ensures.place)
      | inr gap ↦ take_at_gap rows key c.in-Ok.at c.requires (sym gap ∙ c.place.ensures.place)
    ]
