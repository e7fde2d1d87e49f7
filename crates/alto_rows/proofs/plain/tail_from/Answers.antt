-- The rows from the key's place on, whether it has a row there or not.
use Rattle.std.proofs.Common.{◌∙◌, inl, inr, sym}
use Rattle.std.proofs.lemmas.List.{take_rest}
use Rattle.alto_rows.proofs.PlaceLemmas.{drop_at_row, drop_at_gap}
use Rattle.alto_rows.proofs.plain.tail_from.Goals as goal

pub returns : goal.returns
returns c =
    let rows = c.args.rows.now in
    let key = c.args.key.now in
    take_rest rows c.in-Ok.at ∙ elim c.in-Ok.is [
      | inl row ↦ drop_at_row rows key c.in-Ok.at c.requires (sym row ∙ c.place.ensures.place)
      | inr gap ↦ drop_at_gap rows key c.in-Ok.at c.requires (sym gap ∙ c.place.ensures.place)
    ]
