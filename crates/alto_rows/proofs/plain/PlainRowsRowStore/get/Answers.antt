-- The row at the key's place has its value.
use Rattle.std.proofs.Common.{◌≡◌, Ok}
use Rattle.alto_rows.specs.Place.{place_of}
use Rattle.alto_rows.proofs.PlaceLemmas.{value_at_place}
use Rattle.alto_rows.proofs.plain.PlainRowsRowStore.get.Goals as goal

pub returns-in-Ok-clause-value : goal.returns-in-Ok-clause-value
returns-in-Ok-clause-value c =
    let place : Ok c.in-Ok.at ≡ place_of c.self.inside.rows.items c.args.key.now =
    rw c.deref.ensures.value at c.in-Ok.ensures.place in
    rw (← c.self.view_is) (value_at_place c.self.inside.rows.items c.args.key.now c.in-Ok.at c.index.result.now
    c.self.invariant place c.index.ensures)
