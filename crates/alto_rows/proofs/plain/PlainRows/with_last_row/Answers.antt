-- The rows stay sorted.
use Rattle.std.proofs.Common.{◌≡◌, sym, subst, length}
use Rattle.std.specs.Prelude.{Err}
use Rattle.alto_rows.specs.Place.{place_of}
use Rattle.alto_rows.specs.Rows.{Rows, AreSorted}
use Rattle.alto_rows.proofs.PlaceLemmas.{sorted_with_last}
use Rattle.alto_rows.proofs.plain.PlainRows.with_last_row.Goals as goal

pub invariant_of-result : goal.invariant_of-result
invariant_of-result c =
    let rows = c.self.inside.rows.items in
    let place : place_of rows c.args.key ≡ Err (length rows) =
    subst (λ (all : Rows). place_of all c.args.key ≡ Err (length all)) (sym c.self.view_is) c.requires in
    subst (λ (all : Rows). AreSorted all) (sym c.in_ok-push.ensures.items)
    (sorted_with_last rows c.args.key c.args.value c.self.invariant place)
