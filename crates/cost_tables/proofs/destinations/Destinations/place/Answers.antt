-- The destination stands at the place that was guessed.
use Rattle.std.proofs.Common.{◌≡◌, List, Some, ap, slice_get, subst}
use Rattle.alto_rows.proofs.TouchesLemmas.{same_name_itself}
use Rattle.cost_tables.specs.Lists.{IsPlace}
use Rattle.cost_tables.specs.Tables.{Name}
use Rattle.cost_tables.proofs.PairLemmas.{place_of_name}
use Rattle.cost_tables.proofs.destinations.Destinations.place.Goals as goal

pub returns-then-stands_at : goal.returns-then-stands_at
returns-then-stands_at c =
    let names = c.self.inside.names.items in
    let dst = c.args.destination.now in
    let is = ap (λ list. list.names) c.self.view_is in
    let there : slice_get names c.guess-guess.result ≡ Some dst =
    rw (← c.deref.ensures.value) (c.stands_at.ensures c.if-stands_at.true) in
    subst (λ (all : List Name). IsPlace all dst c.guess-guess.result) is
    (place_of_name names c.guess-guess.result dst dst c.self.invariant there (same_name_itself dst))
