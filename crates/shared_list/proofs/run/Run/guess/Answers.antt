-- The item at the place has the name.
use Rattle.std.proofs.Common.{◌≡◌, ◌∙◌, ap, length, refl, slice_get, sym, Some}
use Rattle.std.proofs.lemmas.Option.{slice_get-map, slice_get_read}
use Rattle.std.specs.Arc.{arc_value}
use Rattle.shared_list.proofs.OrderLemmas.{one_name}
use Rattle.shared_list.proofs.FindLemmas.{item_at}
use Rattle.shared_list.proofs.run.Run.guess.Goals as goal

pub returns-then-eq : goal.returns-then-eq
returns-then-eq g c =
    let name = g.T.Named.name in
    let q = c.args.name.now in
    let place = c.place_of.result in
    let item = c.in_ok-item.item.now in
    let all = c.deref.result.now in
    let here : slice_get all place ≡ Some item =
    slice_get_read all (length all) place item refl c.in_ok-item.ensures.lookup.3.0 c.in_ok-item.ensures.lookup.1 in
    let there : slice_get c.args.self.now place ≡ Some (arc_value item) =
    rw (← c.self.view_is, ← c.deref.ensures.value, slice_get-map arc_value all place, here) refl in
    let same : name (arc_value item) ≡ q =
    rw (c.name.ensures, c.deref-3.ensures) at (one_name c.name.result.now q (sym c.eq.ensures ∙ c.if-eq.true)) in
    item_at name c.args.self.now q place (arc_value item) c.requires there same
    ∙ ap (λ item. Some item) (sym c.deref-then-eq.ensures)
