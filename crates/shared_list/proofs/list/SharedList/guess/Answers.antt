-- The run at the place has the item.
use Rattle.std.proofs.Common.{◌≡◌, ◌∙◌, ap, length, refl, slice_get, sym, subst, Some, None}
use Rattle.std.proofs.lemmas.Option.{slice_get_read}
use Rattle.std.specs.Arc.{arc_value}
use Rattle.std.specs.Prelude.{Option, IfSome}
use Rattle.shared_list.specs.Order.{InOrder, item_of}
use Rattle.shared_list.proofs.FindLemmas.{found_in_run, run_in_order}
use Rattle.shared_list.proofs.list.SharedList.guess.Goals as goal

if_some : {Y : Type 0} (found : Option Y) (P Q : Y → Type 0) → ((item : Y) → P item → Q item) → IfSome found P
    → IfSome found Q
if_some None P Q holds h = tt
if_some (Some item) P Q holds h = holds item h

pub guess-requires : goal.guess-requires
guess-requires g c =
    let name = g.T.Named.name in
    let place = c.place_of.result in
    let run = c.in_ok-get.field-0.now in
    let all = c.deref.result.now in
    let here : slice_get all place ≡ Some run =
    slice_get_read all (length all) place run refl c.in_ok-get.ensures.lookup.3.0 c.in_ok-get.ensures.lookup.1 in
    subst (InOrder name) (sym c.deref-3.ensures)
    (run_in_order name arc_value c.self.inside.runs.items place run c.self.invariant (rw c.deref.ensures.value at here))

pub returns : goal.returns
returns g c =
    let name = g.T.Named.name in
    let q = c.args.name.now in
    let place = c.place_of.result in
    let run = c.in_ok-get.field-0.now in
    let all = c.deref.result.now in
    let here : slice_get all place ≡ Some run =
    slice_get_read all (length all) place run refl c.in_ok-get.ensures.lookup.3.0 c.in_ok-get.ensures.lookup.1 in
    if_some c.guess.result (λ item. item_of name c.deref-3.result.now q ≡ Some item.now)
    (λ item. item_of name c.args.self.now q ≡ Some item.now)
    (λ item there.
    ap (λ items. item_of name items q) (sym c.self.view_is)
    ∙ found_in_run name arc_value q c.self.inside.runs.items place run item.now c.self.invariant
    (rw c.deref.ensures.value at here) (ap (λ items. item_of name items q) (sym c.deref-3.ensures) ∙ there))
    c.guess.ensures
