use Rattle.std.proofs.Common.{◌≡◌, ◌∙◌, ap, map, sym, subst}
use Rattle.std.proofs.lemmas.List.{take_all}
use Rattle.std.specs.List.Sorted.{IsStrictlySortedBy}
use Rattle.std.specs.Map.{keys_of}
use Rattle.doc_pieces.specs.Renewed.{change_of}
use Rattle.doc_pieces.proofs.RenewedLemmas.{keys_of-changes}
use Rattle.doc_pieces.proofs.renewing.with_written.Goals as goal
use Rattle.shared_list.specs.Order.{name_cmp}

pub changed-requires : goal.changed-requires
changed-requires g c =
    let face = g.G.Grouped.map c.args.groups.now in
    let all : c.loop-name.changes.items ≡ map (change_of face) c.args.names.now =
    c.loop-name.invariant
    ∙ ap (map (change_of face)) (take_all c.loop-name.name-index c.args.names.now c.loop-name-test.false) in
    subst (IsStrictlySortedBy name_cmp) (sym (ap keys_of all ∙ keys_of-changes face c.args.names.now)) c.requires

pub returns : goal.returns
returns g c =
    let face = g.G.Grouped.map c.args.groups.now in
    let all : c.loop-name.changes.items ≡ map (change_of face) c.args.names.now =
    c.loop-name.invariant
    ∙ ap (map (change_of face)) (take_all c.loop-name.name-index c.args.names.now c.loop-name-test.false) in
    record {
      groups = rw all at c.changed.ensures.after;
      order = c.changed.ensures.order;
    }
