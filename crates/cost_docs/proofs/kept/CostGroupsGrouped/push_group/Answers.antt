use Rattle.std.proofs.Common.{◌≡◌, ◌++◌, subst}
use Rattle.std.proofs.lemmas.Result.{on_ok_weaker}
use Rattle.std.specs.Prelude.{OnOk}
use Rattle.alto_maps.specs.Shape.{Name, group_object}
use Rattle.alto_rows.specs.Rows.{Rows}
use Rattle.cost_docs.specs.CostMap.{cost_face}
use Rattle.cost_docs.proofs.SourceLemmas.{standing_named}
use Rattle.cost_docs.proofs.kept.CostGroupsGrouped.push_group.Goals as goal
use Rattle.doc_pieces.specs.Pieces.{member_text}

pub unreachable-requires : goal.unreachable-requires
unreachable-requires g c =
    (rw c.in-None.is at c.in_ok-source.ensures)
    (standing_named c.self.inside.net.now c.self.inside.metric.now c.args.name.now
    (g.R.RowStore.rows c.self.inside.rows.now) c.self.invariant.0
    (rw (← c.self.view_is) at c.requires))

pub returns : goal.returns
returns g c =
    let rows = g.R.RowStore.rows c.self.inside.rows.now in
    let face = cost_face c.self.inside.net.now c.self.inside.metric.now rows in
    let name = c.args.name.now in
    let named : c.in-Some.source ≡ name = rw c.in-Some.is at c.in_ok-source.ensures in
    subst
    (λ (map : Rows × Name × Name). OnOk c.push_group.result
    (c.push_group.new.out ≡ c.args.out.now ++ member_text name (group_object (cost_face map.1 map.2 map.0) name)))
    c.self.view_is
    (on_ok_weaker c.push_group.result
    (λ put.
    subst (λ name. c.push_group.new.out ≡ c.args.out.now ++ member_text name (group_object face name)) named
    (put rows c.self.invariant.0 c.self.invariant.1))
    c.push_group.ensures)
