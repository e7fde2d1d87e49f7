-- The loop went over the touched resources in order.
use Rattle.std.proofs.Common.{◌≡◌, sym, ap, ◌∙◌, map-id}
use Rattle.std.proofs.lemmas.Map.Iter.{iter_end}
use Rattle.std.specs.Prelude.{List, filter, map}
use Rattle.std.specs.BTreeSet.{IsOrdered}
use Rattle.alto_rows.specs.declared.resource.Resource.{Resource}
use Rattle.alto_rows.specs.Rows.{after}
use Rattle.alto_rows.specs.Versions.{is_declared}
use Rattle.alto_edits.specs.Versions.{next_version}
use Rattle.alto_rules.proofs.VersionLemmas.{touched_in_order}
use Rattle.alto_rules.proofs.Orders.{by_resource_cmp}
use Rattle.alto_rules.proofs.draft.Draft.versions.Goals as goal

pub returns : goal.returns
returns g c =
    let given = c.into_iter-of-iterator.ensures.into_iter_gives in
    let rows = c.args.self.now.rows in
    let all : c.loop-of.yielded ≡ c.in_ok-of-items.of-items.keys =
    sym (map-id c.loop-of.yielded)
    ∙ (iter_end (λ (x : Resource). x) c.in_ok-of-items.of-items.keys c.loop-of.yielded _ _ _ _ given.0
    c.loop-of.yielded_by c.in-None.is c.next.ensures.steps).0 in
    c.loop-of.invariant
    ∙ (ap (λ (ofs : List Resource). map (next_version rows)
    (filter (is_declared (after rows c.args.self.now.writes)) ofs)) all
    ∙ ap (map (next_version rows)) (touched_in_order rows c.args.self.now.writes c.in_ok-of-items.of-items
    (rw (← c.self.view_is) c.self.invariant.sorted)
    (by_resource_cmp (λ R. IsOrdered R c.in_ok-of-items.of-items) given.4) c.in_ok-of-items.ensures))
