-- What depends on the resources of the draft is what the writes touch.
use Rattle.std.proofs.Common.{◌≡◌, subst, sym}
use Rattle.std.proofs.lemmas.Result.{IfOk-weaker}
use Rattle.std.specs.BTreeSet.{contains}
use Rattle.alto_rows.specs.declared.resource.Resource.{Resource}
use Rattle.alto_rows.specs.Order.{resource_cmp}
use Rattle.alto_rules.specs.declared.kept.Kept.{Kept}
use Rattle.alto_rules.specs.Draft.{Drafted, HasTouched, HaveNoVersions}
use Rattle.alto_rules.specs.Index.{is_part}
use Rattle.alto_rules.proofs.VersionLemmas.{has_touched}
use Rattle.alto_rules.proofs.draft.Draft.touched.Goals as goal

pub returns : goal.returns
returns g c =
    IfOk-weaker c.all_dependents.result _ _
    (λ all joined. subst (λ (d : Drafted). HasTouched d.rows d.writes all) c.self.view_is
    (has_touched (g.R.RowStore.rows c.self.inside.rows.now) c.self.inside.writes.items c.deref.result.now.index.parts
    all c.self.invariant.sorted
    (subst (λ (d : Drafted). HaveNoVersions d.writes) (sym c.self.view_is) c.requires)
    (subst (λ (kept : Kept). (of : Resource) → contains resource_cmp kept.index.parts of
    ≡ is_part c.self.inside.writes.items of) (sym c.deref.ensures) c.self.invariant.indexed.resources) joined))
    c.all_dependents.ensures
