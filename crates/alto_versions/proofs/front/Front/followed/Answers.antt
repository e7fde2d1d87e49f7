use Rattle.std.proofs.Common.{◌≡◌, ◌<◌, ◌∙◌, true, false, length, get_or, Some, ap, sym, arith}
use Rattle.std.specs.Arc.{arc_value}
use Rattle.std.specs.BTreeMap.{is_at}
use Rattle.alto_rows.specs.Order.{resource_cmp}
use Rattle.alto_versions.specs.Front.{Version}
use Rattle.alto_versions.proofs.FoundLemmas.{from_place}
use Rattle.alto_versions.proofs.front.Front.followed.Goals as goal

pub returns-then-is_same : goal.returns-then-is_same
returns-then-is_same g c =
    let graphs = sym (ap (λ (version : Version). version.graphs) c.self.view_is) in
    let items = c.deref-resource-items.ensures.value in
    let place = c.loop-resource.resource-index in
    let item = c.loop-resource-item.result in
    let within : place < length c.self.inside.graphs.items = omega (arith, ap length items) in
    let test : is_at (resource_cmp c.args.of.now) item.0 ≡ true = sym c.is_same.ensures ∙ c.if-is_same.true in
    let here = from_place (λ entry. (entry.0, arc_value entry.1)) _ _ c.args.of.now place item graphs within
    (c.loop-resource-item.is ∙ ap (λ xs. get_or xs place item) items) in
    ap Some c.deref.ensures ∙ sym (c.loop-resource.invariant ∙ rw test at here)

pub loop-resource-preserved : goal.loop-resource-preserved
loop-resource-preserved g c =
    let graphs = sym (ap (λ (version : Version). version.graphs) c.self.view_is) in
    let items = c.deref-resource-items.ensures.value in
    let place = c.loop-resource.resource-index in
    let item = c.loop-resource-item.result in
    let within : place < length c.self.inside.graphs.items = omega (arith, ap length items) in
    let test : is_at (resource_cmp c.args.of.now) item.0 ≡ false = sym c.is_same.ensures ∙ c.if-is_same.false in
    let here = from_place (λ entry. (entry.0, arc_value entry.1)) _ _ c.args.of.now place item graphs within
    (c.loop-resource-item.is ∙ ap (λ xs. get_or xs place item) items) in
    c.loop-resource.invariant ∙ rw test at here
