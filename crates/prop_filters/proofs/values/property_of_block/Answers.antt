use Rattle.std.proofs.Common.{◌≡◌, ◌∙◌, refl, sym, false}
use Rattle.alto_names.specs.Name.{IsPropName}
use Rattle.alto_rows.specs.Order.{same_name}
use Rattle.prop_filters.specs.Filter.{pid_property}
use Rattle.prop_filters.proofs.InheritLemmas.{not_inherited}
use Rattle.prop_filters.proofs.values.property_of_block.Goals as goal

pub returns-in-None : goal.returns-in-None
returns-in-None g c =
    let rows = g.R.RowStore.rows c.args.rows.now in
    let net = c.args.net.now in
    let name = c.args.name.now in
    let other : same_name name (pid_property net) ≡ false = sym c.is_pid_property.ensures
    ∙ c.if-is_pid_property.false in
    let no_such : ¬ (IsPropName name) = rw c.in-None.is at c.in_ok-name.ensures in
    rw (other, not_inherited rows net c.args.block.now name c.requires.good no_such) refl
