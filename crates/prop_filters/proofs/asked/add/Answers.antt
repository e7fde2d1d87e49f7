use Rattle.std.proofs.Common.{◌≡◌, ◌-◌, true, length, rules}
use Rattle.std.specs.Prelude.{slice_get}
use Rattle.prop_docs.specs.Properties.{is_found}
use Rattle.prop_filters.proofs.RepeatLemmas.{nothing_added}
use Rattle.prop_filters.proofs.asked.add.Goals as goal

pub returns-then-is_last : goal.returns-then-is_last
returns-then-is_last c =
    let entities = c.args.entities.now.items in
    let last : is_found (slice_get entities (length entities - 1)) c.args.entity.now ≡ true = search rules in
    nothing_added entities c.args.entity.now last
