-- What is kept, with what is left of what is told, makes the whole.
use Rattle.std.proofs.Common.{◌≡◌}
use Rattle.std.specs.Prelude.{map}
use Rattle.std.specs.BTreeMap.{get}
use Rattle.alto_rules.specs.declared.place.Place.{Place}
use Rattle.alto_rules.specs.Owners.{kept_or, owner_told, place_cmp, placed}
use Rattle.alto_rules.proofs.owners.add_told.Given as goal

abbrev pub invariant-loop-prefix : goal.invariant-loop-prefix
invariant-loop-prefix l = (at : Place)
    → kept_or (get place_cmp l.of at) (owner_told (map (placed l.net) l.prefix-iterator.rest.items) at)
    ≡ kept_or (get place_cmp l.initial.of at) (owner_told (map (placed l.net) l.fn.told.items) at)
