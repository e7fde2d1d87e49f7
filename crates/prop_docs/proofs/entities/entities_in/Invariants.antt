-- The texts so far, with those of the rows that are left, are all. Each turn takes one row.
use Rattle.std.proofs.Common.{◌≡◌, length}
use Rattle.std.specs.Prelude.{[]}
use Rattle.std.specs.List.{filter_map}
use Rattle.prop_docs.specs.PropertyMap.{entity_in}
use Rattle.prop_docs.proofs.EntityLemmas.{with_texts}
use Rattle.prop_docs.proofs.entities.entities_in.Given as goal

abbrev pub invariant-loop-row : goal.invariant-loop-row
invariant-loop-row g l =
    with_texts l.texts.keys (filter_map (entity_in l.net) l.walk)
    ≡ with_texts [] (filter_map (entity_in l.net) l.initial.walk)

abbrev pub decreases-loop-row : goal.decreases-loop-row
decreases-loop-row g l = length l.walk
