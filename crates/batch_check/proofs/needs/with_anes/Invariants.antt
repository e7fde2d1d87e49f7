-- The keys so far are those that were given and those of the names so far.
use Rattle.std.proofs.Common.{◌≡◌, take}
use Rattle.std.specs.Prelude.{◌++◌, map}
use Rattle.alto_rows.specs.declared.key.Key.TheVariants as key
use Rattle.batch_check.proofs.needs.with_anes.Given as goal

abbrev pub invariant-loop-ane : goal.invariant-loop-ane
invariant-loop-ane l = l.all.items ≡ l.fn.keys.items ++ map (key.Ane l.net) (take l.ane-index l.anes)
