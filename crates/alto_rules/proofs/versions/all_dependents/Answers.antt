-- All resources were gone over.
use Rattle.std.proofs.lemmas.Map.Iter.{rest_all}
use Rattle.std.specs.Map.Iter.{deref}
use Rattle.alto_rules.proofs.VersionLemmas.{all_joined}
use Rattle.alto_rules.proofs.versions.all_dependents.Goals as goal

pub returns : goal.returns
returns g c =
    all_joined (g.R.RowStore.rows c.args.rows.now) c.args.parts.now.keys c.into_iter-of-iterator.result
    c.loop-of.of-iterator c.new-all.result c.loop-of.all
    c.new-all.ensures.empty c.into_iter-of-iterator.ensures.into_iter_gives.0
    (rest_all deref c.loop-of.of-iterator _ _ c.in-None.is c.next.ensures.steps) c.loop-of.invariant
