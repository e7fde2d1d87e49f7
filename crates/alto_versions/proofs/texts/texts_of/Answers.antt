use Rattle.std.proofs.Common.{arith}
use Rattle.alto_versions.specs.Graphs.{entries}
use Rattle.alto_versions.proofs.TextLemmas.{texts_made}
use Rattle.alto_versions.proofs.texts.texts_of.Goals as goal

pub returns : goal.returns
returns g c =
    texts_made _ (entries c.loop-of.texts.items) c.loop-of.of-iterator.rest.items c.requires.good
    (omega (arith, c.loop-of.of-iterator.rest.ok, c.in-None.ensures.steps.0)) c.loop-of.invariant
