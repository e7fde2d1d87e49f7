use Rattle.std.proofs.Common.{arith}
use Rattle.alto_versions.specs.Graphs.{entries}
use Rattle.alto_versions.proofs.TableLemmas.{tables_made}
use Rattle.alto_versions.proofs.tables.tables_after.Goals as goal

pub returns : goal.returns
returns g c = λ before led had.
    tables_made before _ c.args.writes.now (entries c.args.tables.now) (entries c.loop-net.after.items)
    c.loop-net.net-iterator.rest.items led had
    (omega (arith, c.loop-net.net-iterator.rest.ok, c.in-None.ensures.steps.0)) c.loop-net.invariant
