use Rattle.std.proofs.Common.{◌≡◌, IfOk, [], rules}
use Rattle.std.proofs.lemmas.Result.{IfOk-weaker}
use Rattle.std.specs.Map.{keys_of}
use Rattle.cost_tables.proofs.SourceLemmas.{AreWith, with_all}
use Rattle.cost_tables.proofs.sources.sources_walked.Goals as goal

pub returns : goal.returns
returns g c =
    let net = c.args.net.now in
    let metric = c.args.metric.now in
    let all = keys_of c.args.costs.now in
    let names = c.loop-row.sources.keys in
    let none : c.loop-row.costs ≡ [] = search rules in
    let told : AreWith net metric all names [] = rw none at c.loop-row.invariant in
    let gives = c.into_iter.ensures.into_iter_gives in
    let given : IfOk c.collect.result (λ sources. sources.items ≡ names) = search rules in
    IfOk-weaker c.collect.result _
    _ (λ sources is. record { rise = rw is gives.4; same = rw is (with_all net metric all names told) }) given
