use Rattle.std.proofs.Common.{◌≡◌, IfOk, [], drop, map, rules}
use Rattle.std.proofs.lemmas.List.{drop_all}
use Rattle.std.proofs.lemmas.Result.{IfOk-weaker}
use Rattle.cost_tables.proofs.SourceLemmas.{AreWith, with_all}
use Rattle.cost_tables.proofs.sources.sources_written.Goals as goal

pub returns : goal.returns
returns c =
    let net = c.args.net.now in
    let metric = c.args.metric.now in
    let all = map (λ write. write.key) c.args.writes.now in
    let names = c.loop-write.sources.keys in
    let none : drop c.loop-write.write-index c.args.writes.now ≡ [] =
    drop_all c.loop-write.write-index c.args.writes.now c.loop-write-test.false in
    let told : AreWith net metric all names [] = rw none at c.loop-write.invariant in
    let gives = c.into_iter.ensures.into_iter_gives in
    let given : IfOk c.collect.result (λ sources. sources.items ≡ names) = search rules in
    IfOk-weaker c.collect.result _
    _ (λ sources is. record { rise = rw is gives.4; same = rw is (with_all net metric all names told) }) given
