use Rattle.std.proofs.Common.{◌≡◌, [], drop, rules}
use Rattle.std.proofs.lemmas.List.{drop_all}
use Rattle.std.proofs.lemmas.Result.{err_from_is_err_and}
use Rattle.endpoint_costs.proofs.ReadingLemmas.{read_all, read_fault, read_more}
use Rattle.endpoint_costs.proofs.addrs.addrs_in.Goals as goal

pub returns-in_err-addr_in-clause-err : goal.returns-in_err-addr_in-clause-err
returns-in_err-addr_in-clause-err c =
    let p = err_from_is_err_and c.from_residual-in_err-addr_in.result c.from_residual-in_err-addr_in.ensures.1 in
    rw (p.1, p.2) (λ known.
    read_fault c.args.field.now c.args.items.now c.loop-item.item-index c.item-item.result c.loop-item.addrs.items
    c.in_err-addr_in.field-0.0 c.loop-item-test.true c.item-item.is
    (c.in_err-addr_in.ensures.err known) c.loop-item.invariant)

pub loop-item-preserved : goal.loop-item-preserved
loop-item-preserved c =
    read_more c.args.field.now c.args.items.now c.loop-item.item-index c.item-item.result c.loop-item.addrs.items _
    c.in_ok-addr_in.field-0 c.loop-item-test.true c.item-item.is
    c.in_ok-push.ensures.items c.in_ok-addr_in.ensures.ok c.loop-item.invariant

pub returns-clause-ok : goal.returns-clause-ok
returns-clause-ok c =
    let none : drop c.loop-item.item-index c.args.items.now ≡ [] =
    drop_all c.loop-item.item-index c.args.items.now (search (rules, c.loop-item-test.false)) in
    read_all c.args.field.now c.args.items.now c.loop-item.item-index c.loop-item.addrs.items none c.loop-item.invariant
