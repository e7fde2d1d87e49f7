use Rattle.std.proofs.Common.{◌≡◌, [], drop, rules}
use Rattle.std.proofs.lemmas.List.{drop_all}
use Rattle.std.proofs.lemmas.Result.{err_from_is_err_and}
use Rattle.prop_docs.proofs.AskLemmas.{read_all, read_fault, read_more}
use Rattle.prop_docs.proofs.ask.entities_in.Goals as goal

pub returns-in_err-entity_in-clause-err : goal.returns-in_err-entity_in-clause-err
returns-in_err-entity_in-clause-err c =
    let p = err_from_is_err_and c.from_residual.result c.from_residual.ensures.1 in
    rw (p.1, p.2) (λ known.
    read_fault c.args.net.now c.args.items.now c.loop-item.item-index c.item-item.result c.loop-item.entities.items
    c.in_err-entity_in.field-0.0 c.loop-item-test.true c.item-item.is
    (c.in_err-entity_in.ensures.err known) c.loop-item.invariant)

pub loop-item-preserved : goal.loop-item-preserved
loop-item-preserved c =
    read_more c.args.net.now c.args.items.now c.loop-item.item-index c.item-item.result c.loop-item.entities.items _
    c.in_ok-entity_in.field-0 c.loop-item-test.true c.item-item.is
    c.in_ok-push.ensures.items c.in_ok-entity_in.ensures.ok c.loop-item.invariant

pub returns-clause-ok : goal.returns-clause-ok
returns-clause-ok c =
    let none : drop c.loop-item.item-index c.args.items.now ≡ [] =
    drop_all c.loop-item.item-index c.args.items.now (search (rules, c.loop-item-test.false)) in
    read_all c.args.net.now c.args.items.now c.loop-item.item-index c.loop-item.entities.items none
    c.loop-item.invariant
