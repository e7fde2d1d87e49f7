use Rattle.std.proofs.Common.{◌≡◌, ◌+◌, [], ◌∷◌, ◌++◌, take, sym, subst, rules}
use Rattle.json_tree.specs.Tree.{items_data}
use Rattle.json_patch.specs.OperationList.{ItemsSay, IsBadAt}
use Rattle.json_patch.specs.Operations.{operations_of}
use Rattle.json_patch.proofs.OperationListLemmas.{items_say_more, first_bad}
use Rattle.json_patch.proofs.operations.reading.read_ops.Goals as goal

pub returns-in-None-clause-err : goal.returns-in-None-clause-err
returns-in-None-clause-err c =
    let l = c.loop-k in
    subst (λ found. IsBadAt found l.k) c.in-Some.ensures
    (first_bad c.in-Some.items.now l.ops.items l.k c.index-items-k.result c.loop-k-test.true c.index-items-k.is
    l.invariant (rw c.in-None.is at c.in_ok-op.ensures))

pub loop-k-preserved : goal.loop-k-preserved
loop-k-preserved c =
    let l = c.loop-k in
    let items = c.in-Some.items.now in
    let op = c.in-Some-2.op in
    let pushed : c.push.new.self.items ≡ l.ops.items ++ op ∷ [] = search rules in
    subst (λ ops. ItemsSay (items_data (take (l.k + 1) items)) (operations_of ops)) (sym pushed)
    (items_say_more items l.ops.items l.k c.index-items-k.result op c.loop-k-test.true c.index-items-k.is
    l.invariant (rw c.in-Some-2.is at c.in_ok-op.ensures))
