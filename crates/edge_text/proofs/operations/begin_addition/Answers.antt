use Rattle.std.proofs.Common.{rules}
use Rattle.std.proofs.lemmas.Result.{on_ok_weaker}
use Rattle.edge_text.proofs.ChangeLemmas.{addition_begun}
use Rattle.edge_text.proofs.operations.begin_addition.Goals as goal

pub returns : goal.returns
returns c =
    on_ok_weaker c.key.result
    (λ keyed.
    addition_begun c.args.path.now c.args.out.now c.begin_object.new.self c.write_text.new.out c.write_text-2.new.out
    c.key.new.self (search rules) (search rules)
    c.in_ok-write_text.ensures c.in_ok-write_text-2.ensures keyed (search rules))
    c.key.ensures.ok
