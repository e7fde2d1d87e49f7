use Rattle.std.proofs.Common.{rules}
use Rattle.matchit.proofs.OnLiterals.{matchit_on_literals}
use Rattle.alto_answers.proofs.routes.operator_router.Goals as goal

pub add-requires : goal.add-requires
unfolding matchit_on_literals
add-requires c = rw c.new-router.ensures (search rules)

pub returns : goal.returns
returns c = rw c.new-router.ensures at c.in_ok-add.ensures
