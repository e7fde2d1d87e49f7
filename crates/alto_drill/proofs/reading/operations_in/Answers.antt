use Rattle.std.proofs.lemmas.Result.{IfOk-weaker}
use Rattle.alto_drill.proofs.ReadLemmas.{read_as}
use Rattle.alto_drill.proofs.reading.operations_in.Goals as goal

pub operations_said-requires : goal.operations_said-requires
operations_said-requires c = (c.requires.0, read_as _ _ _ (rw c.in-Some.is at c.in_ok-said.ensures) c.requires.1)

pub returns : goal.returns
returns c =
    IfOk-weaker c.operations_said.result _ _
    (λ ops made changes is. made changes (read_as _ _ _ (rw c.in-Some.is at c.in_ok-said.ensures) is))
    c.operations_said.ensures
