use Rattle.std.proofs.lemmas.Result.{IfOk-weaker}
use Rattle.alto_words.proofs.BuilderLemmas.{with_is}
use Rattle.alto_words.proofs.builders.alto.Goals as goal

pub returns : goal.returns
returns c = IfOk-weaker c.with_command-7.result _ _ (λ alto added.
    with_is added (with_is c.in_ok-alto-6.ensures
    (with_is c.in_ok-alto-5.ensures (with_is c.in_ok-alto-4.ensures (with_is c.in_ok-alto-3.ensures
    (with_is c.in_ok-alto-2.ensures (with_is c.in_ok-alto.ensures c.top.ensures c.in_ok-init.ensures.app)
    c.in_ok-pipe.ensures.app) c.in_ok-serve.ensures.app) c.in_ok-import.ensures.app) c.in_ok-show.ensures.app)
    c.in_ok-drill.ensures.app) c.in_ok-trim.ensures.app)
    c.with_command-7.ensures
