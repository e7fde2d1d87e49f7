use Rattle.std.proofs.lemmas.Result.{IfOk-weaker, on_err_weaker}
use Rattle.alto_serve.specs.Turns.{setting_of}
use Rattle.alto_serve.proofs.TurnLemmas.{turn_cut_off, turn_ends}
use Rattle.alto_serve.proofs.turns.take_turn.Goals as goal

pub returns-clause-ok : goal.returns-clause-ok
returns-clause-ok g c =
    let setting = setting_of c.args.client.now (g.C.Clock.tells c.args.clock.now) g.F.Looks.alone c.args.most_waits in
    IfOk-weaker c.conclude.result _ _
    (λ reply made. turn_ends _ setting _ _ _ _ _ _ reply c.in_ok-answer.ensures.ok made) c.conclude.ensures.ok

pub returns-clause-err : goal.returns-clause-err
returns-clause-err g c =
    let setting = setting_of c.args.client.now (g.C.Clock.tells c.args.clock.now) g.F.Looks.alone c.args.most_waits in
    on_err_weaker c.conclude.result
    (λ lost. turn_cut_off _ setting _ _ _ _ _ _ c.in_ok-answer.ensures.ok lost) c.conclude.ensures.err
