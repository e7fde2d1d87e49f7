use Rattle.alto_serve.specs.Turns.{setting_of}
use Rattle.alto_serve.proofs.EventLemmas.{emits_grown}
use Rattle.alto_serve.proofs.TurnLemmas.{on_err_anyhow, whole_cut_off}
use Rattle.alto_serve.proofs.turns.answered.Goals as goal

pub returns-clause-err : goal.returns-clause-err
returns-clause-err g c =
    let setting = setting_of c.args.client.now (g.C.Clock.tells c.args.clock.now) g.F.Looks.alone c.args.most_waits in
    on_err_anyhow _ (whole_cut_off _ setting _ _ _ _ c.in_ok-reply.ensures.ok)

pub returns-in_err-reply-clause-book : goal.returns-in_err-reply-clause-book
returns-in_err-reply-clause-book g c = emits_grown _ _ _ _ c.in_err-reply.ensures.err

pub returns-clause-book : goal.returns-clause-book
returns-clause-book g c = emits_grown _ _ _ _ c.in_ok-reply.ensures.ok
