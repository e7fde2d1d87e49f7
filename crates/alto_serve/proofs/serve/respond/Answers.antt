use Rattle.std.proofs.Common.{◌∙◌, ◌≡◌, true, ap, sym, None}
use Rattle.alto_http.specs.Request.{RequestData}
use Rattle.alto_serve.specs.Connections.{state}
use Rattle.alto_serve.proofs.StepLemmas.{memory_ends, reply_breaks, reply_closes, reply_out}
use Rattle.alto_serve.proofs.serve.respond.Goals as goal

pub returns-in_default-clause-ended : goal.returns-in_default-clause-ended
returns-in_default-clause-ended g c =
    λ rest behind begins. memory_ends _ _ (state _ None _) _ rest behind begins c.out_of_memory.result
    c.in_default.ensures.err c.out_of_memory.ensures.written

pub returns-in-Err-clause-ended : goal.returns-in-Err-clause-ended
returns-in-Err-clause-ended g c =
    let cut = c.in-Err.ensures.err in
    λ rest behind begins. reply_breaks _ _ (state _ None _) _ rest behind begins _ cut.0 c.in-Ok.ensures.ok
    cut.2

pub returns-in-Ok-write_text-clause-ended : goal.returns-in-Ok-write_text-clause-ended
returns-in-Ok-write_text-clause-ended g c =
    let closes : c.args.request.now.close ≡ true =
    ap (λ (r : RequestData). r.close) (sym c.request.view_is) ∙ c.if-request.true in
    λ rest behind begins. reply_closes _ _ (state _ None _) _ rest behind begins _ closes c.in-Ok.ensures.ok
    c.in-Ok-write_text.ensures.ok

pub returns-in-Ok-2-clause-on : goal.returns-in-Ok-2-clause-on
returns-in-Ok-2-clause-on g c =
    λ none. reply_out _ _ (state _ None _) (state _ None _) _ c.in-Ok.ensures.ok
    c.in-Ok-write_text.ensures.ok
