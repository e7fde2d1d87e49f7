use Rattle.std.proofs.Common.{refl}
use Rattle.std.proofs.lemmas.Result.{IfErr-weaker, IfOk-weaker, err_from_is_err_and}
use Rattle.endpoint_costs.specs.Reading.{goes, fails}
use Rattle.endpoint_costs.proofs.addrs.addr_in.Goals as goal

pub returns-in_err-text-clause-err : goal.returns-in_err-text-clause-err
returns-in_err-text-clause-err c =
    let p = err_from_is_err_and c.from_residual.result c.from_residual.ensures.1 in
    rw (p.1, p.2) (λ known. fails c.in_err-text.field-0.0 (c.in_err-text.ensures.err known) refl)

pub returns-clause-ok : goal.returns-clause-ok
returns-clause-ok c = IfOk-weaker c.addr_of.result _ _ (λ addr reads. goes c.in_ok-text.text.now c.in_ok-text.ensures.ok
    reads) c.addr_of.ensures.ok

pub returns-clause-err : goal.returns-clause-err
returns-clause-err c =
    IfErr-weaker c.addr_of.result _ _ (λ fault reads known. goes c.in_ok-text.text.now c.in_ok-text.ensures.ok
    (reads known)) c.addr_of.ensures.err
