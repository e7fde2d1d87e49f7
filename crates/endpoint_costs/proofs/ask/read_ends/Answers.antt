use Rattle.std.proofs.Common.{refl}
use Rattle.std.proofs.lemmas.Result.{err_from_is_err_and}
use Rattle.json_tree.specs.Tree.{data_of}
use Rattle.endpoint_costs.specs.Reading.{goes, fails}
use Rattle.endpoint_costs.proofs.ask.read_ends.Goals as goal

pub returns-in_err-object-clause-err : goal.returns-in_err-object-clause-err
returns-in_err-object-clause-err c =
    let p = err_from_is_err_and c.from_residual.result c.from_residual.ensures.1 in
    rw (p.1, p.2) (λ known. fails c.in_err-object.field-0.0 (c.in_err-object.ensures.err known) refl)

pub returns-in_err-srcs-clause-err : goal.returns-in_err-srcs-clause-err
returns-in_err-srcs-clause-err c =
    let p = err_from_is_err_and c.from_residual-in_err-srcs.result c.from_residual-in_err-srcs.ensures.1 in
    rw (p.1, p.2) (λ known.
    goes (data_of c.in_ok-object.object.now) c.in_ok-object.ensures.ok
    (fails c.in_err-srcs.field-0.0 (c.in_err-srcs.ensures.err known) refl))

pub returns-in_err-dsts-clause-err : goal.returns-in_err-dsts-clause-err
returns-in_err-dsts-clause-err c =
    let p = err_from_is_err_and c.from_residual-in_err-dsts.result c.from_residual-in_err-dsts.ensures.1 in
    rw (p.1, p.2) (λ known.
    goes (data_of c.in_ok-object.object.now) c.in_ok-object.ensures.ok
    (goes _ c.in_ok-srcs.ensures.ok (fails c.in_err-dsts.field-0.0 (c.in_err-dsts.ensures.err known) refl)))

pub returns-clause-ok : goal.returns-clause-ok
returns-clause-ok c =
    goes (data_of c.in_ok-object.object.now) c.in_ok-object.ensures.ok
    (goes _ c.in_ok-srcs.ensures.ok (goes _ c.in_ok-dsts.ensures.ok refl))
