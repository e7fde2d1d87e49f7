use Rattle.std.proofs.Common.{◌∙◌, refl}
use Rattle.std.proofs.lemmas.Result.{err_from_is_err_and}
use Rattle.json_tree.specs.Tree.{data_of, items_data}
use Rattle.endpoint_costs.specs.Reading.{fails}
use Rattle.endpoint_costs.proofs.ReadingLemmas.{member_fails, member_reads}
use Rattle.endpoint_costs.proofs.addrs.addrs_at.Goals as goal

pub returns-in_err-items-clause-err : goal.returns-in_err-items-clause-err
returns-in_err-items-clause-err c =
    let p = err_from_is_err_and c.from_residual.result c.from_residual.ensures.1 in
    rw (p.1, p.2) (λ known. fails c.in_err-items.field-0.0 (c.in_err-items.ensures.err known) refl)

pub returns-in_err-addrs_in-clause-err : goal.returns-in_err-addrs_in-clause-err
returns-in_err-addrs_in-clause-err c =
    let p = err_from_is_err_and c.from_residual-in_err-addrs_in.result c.from_residual-in_err-addrs_in.ensures.1 in
    rw (p.1, p.2) (λ known.
    member_fails c.args.name.now _ (data_of c.args.object.now) (items_data c.in_ok-items.items.now)
    c.in_err-addrs_in.field-0.0 c.in_ok-items.ensures.ok
    (c.deref.ensures ∙ c.in_ok-path.ensures) (c.in_err-addrs_in.ensures.err known))

pub returns-clause-ok : goal.returns-clause-ok
returns-clause-ok c =
    member_reads c.args.name.now _ (data_of c.args.object.now) (items_data c.in_ok-items.items.now) _ _
    c.in_ok-items.ensures.ok
    (c.deref.ensures ∙ c.in_ok-path.ensures) c.in_ok-addrs_in.ensures.ok c.if_any.ensures
