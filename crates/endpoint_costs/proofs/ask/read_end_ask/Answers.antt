use Rattle.std.proofs.Common.{◌∙◌, ap, refl, sym}
use Rattle.std.proofs.lemmas.Result.{err_from_is_err_and}
use Rattle.json_tree.specs.Tree.{data_of}
use Rattle.cost_filters.specs.Types.{AskedTypesData}
use Rattle.endpoint_costs.specs.Ask.{asked_by}
use Rattle.endpoint_costs.specs.Reading.{fails}
use Rattle.endpoint_costs.proofs.ReadingLemmas.{ask_reads, ends_fail, tests_fail}
use Rattle.endpoint_costs.proofs.ask.read_end_ask.Goals as goal

pub returns-in_err-multi-clause-err : goal.returns-in_err-multi-clause-err
returns-in_err-multi-clause-err g c =
    let p = err_from_is_err_and c.from_residual.result c.from_residual.ensures.1 in
    rw (p.1, p.2) (λ known. fails c.in_err-multi.field-0.0 (c.in_err-multi.ensures.err known) refl)

pub returns-in_err-tested-clause-err : goal.returns-in_err-tested-clause-err
returns-in_err-tested-clause-err g c =
    let p = err_from_is_err_and c.from_residual-in_err-tested.result c.from_residual-in_err-tested.ensures.1 in
    rw (p.1, p.2) (λ known.
    tests_fail (g.R.RowStore.rows c.args.rows.now) c.args.net.now (data_of c.args.object.now) c.in_ok-multi.field-0
    c.deref.result.now c.in_err-tested.field-0.0
    c.in_ok-multi.ensures.ok (c.deref.ensures.value ∙ ap (λ (asked : AskedTypesData). asked.types) c.multi.view_is)
    (c.in_err-tested.ensures.err known))

pub returns-in_err-srcs-clause-err : goal.returns-in_err-srcs-clause-err
returns-in_err-srcs-clause-err g c =
    let p = err_from_is_err_and c.from_residual-in_err-srcs.result c.from_residual-in_err-srcs.ensures.1 in
    rw (p.1, p.2) (λ known.
    ends_fail (g.R.RowStore.rows c.args.rows.now) c.args.net.now (data_of c.args.object.now) c.in_ok-multi.field-0
    c.deref.result.now c.in_ok-tested.field-0 c.in_err-srcs.field-0.0
    c.in_ok-multi.ensures.ok (c.deref.ensures.value ∙ ap (λ (asked : AskedTypesData). asked.types) c.multi.view_is)
    c.in_ok-tested.ensures.ok (c.in_err-srcs.ensures.err known))

pub returns-clause-ok : goal.returns-clause-ok
returns-clause-ok g c =
    ask_reads (g.R.RowStore.rows c.args.rows.now) c.args.net.now (data_of c.args.object.now) c.in_ok-multi.field-0
    c.deref.result.now c.in_ok-tested.field-0 c.in_ok-srcs.field-0 _
    c.in_ok-multi.ensures.ok (c.deref.ensures.value ∙ ap (λ (asked : AskedTypesData). asked.types) c.multi.view_is)
    c.in_ok-tested.ensures.ok c.in_ok-srcs.ensures.ok
    (λ i. asked_by (sym c.multi.view_is i) (sym c.tested.view_is i) (sym c.srcs.view_is i))
