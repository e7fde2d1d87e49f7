-- What the records past a header line read as is what the body does, if there are some.
use Rattle.std.proofs.lemmas.Result.{IfErr-weaker, IfOk-weaker, err_from_is_err_and}
use Rattle.edit_forms.proofs.EditLemmas.{body_edits, body_empty, body_fault, csv_body}
use Rattle.edit_forms.proofs.csv_body.read_csv.Goals as goal

pub returns-in_err-edits_of-clause-err : goal.returns-in_err-edits_of-clause-err
returns-in_err-edits_of-clause-err c =
    let p = err_from_is_err_and c.from_residual-in_err-edits_of.result c.from_residual-in_err-edits_of.ensures.1 in
    rw (p.1, p.2) (λ other.
    csv_body c.args.body.now _ _ _ c.in_ok-records.ensures.ok c.in_ok-pass_header.ensures.ok
    (body_fault _ _ (c.in_err-edits_of.ensures.err other)))

pub returns-clause-ok : goal.returns-clause-ok
returns-clause-ok c =
    IfOk-weaker c.at_least_one.result _ _ (λ edits e.
    csv_body c.args.body.now _ _ _ c.in_ok-records.ensures.ok c.in_ok-pass_header.ensures.ok
    (body_edits _ _ (rw e.1 c.in_ok-edits_of.ensures.ok) e.0)) c.at_least_one.ensures.ok

pub returns-clause-err : goal.returns-clause-err
returns-clause-err c =
    IfErr-weaker c.at_least_one.result _ _ (λ fault e other.
    rw e.0 (csv_body c.args.body.now _ _ _ c.in_ok-records.ensures.ok c.in_ok-pass_header.ensures.ok
    (body_empty _ (rw e.1 at c.in_ok-edits_of.ensures.ok)))) c.at_least_one.ensures.err
