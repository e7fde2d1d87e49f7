-- What the items read as is what the body does, if there are some; without a tree or its list there are none.
use Rattle.std.proofs.Common.{refl}
use Rattle.std.proofs.lemmas.Result.{IfErr-weaker, IfOk-weaker, err_from_is_err_and}
use Rattle.edit_forms.proofs.EditLemmas.{body_edits, body_empty, body_fault}
use Rattle.edit_forms.proofs.ItemLemmas.{json_body, no_list, no_value}
use Rattle.edit_forms.proofs.json_body.read_json.Goals as goal

pub returns-in_err-tree-clause-err : goal.returns-in_err-tree-clause-err
returns-in_err-tree-clause-err c =
    let p = err_from_is_err_and c.from_residual.result c.from_residual.ensures.1 in
    rw (p.1, p.2) (λ other.
    let syntax_ = c.in_err-tree.ensures.err other in
    rw syntax_.0 (no_value c.args.body.now _ refl syntax_.1))

pub returns-in_err-edits_of-in-Some-clause-err : goal.returns-in_err-edits_of-in-Some-clause-err
returns-in_err-edits_of-in-Some-clause-err c =
    let p = err_from_is_err_and c.from_residual-in_err-edits_of-in-Some.result
    c.from_residual-in_err-edits_of-in-Some.ensures.1 in
    rw (p.1, p.2) (λ other.
    json_body c.args.body.now _ c.in-Some.items.now _ c.in_ok-tree.ensures.ok c.in-Some.ensures
    (body_fault _ _ (c.in_err-edits_of-in-Some.ensures.err other)))

pub returns-in-Some-clause-ok : goal.returns-in-Some-clause-ok
returns-in-Some-clause-ok c =
    IfOk-weaker c.at_least_one.result _ _ (λ edits e.
    json_body c.args.body.now _ c.in-Some.items.now _ c.in_ok-tree.ensures.ok c.in-Some.ensures
    (body_edits _ _ (rw e.1 c.in_ok-edits_of-in-Some.ensures.ok) e.0)) c.at_least_one.ensures.ok

pub returns-in-Some-clause-err : goal.returns-in-Some-clause-err
returns-in-Some-clause-err c =
    IfErr-weaker c.at_least_one.result _ _ (λ fault e other.
    rw e.0 (json_body c.args.body.now _ c.in-Some.items.now _ c.in_ok-tree.ensures.ok c.in-Some.ensures
    (body_empty _ (rw e.1 at c.in_ok-edits_of-in-Some.ensures.ok)))) c.at_least_one.ensures.err

pub returns-clause-err : goal.returns-clause-err
returns-clause-err c other = no_list c.args.body.now _ c.in_ok-tree.ensures.ok c.in-None.ensures
