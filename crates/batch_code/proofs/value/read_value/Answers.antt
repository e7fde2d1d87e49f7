use Rattle.std.proofs.Common.{ap, sym, ◌∙◌}
use Rattle.std.proofs.lemmas.Result.{err_from_is_err_and}
use Rattle.batch_code.specs.Grammar.{form_number, has_form}
use Rattle.batch_code.specs.declared.kinds.Form.TheVariants as form
use Rattle.batch_code.proofs.ValueLemmas.{form_bad, form_on, value_bad, value_none}
use Rattle.batch_code.proofs.value.read_value.Goals as goal

pub returns-in_default-clause-stops : goal.returns-in_default-clause-stops
returns-in_default-clause-stops c = value_none c.args.of c.args.bytes.now c.in_default.ensures

pub returns-in_default-of-clause-stops : goal.returns-in_default-of-clause-stops
returns-in_default-of-clause-stops c = value_bad c.args.of c.in-Some.number c.args.bytes.now c.in-Some.rest.now
    c.in-Some.ensures.0 c.in_default-of.ensures

pub returns-then-not-has-clause-stops : goal.returns-then-not-has-clause-stops
returns-then-not-has-clause-stops c =
    form_bad c.args.of c.in-Some-of.form c.in-Some.number c.args.bytes.now c.in-Some.rest.now c.in-Some.ensures.0
    c.in-Some-of.ensures (sym c.has.ensures ∙ c.if-not-has.true)

pub returns-in_err-number-in-Number-clause-stops : goal.returns-in_err-number-in-Number-clause-stops
returns-in_err-number-in-Number-clause-stops c =
    let p = err_from_is_err_and c.from_residual.result c.from_residual.ensures.1 in
    rw (p.1, p.2) (form_on c.args.of form.Number c.in-Some.number c.args.bytes.now c.in-Some.rest.now
    c.in_err-number-in-Number.field-0.0 c.in-Some.ensures.0
    (c.in-Some-of.ensures ∙ ap form_number c.in-Number.is) (ap (has_form c.args.of) (sym c.in-Number.is)
    ∙ sym c.has.ensures ∙ c.if-not-has.false)
    (rw (c.least.ensures, c.most.ensures) at c.in_err-number-in-Number.ensures.stops))

pub returns-in_err-text-in-Text-clause-stops : goal.returns-in_err-text-in-Text-clause-stops
returns-in_err-text-in-Text-clause-stops c =
    let p = err_from_is_err_and c.from_residual-in_err-text-in-Text.result
    c.from_residual-in_err-text-in-Text.ensures.1 in
    rw (p.1, p.2) (form_on c.args.of form.Text c.in-Some.number c.args.bytes.now c.in-Some.rest.now
    c.in_err-text-in-Text.field-0.0 c.in-Some.ensures.0
    (c.in-Some-of.ensures ∙ ap form_number c.in-Text.is) (ap (has_form c.args.of) (sym c.in-Text.is) ∙ sym c.has.ensures
    ∙ c.if-not-has.false) c.in_err-text-in-Text.ensures.stops)

pub returns-in_err-names-in-Names-clause-stops : goal.returns-in_err-names-in-Names-clause-stops
returns-in_err-names-in-Names-clause-stops c =
    let p = err_from_is_err_and c.from_residual-in_err-names-in-Names.result
    c.from_residual-in_err-names-in-Names.ensures.1 in
    rw (p.1, p.2) (form_on c.args.of form.Names c.in-Some.number c.args.bytes.now c.in-Some.rest.now
    c.in_err-names-in-Names.field-0.0 c.in-Some.ensures.0
    (c.in-Some-of.ensures ∙ ap form_number c.in-Names.is) (ap (has_form c.args.of) (sym c.in-Names.is)
    ∙ sym c.has.ensures ∙ c.if-not-has.false) c.in_err-names-in-Names.ensures.stops)
