use Rattle.std.proofs.lemmas.Result.{err_from_is_err_and}
use Rattle.alto_names.specs.Name.{is_letter_or_digit}
use Rattle.batch_code.proofs.KeyLemmas.{is_text}
use Rattle.batch_code.proofs.BatchLemmas.{epoch_stops, head_mark_stops, head_second_stops, window_stops}
use Rattle.batch_code.proofs.batch.read_head.Goals as goal

pub returns-in_err-rest-clause-stops : goal.returns-in_err-rest-clause-stops
returns-in_err-rest-clause-stops c =
    let p = err_from_is_err_and c.from_residual.result c.from_residual.ensures.1 in
    rw (p.1, p.2) (head_mark_stops c.args.bytes.now c.in_err-rest.field-0.0 c.in_err-rest.ensures.stops)

pub returns-in_err-rest-2-clause-stops : goal.returns-in_err-rest-2-clause-stops
returns-in_err-rest-2-clause-stops c =
    let p = err_from_is_err_and c.from_residual-in_err-rest-2.result c.from_residual-in_err-rest-2.ensures.1 in
    rw (p.1, p.2) (head_second_stops c.args.bytes.now c.in_ok-rest.rest.now c.in_err-rest-2.field-0.0
    c.in_ok-rest.ensures.ok c.in_err-rest-2.ensures.stops)

pub returns-in_err-epoch-clause-stops : goal.returns-in_err-epoch-clause-stops
returns-in_err-epoch-clause-stops c =
    let p = err_from_is_err_and c.from_residual-in_err-epoch.result c.from_residual-in_err-epoch.ensures.1 in
    rw (p.1, p.2) (epoch_stops c.args.bytes.now c.in_ok-rest.rest.now c.in_ok-rest-2.rest.now c.in_err-epoch.field-0.0
    c.in_ok-rest.ensures.ok c.in_ok-rest-2.ensures.ok c.in_err-epoch.ensures.stops)

pub returns-in_err-window-clause-stops : goal.returns-in_err-window-clause-stops
returns-in_err-window-clause-stops c =
    let p = err_from_is_err_and c.from_residual-in_err-window.result c.from_residual-in_err-window.ensures.1 in
    rw (p.1, p.2) (window_stops c.args.bytes.now c.in_ok-rest.rest.now c.in_ok-rest-2.rest.now c.in_ok-epoch.rest.now
    c.in_ok-epoch.epoch c.in_err-window.field-0.0 c.in_ok-rest.ensures.ok c.in_ok-rest-2.ensures.ok
    (is_text is_letter_or_digit 20 c.in_ok-epoch.epoch c.in_ok-epoch.ensures.ok.0) c.in_ok-epoch.ensures.ok.1
    c.in_err-window.ensures.stops)
