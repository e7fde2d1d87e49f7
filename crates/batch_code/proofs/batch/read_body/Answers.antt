use Rattle.std.proofs.Common.{◌≡◌, ◌++◌, length, ap, sym, ◌∙◌, arith}
use Rattle.std.specs.List.{flat_map}
use Rattle.code_bytes.specs.Pieces.{number}
use Rattle.batch_code.specs.Spelling.{write_bytes}
use Rattle.std.proofs.lemmas.Result.{err_from_is_err_and}
use Rattle.batch_code.proofs.BatchLemmas.{body_read, digest_stops, moment_stops, writes_stop}
use Rattle.batch_code.proofs.batch.read_body.Goals as goal

pub returns-in_err-front-clause-stops : goal.returns-in_err-front-clause-stops
returns-in_err-front-clause-stops c =
    let p = err_from_is_err_and c.from_residual.result c.from_residual.ensures.1 in
    rw (p.1, p.2) (digest_stops c.args.bytes.now c.in_err-front.field-0.0 c.in_err-front.ensures.stops)

pub returns-in_err-moment-clause-stops : goal.returns-in_err-moment-clause-stops
returns-in_err-moment-clause-stops c =
    let p = err_from_is_err_and c.from_residual-in_err-moment.result c.from_residual-in_err-moment.ensures.1 in
    rw (p.1, p.2) (moment_stops c.args.bytes.now c.in_ok-front.front.now c.in_ok-front.rest.now
    c.in_err-moment.field-0.0 c.in_ok-front.ensures.ok.0 c.in_ok-front.ensures.ok.1 c.in_err-moment.ensures.stops)

pub returns-in_err-writes-clause-stops : goal.returns-in_err-writes-clause-stops
returns-in_err-writes-clause-stops c =
    let p = err_from_is_err_and c.from_residual-in_err-writes.result c.from_residual-in_err-writes.ensures.1 in
    rw (p.1, p.2) (writes_stop c.args.bytes.now c.in_ok-front.front.now c.in_ok-front.rest.now c.in_ok-moment.rest.now
    c.in_ok-moment.moment c.in_err-writes.field-0.0 c.in_ok-front.ensures.ok.0 c.in_ok-front.ensures.ok.1
    c.in_ok-moment.ensures.ok.1 c.in_ok-moment.ensures.ok.2 c.in_err-writes.ensures.stops)

pub returns-clause-ok : goal.returns-clause-ok
returns-clause-ok c =
    let items = c.in_ok-writes.writes.items in
    let list = number 4 (length items) ++ flat_map write_bytes items in
    let d : c.copy_from_slice.new.self ≡ c.in_ok-front.front.now = c.copy_from_slice.ensures.after in (
      ap length d ∙ c.in_ok-front.ensures.ok.0,
      omega (arith, c.in_ok-moment.ensures.ok.1),
      c.in_ok-writes.ensures.ok.0,
      c.in_ok-writes.ensures.ok.1,
      body_read c.args.bytes.now c.in_ok-front.front.now c.in_ok-front.rest.now c.in_ok-moment.rest.now
          c.in_ok-writes.rest.now list c.in_ok-moment.moment
          c.in_ok-front.ensures.ok.1 c.in_ok-moment.ensures.ok.2 c.in_ok-writes.ensures.ok.2
          ∙ ap (λ t. (t ++ (number 8 c.in_ok-moment.moment ++ list)) ++ c.in_ok-writes.rest.now) (sym d),
    )
