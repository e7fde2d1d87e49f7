use Rattle.std.proofs.lemmas.Result.{err_from_is_err_and}
use Rattle.code_bytes.proofs.PrefixLemmas.{first6, second6, third6, read6}
use Rattle.code_bytes.proofs.prefix.read_v6.Goals as goal

pub returns-in_err-high-clause-stops : goal.returns-in_err-high-clause-stops
returns-in_err-high-clause-stops c =
    let p = err_from_is_err_and c.from_residual.result c.from_residual.ensures.1 in
    rw (p.1, p.2) (first6 c.args.bytes.now c.in_err-high.field-0.0 c.in_err-high.ensures.stops)

pub returns-in_err-low-clause-stops : goal.returns-in_err-low-clause-stops
returns-in_err-low-clause-stops c =
    let p = err_from_is_err_and c.from_residual-in_err-low.result c.from_residual-in_err-low.ensures.1 in
    rw (p.1, p.2) (second6 c.in_ok-high.high c.args.bytes.now c.in_ok-high.rest.now c.in_err-low.field-0.0
    c.in_ok-high.ensures.ok.1 c.in_ok-high.ensures.ok.2
    c.in_err-low.ensures.stops)

pub returns-in_err-prefix-clause-stops : goal.returns-in_err-prefix-clause-stops
returns-in_err-prefix-clause-stops c =
    let p = err_from_is_err_and c.from_residual-in_err-prefix.result c.from_residual-in_err-prefix.ensures.1 in
    rw (p.1, p.2) (third6 c.in_ok-high.high c.in_ok-low.low c.args.bytes.now c.in_ok-high.rest.now c.in_ok-low.rest.now
    c.in_err-prefix.field-0.0 c.in_ok-high.ensures.ok.1
    c.in_ok-low.ensures.ok.1 c.in_ok-high.ensures.ok.2 c.in_ok-low.ensures.ok.2
    (rw (c.from.ensures, c.from-2.ensures) at c.in_err-prefix.ensures.stops))

pub returns-clause-ok : goal.returns-clause-ok
returns-clause-ok c =
    read6 c.in_ok-high.high c.in_ok-low.low c.in_ok-prefix.prefix.len c.in_ok-prefix.prefix.addr c.args.bytes.now
    c.in_ok-high.rest.now c.in_ok-low.rest.now c.in_ok-prefix.rest.now
    c.in_ok-high.ensures.ok.1 c.in_ok-low.ensures.ok.1 c.in_ok-high.ensures.ok.2 c.in_ok-low.ensures.ok.2
    c.in_ok-prefix.ensures.ok.1 (rw (c.from.ensures, c.from-2.ensures) at c.in_ok-prefix.ensures.ok.0)
