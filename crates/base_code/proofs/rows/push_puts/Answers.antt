use Rattle.std.proofs.Common.{subst}
use Rattle.std.proofs.lemmas.Result.{err_from_is_err_and}
use Rattle.base_code.proofs.RowLemmas.{HasPut, put_more, put_stops}
use Rattle.base_code.proofs.rows.push_puts.Goals as goal

pub loop-write-preserved : goal.loop-write-preserved
loop-write-preserved c =
    let has = subst (HasPut c.args.rows.now.items c.loop-write.rows.items c.args.writes.items) c.in-Some.ensures.steps.0
    c.loop-write.invariant in
    let ok = c.in_ok-push_put.ensures.ok in
    put_more c.args.rows.now.items c.loop-write.rows.items c.push_put.new.rows.items c.args.writes.items
    c.next.new.self.rest.items c.in-Some.write ok.0 has ok.1 ok.2 ok.3

pub returns-in_err-push_put-clause-stops : goal.returns-in_err-push_put-clause-stops
returns-in_err-push_put-clause-stops c =
    let p = err_from_is_err_and c.from_residual.result c.from_residual.ensures.1 in
    let has = subst (HasPut c.args.rows.now.items c.loop-write.rows.items c.args.writes.items) c.in-Some.ensures.steps.0
    c.loop-write.invariant in
    rw (p.1, p.2) (put_stops c.args.rows.now.items c.loop-write.rows.items c.args.writes.items
    c.next.new.self.rest.items c.in-Some.write c.in_err-push_put.field-0.0 has
    c.in_err-push_put.ensures.stops)
