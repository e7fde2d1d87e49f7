use Rattle.std.proofs.lemmas.Result.{err_from_is_err_and}
use Rattle.batch_code.proofs.KeyLemmas.{resource_bad, resource_none, resource_on}
use Rattle.batch_code.specs.declared.kinds.ResourceKind.TheVariants as of
use Rattle.batch_code.proofs.key.read_resource.Goals as goal

pub returns-in_default-clause-stops : goal.returns-in_default-clause-stops
returns-in_default-clause-stops c = resource_none c.args.bytes.now c.in_default.ensures

pub returns-in-None-clause-stops : goal.returns-in-None-clause-stops
returns-in-None-clause-stops c = resource_bad c.in-Some.number c.args.bytes.now c.in-Some.rest.now c.in-Some.ensures.0
    c.in-None.ensures

pub returns-in_err-net-in-Some-Net-clause-stops : goal.returns-in_err-net-in-Some-Net-clause-stops
returns-in_err-net-in-Some-Net-clause-stops c =
    let p = err_from_is_err_and c.from_residual.result c.from_residual.ensures.1 in
    rw (p.1, p.2) (resource_on of.Net c.in-Some.number c.args.bytes.now c.in-Some.rest.now
    c.in_err-net-in-Some-Net.field-0.0 c.in-Some.ensures.0 (rw c.in-Some-Net.field-0-is at c.in-Some-Net.ensures)
    c.in_err-net-in-Some-Net.ensures.stops)

pub returns-in_err-net-in-Some-Cost-clause-stops : goal.returns-in_err-net-in-Some-Cost-clause-stops
returns-in_err-net-in-Some-Cost-clause-stops c =
    let p = err_from_is_err_and c.from_residual-in_err-net-in-Some-Cost.result
    c.from_residual-in_err-net-in-Some-Cost.ensures.1 in
    rw (p.1, p.2) (resource_on of.Cost c.in-Some.number c.args.bytes.now c.in-Some.rest.now
    c.in_err-net-in-Some-Cost.field-0.0 c.in-Some.ensures.0 (rw c.in-Some-Cost.field-0-is at c.in-Some-Cost.ensures)
    c.in_err-net-in-Some-Cost.ensures.stops)

pub returns-in_err-net-in-Some-Prop-clause-stops : goal.returns-in_err-net-in-Some-Prop-clause-stops
returns-in_err-net-in-Some-Prop-clause-stops c =
    let p = err_from_is_err_and c.from_residual-in_err-net-in-Some-Prop.result
    c.from_residual-in_err-net-in-Some-Prop.ensures.1 in
    rw (p.1, p.2) (resource_on of.Prop c.in-Some.number c.args.bytes.now c.in-Some.rest.now
    c.in_err-net-in-Some-Prop.field-0.0 c.in-Some.ensures.0 (rw c.in-Some-Prop.field-0-is at c.in-Some-Prop.ensures)
    c.in_err-net-in-Some-Prop.ensures.stops)
