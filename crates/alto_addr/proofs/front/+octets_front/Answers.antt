-- One number, and what stands behind it.
use Rattle.std.proofs.Common.{◌-◌, arith, subst, sym}
use Rattle.alto_addr.specs.Place.{IsLongestFront}
use Rattle.alto_addr.specs.Languages.{IsTokenFront}
use Rattle.alto_addr.specs.Tokens.{IsOctet}
use Rattle.alto_addr.specs.Fronts.{Octets}
use Rattle.alto_addr.proofs.Steps.{octets_one, octets_none, octets_on, octets_stop, of_more}
use Rattle.alto_addr.proofs.front.+octets_front.Goals as goal

pub returns-then-more-eq0 : goal.returns-then-more-eq0
returns-then-more-eq0 t c =
    subst (λ n. IsLongestFront (Octets n) c.args.text.now c.octet_front-octet.result) (sym c.if-more-eq0.true)
    (octets_one _ _ c.octet_front-octet.ensures)

pub returns-then-octet-eq0 : goal.returns-then-octet-eq0
returns-then-octet-eq0 t c =
    octets_none c.args.more c.args.text.now (subst (λ n. IsTokenFront IsOctet c.args.text.now n) c.if-octet-eq0.true
    c.octet_front-octet.ensures)

pub returns-in-Some : goal.returns-in-Some
returns-in-Some t c =
    of_more Octets c.args.more c.args.text.now _ _ (omega arith) (omega arith)
    (octets_on (c.args.more - 1) c.args.text.now c.in-Some.rest.now c.octet_front-octet.result c.octets_front.result
    (omega arith) c.octet_front-octet.ensures c.in-Some.ensures c.octets_front.ensures)

pub returns-in-None : goal.returns-in-None
returns-in-None t c =
    of_more Octets c.args.more c.args.text.now _ _ (omega arith) (omega arith)
    (octets_stop (c.args.more - 1) c.args.text.now c.octet_front-octet.result
    (omega arith) c.octet_front-octet.ensures c.in-None.ensures)
