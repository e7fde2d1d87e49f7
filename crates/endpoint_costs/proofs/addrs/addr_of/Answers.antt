use Rattle.endpoint_costs.proofs.ReadingLemmas.{text_writes, text_writes_none}
use Rattle.endpoint_costs.proofs.addrs.addr_of.Goals as goal

pub returns-in-Some-clause-ok : goal.returns-in-Some-clause-ok
returns-in-Some-clause-ok c =
    text_writes c.args.text.now c.as_bytes.result.now c.read_typed_addr.result c.in-Some.addr c.as_bytes.ensures.value
    c.read_typed_addr.ensures c.in-Some.is

pub returns-in_ok-wrong_text-in-None-clause-err : goal.returns-in_ok-wrong_text-in-None-clause-err
returns-in_ok-wrong_text-in-None-clause-err c = λ known. (
  text_writes_none c.args.text.now c.as_bytes.result.now c.read_typed_addr.result c.as_bytes.ensures.value
      c.read_typed_addr.ensures c.in-None.is,
  c.in_ok-wrong_text-in-None.ensures,
)
