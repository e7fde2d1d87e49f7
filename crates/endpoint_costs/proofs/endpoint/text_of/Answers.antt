-- What is written of an address reads as the address.
use Rattle.std.proofs.Common.{rules}
use Rattle.std.proofs.lemmas.Result.{IfOk-weaker}
use Rattle.alto_addr.specs.Text.{addr_text}
use Rattle.alto_addr.proofs.Written.{reads_as_written}
use Rattle.endpoint_costs.proofs.endpoint.text_of.Goals as goal

pub returns-clause-reads : goal.returns-clause-reads
returns-clause-reads c =
    let addr = c.args.addr in
    IfOk-weaker c.text_of.result _ _ (λ text is. (addr_text addr, is, reads_as_written addr (search rules)))
    c.text_of.ensures
