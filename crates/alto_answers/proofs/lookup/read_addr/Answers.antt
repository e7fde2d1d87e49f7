use Rattle.alto_answers.proofs.LookupLemmas.{reads_addr}
use Rattle.alto_answers.proofs.lookup.read_addr.Goals as goal

pub returns : goal.returns
returns c = reads_addr c.args.text.now c.read_typed_addr.result c.read_typed_addr.ensures
