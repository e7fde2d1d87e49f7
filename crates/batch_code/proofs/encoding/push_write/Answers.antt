use Rattle.batch_code.proofs.ShortLemmas.{short_of}
use Rattle.batch_code.proofs.encoding.push_write.Goals as goal

pub push_value-requires : goal.push_value-requires
push_value-requires c = short_of c.args.write.now.key c.args.write.now.value c.requires.stored c.requires.takes
