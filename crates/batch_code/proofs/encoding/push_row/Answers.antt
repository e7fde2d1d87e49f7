use Rattle.std.proofs.Common.{Some}
use Rattle.batch_code.proofs.ShortLemmas.{short_of}
use Rattle.batch_code.proofs.encoding.push_row.Goals as goal

pub push_some-requires : goal.push_some-requires
push_some-requires c = short_of c.args.key.now (Some c.args.value.now) c.requires.stored c.requires.takes
