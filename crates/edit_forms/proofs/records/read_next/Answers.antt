-- The csv crate's clause of a read, at a reader that trims nothing and takes no header.
use Rattle.csv.specs.Records.{fields_of}
use Rattle.edit_forms.proofs.RecordLemmas.{unread-read}
use Rattle.edit_forms.proofs.records.read_next.Goals as goal

pub returns-in-Ok-clause-next : goal.returns-in-Ok-clause-next
returns-in-Ok-clause-next c =
    unread-read c.args.reader.now c.read_byte_record.new.self c.in-Ok.found
    (fields_of c.read_byte_record.new.row) c.requires
    (c.in-Ok.ensures.reads c.requires.untrimmed c.requires.ready)
