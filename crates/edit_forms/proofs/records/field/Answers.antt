-- A place below the number of fields has one.
use Rattle.csv.specs.Records.{fields_of}
use Rattle.edit_forms.proofs.FieldLemmas.{field_at-some, some_seen}
use Rattle.edit_forms.proofs.records.field.Goals as goal

pub unwrap-requires : goal.unwrap-requires
unwrap-requires c =
    some_seen c.get.result _ c.get.ensures.value (field_at-some (fields_of c.args.fields.now) c.args.place c.requires)
