-- The six fields at their places are all.
use Rattle.std.proofs.Common.{◌≡◌, length, arith}
use Rattle.csv.specs.Records.{fields_of}
use Rattle.edit_forms.proofs.FieldLemmas.{six_fields}
use Rattle.edit_forms.proofs.records.columns_of.Goals as goal

pub returns-clause-six : goal.returns-clause-six
returns-clause-six c =
    let six : length (fields_of c.args.fields.now) ≡ 6 = omega arith in
    six_fields (fields_of c.args.fields.now) _ _ _ _ _ _ six
    c.field.ensures c.field-2.ensures c.field-3.ensures c.field-4.ensures c.field-5.ensures c.field-6.ensures
