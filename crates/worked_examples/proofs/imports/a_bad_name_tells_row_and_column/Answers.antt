use Rattle.std.proofs.Common.{Ok, Err, codes, refl}
use Rattle.alto_edits.specs.declared.edit.Edit.TheVariants.{NetAdd}
use Rattle.edit_forms.specs.Csv.{CsvReads}
use Rattle.edit_forms.specs.Edits as edits
use Rattle.edit_forms.specs.Table as column
use Rattle.edit_forms.specs.declared.fault.FormFault.TheVariants.{BadColumn}
use Rattle.csv.specs.Reading.{records_from, strip_bom}
use Rattle.csv.specs.Machine.{next_record}
use Rattle.worked_examples.proofs.imports.a_bad_name_tells_row_and_column.Goals as goal

pub returns-clause-csv : goal.returns-clause-csv
unfolding CsvReads records_from strip_bom next_record
returns-clause-csv c =
    edits.reads (NetAdd (codes "metro")) (Err (BadColumn 2 3))
    (Ok (NetAdd (codes "metro")), column.reads _ refl (column.reads (codes "metro") refl refl), refl)
    (edits.fails (BadColumn 2 3)
    (Err 3, column.reads _ refl (column.reads (codes "metro") refl (column.fails (λ pid named_so. cc) refl)), refl)
    refl)
    refl

pub returns-clause-nothing : goal.returns-clause-nothing
unfolding CsvReads records_from strip_bom next_record
returns-clause-nothing c = refl
