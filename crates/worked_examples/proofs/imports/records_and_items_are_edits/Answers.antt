use Rattle.std.proofs.Common.{[], ◌∷◌, Ok, codes, refl}
use Rattle.alto_edits.specs.declared.edit.Edit.TheVariants.{NetAdd, PidAdd}
use Rattle.edit_forms.specs.Csv.{CsvReads}
use Rattle.edit_forms.specs.Edits as edits
use Rattle.edit_forms.specs.Table as column
use Rattle.csv.specs.Reading.{records_from, strip_bom}
use Rattle.csv.specs.Machine.{next_record}
use Rattle.json_tree.specs.Document.{with_member}
use Rattle.worked_examples.proofs.imports.records_and_items_are_edits.Goals as goal

pub returns-clause-csv : goal.returns-clause-csv
unfolding CsvReads records_from strip_bom next_record
returns-clause-csv c =
    edits.reads (NetAdd (codes "metro")) (Ok [])
    (Ok (NetAdd (codes "metro")), column.reads _ refl (column.reads (codes "metro") refl refl), refl) refl refl

pub returns-clause-json : goal.returns-clause-json
unfolding with_member
returns-clause-json c =
    edits.reads (NetAdd (codes "metro")) (Ok (PidAdd (codes "metro") (codes "east") ∷ []))
    (Ok (NetAdd (codes "metro")), column.reads _ refl (column.reads (codes "metro") refl refl), refl)
    (edits.reads (PidAdd (codes "metro") (codes "east")) (Ok []) (
      Ok (PidAdd (codes "metro") (codes "east")),
      column.reads _ refl (column.reads (codes "metro") refl (column.reads (codes "east") refl refl)),
      refl,
    )
    refl refl)
    refl
