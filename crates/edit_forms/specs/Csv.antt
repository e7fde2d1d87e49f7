-- What a CSV body (RFC 4180) reads as: the edits of its records.
use Rattle.std.specs.Prelude.{ℕ, List, [], ◌∷◌, Result, if◌then◌else◌, codes}
use Rattle.std.specs.Cmp.Lexicographic.{pointwise}
use Rattle.csv.specs.Reading.{default_config, records, strip_bom}
use Rattle.alto_edits.specs.declared.edit.Edit.{Edit}
use Rattle.edit_forms.specs.declared.fault.FormFault.{FormFault}
use Rattle.edit_forms.specs.Edits.{BodyReads}
use Rattle.edit_forms.specs.Operations.{same_text}

-- the fields of a header line
abbrev pub header : List (List ℕ)
header = codes "op" ∷ codes "net" ∷ codes "a" ∷ codes "b" ∷ codes "c" ∷ codes "d" ∷ []

-- the records of a body without the header line, which only the first can be
abbrev pub without_header : List (List (List ℕ)) → List (List (List ℕ))
without_header [] = []
without_header (first ∷ more) = if pointwise same_text first header then more else first ∷ more

-- what a body reads as: what its records do, which the csv crate reads, past a byte order mark and a header line
unfoldable pub CsvReads : List ℕ → Result (List Edit) FormFault → Type 0
CsvReads body read = BodyReads (without_header (records default_config (strip_bom body))) read
