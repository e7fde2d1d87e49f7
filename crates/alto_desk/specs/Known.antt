-- What an import is answered whose id has a batch.
use Rattle.std.specs.Prelude.{List, Option, Result, option_map}
use Rattle.alto_book.specs.Acceptance.{answer_known, known}
use Rattle.alto_book.specs.Book.{Kept}
use Rattle.alto_book.specs.Import.{Import}
use Rattle.alto_book.specs.declared.command.Receipt.{Receipt}
use Rattle.alto_book.specs.declared.fault.EditFault.{EditFault}

-- none where it has no batch
abbrev pub answer_if_known : List Kept → Import → Option (Result Receipt EditFault)
answer_if_known kept import = option_map (λ numbered. answer_known numbered import) (known kept import.id)
