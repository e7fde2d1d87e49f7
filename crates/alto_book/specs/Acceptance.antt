-- What an import comes to: a receipt and a book with one batch more, or why not.
use Rattle.std.specs.Prelude.{ℕ, ◌+◌, max, List, [], ◌∷◌, ◌++◌, length, fold, find, Option, Some, None, Result, Ok, Err}
use Rattle.std.specs.Prelude.{if◌then◌else◌}
use Rattle.std.specs.List.{enumerate_from}
use Rattle.alto_rows.specs.declared.write.Write.{Write}
use Rattle.alto_rows.specs.Accepted.{Accepted}
use Rattle.alto_rows.specs.Order.{same_name}
use Rattle.alto_edits.specs.declared.rule.Past.{Past}
use Rattle.alto_edits.specs.declared.rule.CompileFault.{CompileFault}
use Rattle.alto_edits.specs.Compiled.{compiled}
use Rattle.alto_book.specs.declared.command.Receipt.{Receipt}
use Rattle.alto_book.specs.declared.fault.EditFault.{EditFault}
use Rattle.alto_book.specs.declared.fault.EditFault.TheVariants.{OtherBody}
use Rattle.alto_book.specs.Book.{Kept, Book, number_of, all_kept, rows_of, writes_in}
use Rattle.alto_book.specs.Faults.{edit_fault}
use Rattle.alto_book.specs.Import.{Import}

-- what an import is answered, and the book afterwards
pub record Outcome : Type 0 where
  pub answer : Result Receipt EditFault
  pub book : Book

-- what is kept of the batch of an id, with its number from 1
abbrev pub known : List Kept → List ℕ → Option (ℕ × Kept)
known kept id = find (λ numbered. same_name numbered.1.id id) (enumerate_from 1 kept)

-- what a book has past its base
abbrev pub past_of : Book → Past
past_of book = record { batches = length book.batches; writes = length (writes_in book.batches) }

-- the moment of the last batch, 0 where there is none
abbrev pub last_moment : List Kept → ℕ
last_moment kept = fold (λ _ one. one.moment) 0 kept

-- the answer to an import whose id has a batch: its receipt, where the bodies have one digest
abbrev pub answer_known : ℕ × Kept → Import → Result Receipt EditFault
answer_known (n, kept) import =
    if same_name kept.digest import.digest then Ok (record { n = n; moment = kept.moment }) else Err (OtherBody n)

-- when a book's next batch is accepted: at this moment, or at that of the last batch where it is later
abbrev pub next_moment : Book → ℕ → ℕ
next_moment book moment = max moment (last_moment (all_kept book))

-- the batch of an import with these writes
abbrev pub batch_of : Book → Import → ℕ → List Write → Accepted
batch_of book import moment writes =
    record { id = import.id; digest = import.digest; moment = next_moment book moment; writes = writes }

-- a book with one batch more
abbrev pub with_batch : Book → Accepted → Book
with_batch book batch =
    record { base = book.base; receipts = book.receipts; batches = book.batches ++ batch ∷ [] }

-- what becomes of an import whose id is new, whose edits make these writes or break a rule
abbrev pub accept_new : Book → Import → ℕ → Result (List Write) CompileFault → Outcome
accept_new book import moment (Err fault) = record { answer = Err (edit_fault fault); book = book }
accept_new book import moment (Ok writes) = record {
  answer = Ok (record { n = number_of book + 1; moment = next_moment book moment });
  book = with_batch book (batch_of book import moment writes);
}

-- what becomes of an import, by whether its id has a batch
abbrev pub accept_unless_known : Option (ℕ × Kept) → Book → Import → ℕ → Outcome
accept_unless_known (Some numbered) book import moment = record { answer = answer_known numbered import; book = book }
accept_unless_known None book import moment =
    accept_new book import moment (compiled (rows_of book) import.edits (past_of book))

-- what becomes of an import that comes at this moment
unfoldable pub accept : Book → Import → ℕ → Outcome
accept book import moment = accept_unless_known (known (all_kept book) import.id) book import moment
