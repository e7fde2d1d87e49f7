-- An import that was accepted is told the same receipt again, whatever was accepted since.
use Rattle.std.proofs.Common.{◌≡◌, refl, ap, ◌∙◌, arith}
use Rattle.std.proofs.lemmas.Cmp.{nat_list_eq_equiv}
use Rattle.std.proofs.lemmas.List.{length-append, length-map}
use Rattle.std.specs.Prelude.{Bool, true, false, cond, ℕ, ◌+◌, List, [], ◌∷◌, ◌++◌, length, map, find, Option, Some}
use Rattle.std.specs.Prelude.{None, Result, Ok, Err}
use Rattle.std.specs.List.{enumerate_from}
use Rattle.alto_rows.specs.Accepted.{Accepted}
use Rattle.alto_rows.specs.Order.{same_name}
use Rattle.alto_rows.specs.declared.write.Write.{Write}
use Rattle.alto_edits.specs.Compiled.{compiled}
use Rattle.alto_edits.specs.declared.rule.CompileFault.{CompileFault}
use Rattle.alto_book.specs.declared.command.Receipt.{Receipt}
use Rattle.alto_book.specs.declared.fault.EditFault.{EditFault}
use Rattle.alto_book.specs.Acceptance.{Outcome, known, past_of, batch_of, with_batch, answer_known, accept_new}
use Rattle.alto_book.specs.Acceptance.{accept_unless_known, accept}
use Rattle.alto_book.specs.Book.{Kept, Book, Extends, number_of, kept_of, all_kept, rows_of}
use Rattle.alto_book.specs.Laws.{ReceiptIsKept}
use Rattle.alto_book.proofs.ChangeLemmas.{all_kept-extended}
use Rattle.alto_book.proofs.GrownLemmas.{all_kept-grown}

-- what is kept of the batch of an id, from a number on
abbrev known_from : ℕ → List Kept → List ℕ → Option (ℕ × Kept)
known_from start kept id = find (λ numbered. same_name numbered.1.id id) (enumerate_from start kept)

-- a batch that has an id has it among more batches
known_among : (kept more : List Kept) (start : ℕ) (id : List ℕ) (numbered : ℕ × Kept)
    → known_from start kept id ≡ Some numbered
    → known_from start (kept ++ more) id ≡ Some numbered
known_among [] more start id numbered h = cc
known_among (first ∷ kept) more start id numbered h =
    by (known_among kept more (start + 1) id numbered) (same_name first.id id) h
  where
    by : (known_from (start + 1) kept id ≡ Some numbered → known_from (start + 1) (kept ++ more) id ≡ Some numbered)
        → (b : Bool) → cond b (Some (start, first)) (known_from (start + 1) kept id) ≡ Some numbered
        → cond b (Some (start, first)) (known_from (start + 1) (kept ++ more) id) ≡ Some numbered
    by below true g = g
    by below false g = below g

-- what is known of a book is known of each later one
known_later : (book later : Book) (id : List ℕ) (numbered : ℕ × Kept) → Extends later book
    → known (all_kept book) id ≡ Some numbered
    → known (all_kept later) id ≡ Some numbered
known_later book later id numbered extends h =
    rw (all_kept-extended book later extends) (known_among (all_kept book) (map kept_of extends.more) 1 id numbered h)

-- numbers that are one number a batch alike
at_number : (m n : ℕ) (one : Kept) → m ≡ n → ◌≡◌ {A = Option (ℕ × Kept)} (Some (m, one)) (Some (n, one))
at_number m n one e = rw e refl

-- an id that no batch has is that of the next batch that has it
known_next : (kept : List Kept) (new : Kept) (start : ℕ) → known_from start kept new.id ≡ None
    → known_from start (kept ++ new ∷ []) new.id ≡ Some (length kept + start, new)
known_next [] new start h = rw (nat_list_eq_equiv.refl new.id)
    (at_number start (length {A = Kept} [] + start) new (omega arith))
known_next (first ∷ kept) new start h = by (known_next kept new (start + 1)) (same_name first.id new.id) h
  where
    by : (known_from (start + 1) kept new.id ≡ None
        → known_from (start + 1) (kept ++ new ∷ []) new.id ≡ Some (length kept + (start + 1), new))
        → (b : Bool) → cond b (Some (start, first)) (known_from (start + 1) kept new.id) ≡ None
        → cond b (Some (start, first)) (known_from (start + 1) (kept ++ new ∷ []) new.id)
        ≡ Some (length (first ∷ kept) + start, new)
    by below true g = cc
    by below false g = below g ∙ at_number (length kept + (start + 1)) (length (first ∷ kept) + start) new (omega arith)

-- so many batches are kept as there were
pub length-all_kept : (book : Book) → length (all_kept book) ≡ number_of book
length-all_kept book = length-append book.receipts (map kept_of book.batches)
    ∙ ap (λ (n : ℕ). length book.receipts + n) (length-map book.batches kept_of)

-- a batch whose id was new is known by the next number
known_grown : (book : Book) (batch : Accepted) → known (all_kept book) batch.id ≡ None
    → known (all_kept (with_batch book batch)) batch.id ≡ Some (number_of book + 1, kept_of batch)
known_grown book batch new =
    rw (all_kept-grown book batch)
    (known_next (all_kept book) (kept_of batch) 1 new
    ∙ at_number (length (all_kept book) + 1) (number_of book + 1) (kept_of batch)
    (ap (λ (n : ℕ). n + 1) (length-all_kept book)))

-- an accepted import is told the same again by each later book, which stays
pub accepted_again : ReceiptIsKept
unfolding accept
accepted_again book later import moment again receipt = by (known (all_kept book) import.id) refl
  where
    outcome : Result Receipt EditFault → Outcome
    outcome answer = record { answer = answer; book = later }

    told : (numbered : ℕ × Kept) → known (all_kept later) import.id ≡ Some numbered
        → answer_known numbered import ≡ Ok receipt
        → accept_unless_known (known (all_kept later) import.id) later import again
        ≡ record { answer = Ok receipt; book = later }
    told numbered e h = rw e (ap outcome h)

    made : known (all_kept book) import.id ≡ None → (result : Result (List Write) CompileFault)
        → (accept_new book import moment result).answer ≡ Ok receipt
        → Extends later (accept_new book import moment result).book
        → accept_unless_known (known (all_kept later) import.id) later import again
        ≡ record { answer = Ok receipt; book = later }
    made new (Err fault) h extends = cc
    made new (Ok writes) h extends =
        let batch : Accepted = batch_of book import moment writes in
        told (number_of book + 1, kept_of batch)
        (known_later (with_batch book batch) later import.id (number_of book + 1, kept_of batch)
        extends (known_grown book batch new))
        (rw (nat_list_eq_equiv.refl import.digest) h)

    by : (found : Option (ℕ × Kept)) → known (all_kept book) import.id ≡ found
        → (accept_unless_known found book import moment).answer ≡ Ok receipt
        → Extends later (accept_unless_known found book import moment).book
        → accept_unless_known (known (all_kept later) import.id) later import again
        ≡ record { answer = Ok receipt; book = later }
    by (Some numbered) e h extends = told numbered (known_later book later import.id numbered extends e) h
    by None e h extends = made e (compiled (rows_of book) import.edits (past_of book)) h extends
