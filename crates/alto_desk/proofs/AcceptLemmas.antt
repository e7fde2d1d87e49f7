-- What accepting an import comes to, case by case.
use Rattle.std.proofs.Common.{◌≡◌, ◌≢◌, ℕ, ◌+◌, List, Some, None, Result, Ok, Err, refl, sym, ◌∙◌, ap, subst}
use Rattle.std.specs.Prelude.{IfOk, IfErr, OnOk, All}
use Rattle.alto_rows.specs.declared.write.Write.{Write}
use Rattle.alto_edits.specs.Edits.{IsEdit}
use Rattle.alto_edits.specs.Compiled.{compiled}
use Rattle.alto_edits.specs.declared.rule.CompileFault.{CompileFault}
use Rattle.alto_edits.specs.declared.rule.CompileFault.TheVariants as compiling
use Rattle.alto_book.specs.Acceptance.{Outcome, accept, known, answer_known, batch_of, past_of, next_moment, with_batch}
use Rattle.alto_book.specs.Book.{Kept, Book, number_of, all_kept, rows_of}
use Rattle.alto_book.specs.Faults.{edit_fault}
use Rattle.alto_book.specs.Legal.{IsLegal}
use Rattle.alto_book.proofs.AcceptanceLemmas.{accept_legal}
use Rattle.alto_book.specs.Import.{Import}
use Rattle.alto_book.specs.declared.command.Receipt.{Receipt}
use Rattle.alto_book.specs.declared.fault.EditFault.{EditFault}
use Rattle.alto_book.specs.declared.fault.EditFault.TheVariants as fault

-- the answer to an import whose id has a batch
answer_to_known : (book : Book) (import : Import) (moment : ℕ) (numbered : ℕ × Kept)
    → Some numbered ≡ known (all_kept book) import.id
    → (accept book import moment).answer ≡ answer_known numbered import
unfolding accept
answer_to_known book import moment numbered h = rw (← h) refl

-- and the book stays
book_of_known : (book : Book) (import : Import) (moment : ℕ) (numbered : ℕ × Kept)
    → Some numbered ≡ known (all_kept book) import.id → book ≡ (accept book import moment).book
unfolding accept
book_of_known book import moment numbered h = rw (← h) refl

-- a result tells of itself
ok_itself : {T E : Type 0} (r answer : Result T E) → answer ≡ r → IfOk r (λ x. answer ≡ Ok x)
ok_itself (Ok x) answer h = h
ok_itself (Err e) answer h = tt

err_itself : (r answer : Result Receipt EditFault) → answer ≡ r
    → IfErr r (λ e. e ≢ fault.Memory → e ≢ fault.Keeper → answer ≡ Err e)
err_itself (Ok x) answer h = tt
err_itself (Err e) answer h = λ _ _. h

always_ok : {T E P : Type 0} (r : Result T E) → P → OnOk r P
always_ok (Ok x) p = p
always_ok (Err e) p = tt

pub known_ok : (book : Book) (import : Import) (moment : ℕ) (numbered : ℕ × Kept) (r : Result Receipt EditFault)
    → Some numbered ≡ known (all_kept book) import.id → r ≡ answer_known numbered import
    → IfOk r (λ receipt. (accept book import moment).answer ≡ Ok receipt)
known_ok book import moment numbered r h answered =
    ok_itself r _ (answer_to_known book import moment numbered h ∙ sym answered)

pub known_err : (book : Book) (import : Import) (moment : ℕ) (numbered : ℕ × Kept) (r : Result Receipt EditFault)
    → Some numbered ≡ known (all_kept book) import.id → r ≡ answer_known numbered import
    → IfErr r (λ e. e ≢ fault.Memory → e ≢ fault.Keeper → (accept book import moment).answer ≡ Err e)
known_err book import moment numbered r h answered =
    err_itself r _ (answer_to_known book import moment numbered h ∙ sym answered)

pub known_book : (book : Book) (import : Import) (moment : ℕ) (numbered : ℕ × Kept) (r : Result Receipt EditFault)
    → Some numbered ≡ known (all_kept book) import.id → OnOk r (book ≡ (accept book import moment).book)
known_book book import moment numbered r h = always_ok r (book_of_known book import moment numbered h)

-- the answer to a new import whose edits break a rule
pub refused : (book : Book) (import : Import) (moment : ℕ) (why : CompileFault)
    → None ≡ known (all_kept book) import.id
    → (why ≢ compiling.Memory → compiled (rows_of book) import.edits (past_of book) ≡ Err why)
    → edit_fault why ≢ fault.Memory → (accept book import moment).answer ≡ Err (edit_fault why)
unfolding accept
refused book import moment (compiling.Broken row rule) new broken known_fault =
    let breaks = broken (λ e. cc) in rw (← new, breaks) refl
refused book import moment compiling.Memory new broken known_fault = absurd (known_fault refl)

-- what becomes of a new import whose edits make these writes
pub accepted_new : (book : Book) (import : Import) (moment : ℕ) (writes : List Write)
    → None ≡ known (all_kept book) import.id → compiled (rows_of book) import.edits (past_of book) ≡ Ok writes
    → accept book import moment ≡ record {
      answer = Ok (record { n = number_of book + 1; moment = next_moment book moment });
      book = with_batch book (batch_of book import moment writes);
    }
unfolding accept
accepted_new book import moment writes new compiles = rw (← new, compiles) refl

-- the book after a new import is legal
pub legal_new : (book : Book) (import : Import) (moment : ℕ) (writes : List Write)
    → IsLegal book → All IsEdit import.edits
    → None ≡ known (all_kept book) import.id → compiled (rows_of book) import.edits (past_of book) ≡ Ok writes
    → IsLegal (with_batch book (batch_of book import moment writes))
legal_new book import moment writes legal edits new compiles =
    subst IsLegal (ap (λ (outcome : Outcome). outcome.book) (accepted_new book import moment writes new compiles))
    (accept_legal book import moment legal edits)
