-- Accepting an import keeps a book legal, extends it, and changes nothing where it is refused or its id is known.
use Rattle.std.proofs.Common.{◌≡◌, refl, sym, ◌∙◌, arith}
use Rattle.std.proofs.lemmas.Bool.{leb-false, ltb-false}
use Rattle.std.proofs.lemmas.Cmp.{nat_list_eq_equiv}
use Rattle.std.proofs.lemmas.List.{append-nil, append_assoc}
use Rattle.std.specs.Prelude.{Bool, true, false, cond, ◌||◌, ℕ, ◌+◌, ◌<◌, ◌≤◌, nat_le, nat_lt, List, [], ◌∷◌, ◌++◌}
use Rattle.std.specs.Prelude.{length, map, find, Option, Some, None, Result, Ok, Err}
use Rattle.std.specs.List.{list_any, enumerate_from}
use Rattle.alto_rows.proofs.SoundLemmas.{sound_of_good}
use Rattle.alto_rows.specs.declared.write.Write.{Write}
use Rattle.alto_rows.specs.Accepted.{Accepted}
use Rattle.alto_rows.specs.Order.{same_name}
use Rattle.alto_rows.specs.Rows.{Rows, after}
use Rattle.alto_edits.proofs.LawLemmas.{Compiles, compiles}
use Rattle.alto_edits.specs.declared.rule.Rule.TheVariants as rule
use Rattle.alto_edits.specs.declared.rule.Past.{Past}
use Rattle.alto_edits.specs.declared.rule.CompileFault.{CompileFault}
use Rattle.alto_edits.specs.Compiled.{compiled, broken_by_batch}
use Rattle.alto_edits.specs.Laws.{MakeBatch}
use Rattle.alto_edits.specs.Rules.{first_broken}
use Rattle.alto_book.specs.declared.fault.EditFault.{EditFault}
use Rattle.alto_book.specs.Acceptance.{known, past_of, batch_of, accept_new, accept_unless_known, accept}
use Rattle.alto_book.specs.Book.{Kept, Book, Extends, all_kept, rows_of, writes_in}
use Rattle.alto_book.specs.Import.{Import}
use Rattle.alto_book.specs.Laws.{AcceptanceKeepsLegal}
use Rattle.alto_book.specs.Legal.{IsLegal}
use Rattle.alto_book.proofs.BatchLemmas.{compiled_follows}
use Rattle.alto_book.proofs.GrownLemmas.{legal_grown}
use Rattle.alto_book.proofs.StateLemmas.{good_rows, rows_within, next_versions}

-- ---- what stays

-- a book extends itself
pub extends_itself : (book : Book) → Extends book book
extends_itself book = record { base = refl; receipts = refl; more = []; batches = sym (append-nil book.batches) }

-- what extends a book that extends another extends that one
pub extends_on : (first second third : Book) → Extends second first → Extends third second → Extends third first
extends_on first second third a b = record {
  base = b.base ∙ a.base;
  receipts = b.receipts ∙ a.receipts;
  more = a.more ++ b.more;
  batches = rw (b.batches, a.batches) (append_assoc first.batches a.more b.more);
}

-- accepting extends a book
pub accept_extends : (book : Book) (import : Import) (moment : ℕ) → Extends (accept book import moment).book book
unfolding accept
accept_extends book import moment = by (known (all_kept book) import.id)
  where
    made : (result : Result (List Write) CompileFault) → Extends (accept_new book import moment result).book book
    made (Err fault) = extends_itself book
    made (Ok writes) = record {
      base = refl;
      receipts = refl;
      more = batch_of book import moment writes ∷ [];
      batches = refl;
    }

    by : (found : Option (ℕ × Kept)) → Extends (accept_unless_known found book import moment).book book
    by (Some numbered) = extends_itself book
    by None = made (compiled (rows_of book) import.edits (past_of book))

-- a refused import leaves the book
pub refused_leaves : (book : Book) (import : Import) (moment : ℕ) (fault : EditFault)
    → (accept book import moment).answer ≡ Err fault
    → (accept book import moment).book ≡ book
unfolding accept
refused_leaves book import moment fault = by (known (all_kept book) import.id)
  where
    made : (result : Result (List Write) CompileFault) → (accept_new book import moment result).answer ≡ Err fault
        → (accept_new book import moment result).book ≡ book
    made (Err broken) h = refl
    made (Ok writes) h = cc

    by : (found : Option (ℕ × Kept)) → (accept_unless_known found book import moment).answer ≡ Err fault
        → (accept_unless_known found book import moment).book ≡ book
    by (Some numbered) h = refl
    by None h = made (compiled (rows_of book) import.edits (past_of book)) h

-- an import whose id is known leaves the book
pub known_leaves : (book : Book) (import : Import) (moment : ℕ) (numbered : ℕ × Kept)
    → known (all_kept book) import.id ≡ Some numbered
    → (accept book import moment).book ≡ book
unfolding accept
known_leaves book import moment numbered h = rw h refl

-- ---- what holds of a new batch

-- an id that is not known is of no batch
pub unknown : (kept : List Kept) (start : ℕ) (id : List ℕ)
    → find (λ numbered. same_name numbered.1.id id) (enumerate_from start kept) ≡ None
    → list_any (same_name id) (map (λ one. one.id) kept) ≡ false
unknown [] start id h = refl
unknown (first ∷ kept) start id h = by (unknown kept (start + 1) id) (same_name first.id id) refl h
  where
    by : (find (λ numbered. same_name numbered.1.id id) (enumerate_from (start + 1) kept) ≡ None
        → list_any (same_name id) (map (λ one. one.id) kept) ≡ false)
        → (b : Bool) → same_name first.id id ≡ b
        → cond b (Some (start, first)) (find (λ numbered. same_name numbered.1.id id) (enumerate_from (start + 1) kept))
        ≡ None
        → (same_name id first.id || list_any (same_name id) (map (λ one. one.id) kept)) ≡ false
    by below true e g = cc
    by below false e g = rw (nat_list_eq_equiv.symm id first.id, e) (below g)

-- a batch that breaks no rule as a whole leaves room
room : (rows : Rows) (past : Past) (writes : List Write) → broken_by_batch rows past writes ≡ None
    → (past.batches + 1 ≤ 4096) × (past.writes + length writes ≤ 524288)
room rows past writes h =
    by (nat_lt 400000 (length (after rows writes))) (nat_lt 16384 (length writes)) (nat_le 4096 past.batches)
    (nat_lt 524288 (past.writes + length writes)) refl refl h
  where
    by : (a b c d : Bool) → nat_le 4096 past.batches ≡ c → nat_lt 524288 (past.writes + length writes) ≡ d
        → first_broken ((rule.G16, a) ∷ (rule.G17, b) ∷ (rule.G18, c || d) ∷ []) ≡ None
        → (past.batches + 1 ≤ 4096) × (past.writes + length writes ≤ 524288)
    by true b c d e f g = cc
    by false true c d e f g = cc
    by false false true d e f g = cc
    by false false false true e f g = cc
    by false false false false e f g =
        let few : past.batches < 4096 = leb-false 4096 past.batches e in
        let small : past.writes + length writes ≤ 524288 = ltb-false 524288 (past.writes + length writes) f in
        (omega arith, small)

-- accepting keeps a book legal
pub accept_legal : AcceptanceKeepsLegal
unfolding accept
accept_legal book import moment legal are = by (known (all_kept book) import.id) refl
  where
    made : known (all_kept book) import.id ≡ None → (result : Result (List Write) CompileFault)
        → compiled (rows_of book) import.edits (past_of book) ≡ result
        → IsLegal (accept_new book import moment result).book
    made new (Err fault) e = legal
    made new (Ok writes) e =
        let batch : Accepted = batch_of book import moment writes in
        let make : MakeBatch (rows_of book) import.edits (past_of book) writes =
        record { good = good_rows book legal; room = next_versions book legal; are_edits = are; made = e } in
        let it : Compiles (rows_of book) (past_of book) writes =
        compiles (rows_of book) import.edits (past_of book) writes (sound_of_good (rows_of book) make.good) are e in
        let rooms : (length book.batches + 1 ≤ 4096) × (length (writes_in book.batches) + length writes ≤ 524288) =
        room (rows_of book) (past_of book) writes it.small in
        legal_grown book batch legal
        (compiled_follows (rows_of book) import.edits (past_of book) batch make (rows_within book legal))
        (unknown (all_kept book) 1 import.id new) (omega arith) rooms.0 rooms.1

    by : (found : Option (ℕ × Kept)) → known (all_kept book) import.id ≡ found
        → IsLegal (accept_unless_known found book import moment).book
    by (Some numbered) e = legal
    by None e = made e (compiled (rows_of book) import.edits (past_of book)) refl
