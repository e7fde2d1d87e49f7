-- A batch that breaks no rule leads from a legal book to a legal one.
use Rattle.std.proofs.Common.{◌≡◌, ◌+◌, ◌≤◌, List, length, Option, Some, None, All, IfSome, refl, arith}
use Rattle.std.specs.Prelude.{[], ◌∷◌, ◌++◌, slice_get}
use Rattle.std.proofs.lemmas.List.Elements.{All-weaker}
use Rattle.alto_rows.specs.Accepted.{Accepted}
use Rattle.alto_rows.specs.Good.{IsKey, Takes}
use Rattle.alto_rows.specs.Order.{kind_of}
use Rattle.alto_rows.specs.declared.key.Key.{Key}
use Rattle.alto_rows.specs.declared.key.Key.TheVariants as key
use Rattle.alto_rows.specs.declared.value.Value.{Value}
use Rattle.alto_rows.specs.declared.write.Write.{Write}
use Rattle.alto_edits.specs.Laws.{FitsBatch, IsOfBatch, IsOfEdit}
use Rattle.alto_book.specs.Acceptance.{past_of, with_batch}
use Rattle.alto_book.specs.Book.{Book, all_kept, rows_of, state_at}
use Rattle.alto_book.specs.Legal.{Follows, IsLegal}
use Rattle.alto_book.proofs.AcceptanceLemmas.{unknown}
use Rattle.alto_book.proofs.GrownLemmas.{legal_grown}
use Rattle.batch_check.specs.Rules.{KeepsRules}
use Rattle.batch_code.specs.Storable.{IsStored, TakesChange}
use Rattle.alto_desk.specs.Opening.{IsLater, IsNew}

-- what a batch may write can be stored
stored_by_key : (at : Key) (v : Option Value) → IsOfBatch at → IfSome v (Takes at) → (v ≡ None → IsOfEdit at)
    → (3 ≤ kind_of at) × IsKey at × TakesChange at v
stored_by_key key.Epoch v of takes change = absurd of
stored_by_key key.Window v of takes change = absurd of
stored_by_key (key.Seq resource) None of takes change = absurd (change refl)
stored_by_key (key.Seq resource) (Some v) of takes change = (omega arith, of, takes)
stored_by_key (key.Net net) None of takes change = (omega arith, of, tt)
stored_by_key (key.Net net) (Some v) of takes change = (omega arith, of, takes)
stored_by_key (key.Pid net pid) None of takes change = (omega arith, of, tt)
stored_by_key (key.Pid net pid) (Some v) of takes change = (omega arith, of, takes)
stored_by_key (key.Prefix net pid prefix) None of takes change = (omega arith, of, tt)
stored_by_key (key.Prefix net pid prefix) (Some v) of takes change = (omega arith, of, takes)
stored_by_key (key.Metric net metric) None of takes change = (omega arith, of, tt)
stored_by_key (key.Metric net metric) (Some v) of takes change = (omega arith, of, takes)
stored_by_key (key.Cost net metric source destination) None of takes change = (omega arith, of, tt)
stored_by_key (key.Cost net metric source destination) (Some v) of takes change = (omega arith, of, takes)
stored_by_key (key.Prop net entity name) None of takes change = (omega arith, of, tt)
stored_by_key (key.Prop net entity name) (Some v) of takes change = (omega arith, of, takes)
stored_by_key (key.Ane net ane) None of takes change = (omega arith, of, tt)
stored_by_key (key.Ane net ane) (Some v) of takes change = (omega arith, of, takes)
stored_by_key (key.AneProp net ane name) None of takes change = (omega arith, of, tt)
stored_by_key (key.AneProp net ane name) (Some v) of takes change = (omega arith, of, takes)
stored_by_key (key.Path net source destination) None of takes change = (omega arith, of, tt)
stored_by_key (key.Path net source destination) (Some v) of takes change = (omega arith, of, takes)

pub stored_of_fit : (write : Write) → FitsBatch write → IsStored write
stored_of_fit write fits =
    let parts = stored_by_key write.key write.value fits.0 fits.1 fits.2 in
    record { stored = parts.0; is_key = parts.1; takes = parts.2 }

-- and the other way round
fit_by_key : (at : Key) (v : Option Value) → 3 ≤ kind_of at → IsKey at → TakesChange at v
    → IsOfBatch at × IfSome v (Takes at) × (v ≡ None → IsOfEdit at)
fit_by_key key.Epoch v stored is takes = absurd (omega arith)
fit_by_key key.Window v stored is takes = absurd (omega arith)
fit_by_key (key.Seq resource) None stored is takes = absurd takes
fit_by_key (key.Seq resource) (Some v) stored is takes = (is, takes, λ none. cc)
fit_by_key (key.Net net) None stored is takes = (is, tt, λ none. is)
fit_by_key (key.Net net) (Some v) stored is takes = (is, takes, λ none. is)
fit_by_key (key.Pid net pid) None stored is takes = (is, tt, λ none. is)
fit_by_key (key.Pid net pid) (Some v) stored is takes = (is, takes, λ none. is)
fit_by_key (key.Prefix net pid prefix) None stored is takes = (is, tt, λ none. is)
fit_by_key (key.Prefix net pid prefix) (Some v) stored is takes = (is, takes, λ none. is)
fit_by_key (key.Metric net metric) None stored is takes = (is, tt, λ none. is)
fit_by_key (key.Metric net metric) (Some v) stored is takes = (is, takes, λ none. is)
fit_by_key (key.Cost net metric source destination) None stored is takes = (is, tt, λ none. is)
fit_by_key (key.Cost net metric source destination) (Some v) stored is takes = (is, takes, λ none. is)
fit_by_key (key.Prop net entity name) None stored is takes = (is, tt, λ none. is)
fit_by_key (key.Prop net entity name) (Some v) stored is takes = (is, takes, λ none. is)
fit_by_key (key.Ane net ane) None stored is takes = (is, tt, λ none. is)
fit_by_key (key.Ane net ane) (Some v) stored is takes = (is, takes, λ none. is)
fit_by_key (key.AneProp net ane name) None stored is takes = (is, tt, λ none. is)
fit_by_key (key.AneProp net ane name) (Some v) stored is takes = (is, takes, λ none. is)
fit_by_key (key.Path net source destination) None stored is takes = (is, tt, λ none. is)
fit_by_key (key.Path net source destination) (Some v) stored is takes = (is, takes, λ none. is)

pub fit_of_stored : (write : Write) → IsStored write → FitsBatch write
fit_of_stored write stored = fit_by_key write.key write.value stored.stored stored.is_key stored.takes

-- a batch that breaks no rule behind a legal book
pub legal_more : (book : Book) (batch : Accepted) → IsLegal book → All FitsBatch batch.writes → IsNew book batch
    → IsLater book batch
    → KeepsRules (rows_of book) batch.writes (past_of book) → IsLegal (with_batch book batch)
legal_more book batch legal fit new later keeps =
    let few : length book.batches + 1 ≤ 4096 = omega (arith, keeps.batches) in
    legal_grown book batch legal
    (record { fit = fit; whole = keeps.whole; good = keeps.good; within = keeps.within; few = keeps.few })
    (unknown (all_kept book) 1 batch.id new) later few keeps.written

-- the last of a list
last_of : {A : Type 0} (xs : List A) (x : A) → slice_get (xs ++ x ∷ []) (length xs) ≡ Some x
last_of [] x = refl
last_of (y ∷ xs) x = last_of xs x

-- the batch with which a legal book ends
last_follows : (book : Book) (batch : Accepted) → IsLegal (with_batch book batch)
    → Follows (state_at (with_batch book batch) (length book.batches)) batch
last_follows book batch legal = legal.each (length book.batches) batch (last_of book.batches batch)

-- it has few writes, and each can be stored
pub last_few : (book : Book) (batch : Accepted) → IsLegal (with_batch book batch) → length batch.writes ≤ 16384
last_few book batch legal = (last_follows book batch legal).few

pub last_stored : (book : Book) (batch : Accepted) → IsLegal (with_batch book batch) → All IsStored batch.writes
last_stored book batch legal =
    All-weaker FitsBatch IsStored stored_of_fit batch.writes (last_follows book batch legal).fit

-- the same of a batch that was read
pub legal_stored : (book : Book) (batch : Accepted) → IsLegal book → All IsStored batch.writes → IsNew book batch
    → IsLater book batch
    → KeepsRules (rows_of book) batch.writes (past_of book) → IsLegal (with_batch book batch)
legal_stored book batch legal stored new later keeps =
    legal_more book batch legal (All-weaker IsStored FitsBatch fit_of_stored batch.writes stored) new later keeps
