-- Pieces are added one after another in a transaction; what follows from an answer, and how it is told.
use Rattle.std.proofs.Common.{◌≡◌, ℕ, ℤ, pos, ◌-ℤ◌, List, [], ◌∷◌, ◌++◌, length, Result, Ok, Err, OnOk, OnErr, IfOk}
use Rattle.std.proofs.Common.{IfErr, IsTrue, inl, inr, false, true≢false, refl, sym, subst, ◌∙◌, arith}
use Rattle.sqlite.specs.declared.types.Value.TheVariants.{Int, Blob as Bytes}
use Rattle.sqlite.specs.Store.{Ghosts}
use Rattle.sqlite.specs.Held.{Held, state}
use Rattle.sqlite.specs.State.{State, HasCleanDisk, Executes, ExecutesInside, Survives, KeepsCommit}
use Rattle.sqlite.specs.Steps.{FailsToCommit}
use Rattle.sqlite.specs.declared.error.Error.{Error}
use Rattle.sqlite.specs.Tree.{Trees}
use Rattle.sqlite.proofs.StateLemmas.{survives_then}
use Rattle.sqlite.proofs.InsideLemmas.{inside_keeps, keeps_then}
use Rattle.keeper_sqlite.specs.Store.{HasRows, with_base}
use Rattle.keeper_sqlite.specs.Texts.{insert_text}
use Rattle.keeper_sqlite.specs.SqlKeeper.{IsIdle, HasAdded, told}
use Rattle.keeper_sqlite.proofs.DeleteLemmas.{piece_added}

module _ {S : Type 0} (g : Ghosts S) where
  pub added_none : (old : Held S) → HasAdded g old old []
  added_none old clean inside = (inside, record { was_open = λ h. h; committed = λ _. refl }, λ stored has. has)

  pub added_more : (old mid new : Held S) (pieces more : List (List ℕ)) (bytes : List ℕ) (n : ℤ) (count : ℕ)
      → n ≡ pos 0 -ℤ pos 1 -ℤ pos (length pieces) → more ≡ pieces ++ bytes ∷ [] → HasAdded g old mid pieces
      → Survives (state g mid) (state g new) (λ _. ⊥)
      → (HasCleanDisk (state g new) → IsTrue mid.in_transaction
      → ExecutesInside 0 insert_text (Int n ∷ Bytes bytes ∷ [])
      (state g mid) (state g new) (Ok count))
      → HasAdded g old new more
  added_more old mid new pieces more bytes n count place grows so_far survives runs clean inside =
      let before = so_far (omega (arith, clean, survives.clean)) inside in
      let one = runs clean before.0 in (
        one.1.mode,
        keeps_then (state g old) (state g mid) (state g new) before.1
            (inside_keeps (state g mid) (state g new) 0 false insert_text _ (Ok count) one),
        λ stored has. subst (λ l. HasRows (state g new).now (with_base l stored)) (sym grows)
            (piece_added (state g mid) (state g new) stored pieces bytes count (before.2 stored has)
            (subst (λ z. Executes insert_text (Int z ∷ Bytes bytes ∷ []) (state g mid) (state g new)
            (Ok count)) place one.0)),
      )

  pub survives_more : (old mid new : Held S) → Survives (state g old) (state g mid) (λ _. ⊥)
      → Survives (state g mid) (state g new) (λ _. ⊥) → Survives (state g old) (state g new) (λ _. ⊥)
  survives_more old mid new =
      survives_then (state g old) (state g mid) (state g new) (λ _. ⊥) (λ _. ⊥) (λ _. ⊥) (λ _ db none. none)
      (λ _ db none. none)

-- what follows from an answer
pub on_ok_weaker : {T E P Q : Type 0} (r : Result T E) → (P → Q) → OnOk r P → OnOk r Q
on_ok_weaker (Ok value) f h = f h
on_ok_weaker (Err e) f h = tt

pub refused_by : {T E A B : Type 0} {P : E → Type 0} (r : Result T E) → (A → IfErr r P) → ((a : A) (e : E) → P e → B)
    → OnErr r (A → B)
refused_by (Ok value) h f = tt
refused_by (Err e) h f = λ a. f a e (h a)

-- a commit that failed leaves what was committed before the transaction
pub commit_failed : (begun last end : State) (e : Error) → KeepsCommit begun last → IsTrue last.in_transaction
    → IsTrue end.is_open → FailsToCommit last end e → IsIdle end × (end.now ≡ begun.committed)
commit_failed begun last end e kept inside is_open (inl fails) =
    let back = fails.3 in
    let undone = back.undone is_open in
    ((back.autocommit, undone.0 ∙ sym undone.1), undone.0 ∙ kept.committed (back.was_open is_open))
commit_failed begun last end e kept inside is_open (inr ended) = absurd (true≢false (sym inside ∙ ended.1))

pub commit_open : (last end : State) (e : Error) → FailsToCommit last end e → IsTrue end.is_open → IsTrue last.is_open
commit_open last end e (inl fails) is_open = fails.3.was_open is_open
commit_open last end e (inr ended) is_open = ended.2.0.was_open

pub on_err_weaker : {T E P Q : Type 0} (r : Result T E) → (P → Q) → OnErr r P → OnErr r Q
on_err_weaker (Ok value) f h = tt
on_err_weaker (Err e) f h = f h

-- ---- how an outcome is told

pub told_ok : {T : Type 0} (P : Type 0) (r : Result T Error) → OnOk r P → OnOk (told r) P
told_ok P (Ok value) h = h
told_ok P (Err e) h = tt

pub told_if_ok : {T : Type 0} (P : T → Type 0) (r : Result T Error) → IfOk r P → IfOk (told r) P
told_if_ok P (Ok value) h = h
told_if_ok P (Err e) h = tt

pub told_err : {T : Type 0} (P : Type 0) (r : Result T Error) → OnErr r P → OnErr (told r) P
told_err P (Ok value) h = tt
told_err P (Err e) h = h
