-- A call leaves the records of a book safe.
use Rattle.std.proofs.Common.{◌≡◌, ◌⊎◌, inl, inr, ℕ, ◌+◌, ◌≤◌, pos, List, length, refl, sym, subst}
use Rattle.alto_rows.specs.Accepted.{Accepted}
use Rattle.alto_book.specs.Acceptance.{with_batch}
use Rattle.alto_book.specs.Book.{Book, number_of, trimmed}
use Rattle.alto_book.specs.Laws.{IsSameBook}
use Rattle.alto_book.specs.Legal.{IsLegal}
use Rattle.alto_book.proofs.TrimLemmas.{trim_changes_nothing}
use Rattle.alto_keeper.specs.Stored.{StoredData, IsNext, IsKeptOrAdded, IsKeptOrRebased, LeavesFrom, LeavesOnly, Stays}
use Rattle.alto_keeper.specs.Stored.{with_row, rebased}
use Rattle.alto_keeper.specs.declared.keeper.Keeper.{Ghosts}
use Rattle.base_code.specs.Pieces.{base_pieces}
use Rattle.batch_code.specs.Spelling.{batch_bytes}
use Rattle.batch_code.specs.Storable.{IsStorable}
use Rattle.alto_desk.specs.Crash.{IsNearly, IsSafe}
use Rattle.alto_desk.specs.Records.{Backs, StoredAs}
use Rattle.alto_desk.specs.Trim.{base_of}
use Rattle.alto_desk.proofs.RecordLemmas.{is_next, stored_more}
use Rattle.alto_desk.proofs.TrimLemmas.{stored_trimmed}

-- the records of a book itself
pub nearly_same : (book : Book) (stored found : StoredData) → StoredAs stored book → IsLegal book → found ≡ stored
    → IsNearly book found
nearly_same book stored found stands legal same =
    record { other = book; stands = subst (λ s. StoredAs s book) (sym same) stands; legal = legal; near = inl refl }

-- their rows are those of the book, or of the book with one batch more
pub nearly_rows : (book : Book) (stored : StoredData) (it : IsNearly book stored)
    → IsSameBook book it.other ⊎ ((batch : Accepted) × (it.other ≡ with_batch book batch))
nearly_rows book stored it = elim it.near [
  | inl same ↦ inl (subst (IsSameBook book) (sym same) (record { rows = refl; number = refl; kept = refl }))
  | inr (inl cut) ↦ inl (subst (IsSameBook book) (sym cut.2) (trim_changes_nothing book cut.0 cut.1))
  | inr (inr more) ↦ inr more
]

module _ {K : Type 0} (g : Ghosts K) (old new : K) (book : Book) (legal : IsLegal book)
    (back : g.is_clean new → g.is_clean old) where
  -- a refused call leaves what was held
  module _ (stays : g.is_clean new → Stays (g.holds old) (g.holds new)) (safe : IsSafe g old book) where
    still_kept : g.is_clean new → Backs (g.holds new) book
    still_kept clean = let backed = safe.kept (back clean) in (backed.0, stays clean backed.0 backed.1, backed.2)

    pub safe_unless_added : (kept : Book) (batch : Accepted) (bytes : List ℕ) → kept ≡ book → bytes ≡ batch_bytes batch
        → IsStorable batch → IsLegal (with_batch book batch)
        → LeavesFrom (g.may_leave old) (g.holds old) (g.is_clean old) (IsKeptOrAdded (pos (number_of kept + 1)) bytes)
        (g.may_leave new)
        → IsSafe g new kept
    safe_unless_added kept batch bytes same spelled storable grown leaves =
        let leaves' = rw (same, spelled) at leaves in
        subst (IsSafe g new) (sym same) (record {
          kept = still_kept;
          left = λ found may. elim (leaves' found may) [
            | inl before ↦ safe.left found before
            | inr it ↦
                let backed = safe.kept it.0 in
                elim (it.1 backed.0 backed.1 (is_next backed.0 book backed.2)) [
                  | inl kept ↦ nearly_same book backed.0 found backed.2 legal kept
                  | inr added ↦ record {
                    other = with_batch book batch;
                    stands = subst (λ s. StoredAs s (with_batch book batch)) (sym added)
                        (stored_more backed.0 book batch backed.2 storable);
                    legal = grown;
                    near = inr (inr (batch, refl));
                  }
                ]
          ];
        })

    pub safe_unless_rebased : (n number : ℕ) (pieces : List (List ℕ)) → 1 ≤ length book.receipts + n
        → n ≤ length book.batches → number ≡ length book.receipts + n → pieces ≡ base_pieces (base_of (trimmed book n))
        → IsLegal (trimmed book n)
        → LeavesFrom (g.may_leave old) (g.holds old) (g.is_clean old) (IsKeptOrRebased pieces (pos number))
        (g.may_leave new)
        → IsSafe g new book
    safe_unless_rebased n number pieces some within count spelled moved leaves =
        let leaves' = rw (count, spelled) at leaves in
        record {
          kept = still_kept;
          left = λ found may. elim (leaves' found may) [
            | inl before ↦ safe.left found before
            | inr it ↦
                let backed = safe.kept it.0 in
                elim (it.1 backed.0 backed.1) [
                  | inl kept ↦ nearly_same book backed.0 found backed.2 legal kept
                  | inr rebased ↦ record {
                    other = trimmed book n;
                    stands = subst (λ s. StoredAs s (trimmed book n)) (sym rebased)
                        (stored_trimmed backed.0 book n legal backed.2 some within);
                    legal = moved;
                    near = inr (inl (n, within, refl));
                  }
                ]
          ];
        }

-- a call that answered Ok leaves what it has done alone
module _ {K : Type 0} (g : Ghosts K) (old new : K) (book later : Book)
    (backs : g.is_clean new → Backs (g.holds old) book → Backs (g.holds new) later)
    (back : g.is_clean new → g.is_clean old) (safe : IsSafe g old book) where
  pub safe_added : (kept : Book) (batch : Accepted) (bytes : List ℕ) → kept ≡ book → bytes ≡ batch_bytes batch
      → later ≡ with_batch book batch → IsStorable batch → IsLegal (with_batch book batch)
      → g.is_clean old × ((stored : StoredData) → g.holds old stored → IsNext stored (pos (number_of kept + 1))
      → g.is_clean new × LeavesOnly (g.may_leave new) (with_row (pos (number_of kept + 1)) bytes stored))
      → IsSafe g new later
  safe_added kept batch bytes same spelled more storable grown settled =
      let settled' = rw (same, spelled) at settled in
      let backed = safe.kept settled'.0 in
      let alone = (settled'.1 backed.0 backed.1 (is_next backed.0 book backed.2)).1 in
      record {
        kept = λ clean. backs clean (safe.kept (back clean));
        left = λ found may. nearly_same later _ found
            (subst (StoredAs _) (sym more) (stored_more backed.0 book batch backed.2 storable))
            (subst IsLegal (sym more) grown) (alone found may);
      }

  pub safe_rebased : (n number : ℕ) (pieces : List (List ℕ)) → IsLegal book → 1 ≤ length book.receipts + n
      → n ≤ length book.batches → number ≡ length book.receipts + n → pieces ≡ base_pieces (base_of (trimmed book n))
      → later ≡ trimmed book n → IsLegal later
      → g.is_clean old × ((stored : StoredData) → g.holds old stored
      → g.is_clean new × LeavesOnly (g.may_leave new) (rebased pieces (pos number) stored))
      → IsSafe g new later
  safe_rebased n number pieces legal some within count spelled moved cut settled =
      let settled' = rw (count, spelled) at settled in
      let backed = safe.kept settled'.0 in
      let alone = (settled'.1 backed.0 backed.1).1 in
      record {
        kept = λ clean. backs clean (safe.kept (back clean));
        left = λ found may. nearly_same later _ found
            (subst (StoredAs _) (sym moved) (stored_trimmed backed.0 book n legal backed.2 some within)) cut
            (alone found may);
      }
