-- What a crash finds of the records while the statements run, and which records it leaves then.
use Rattle.std.proofs.Common.{◌≡◌, ◌⊎◌, inl, inr, ℕ, ℤ, pos, ◌≤ℤ◌, List, [], ◌∷◌, map, Result, Ok, Err, OnOk, IsTrue}
use Rattle.std.proofs.Common.{Bool, false, refl, sym, ap, subst, ◌∙◌}
use Rattle.std.specs.Prelude.{⊤}
use Rattle.std.specs.List.{AllByRecursion}
use Rattle.sqlite_keyed.proofs.ListLemmas.{all-append, all-filter}
use Rattle.sqlite.specs.declared.types.Value.TheVariants.{Int, Blob as Bytes}
use Rattle.sqlite.specs.Store.{Ghosts}
use Rattle.sqlite.specs.Tree.{Trees}
use Rattle.sqlite.specs.Held.{Held, state}
use Rattle.sqlite.specs.Effect.{Database}
use Rattle.sqlite.specs.State.{State, HasCleanDisk, CommitsBy, CommitsShowing, Survives, Shows}
use Rattle.alto_keeper.specs.Stored.{RowData, StoredData, IsNext, IsKept, IsKeptOrAdded, IsKeptOrRebased, LeavesFrom}
use Rattle.alto_keeper.specs.Stored.{LeavesOnly, with_row, rebased}
use Rattle.keeper_sqlite.specs.Store.{HasRows, table_row, all_rows, table_rows}
use Rattle.keeper_sqlite.specs.Reading.{record_in, stored_in, records_in}
use Rattle.keeper_sqlite.specs.Texts.{create_text, select_text, insert_text}
use Rattle.keeper_sqlite.specs.SqlKeeper.{SqlKeeperData, IsClean, IsSure, IsFaithful, Holds, HoldsIn, HoldsRows}
use Rattle.keeper_sqlite.specs.SqlKeeper.{MayLeave, IsSettled, Settles, CrashFinds, CrashKeeps, CrashAdds, CrashMoves}
use Rattle.keeper_sqlite.proofs.TableLemmas.{base_from, read_back}
use Rattle.keeper_sqlite.proofs.DeleteLemmas.{create_left, row_left, shows_nothing}

-- ---- while a statement runs

pub create_finds : (is_made : Bool) (old new : State) → Survives old new (CommitsBy create_text [] old)
    → CrashFinds old new (λ found. (stored : StoredData) → HoldsIn is_made old stored → found 0 ≡ table_rows stored)
create_finds is_made old new survives clean found may = elim (survives.crash clean found may) [
  | inl before ↦ inl before
  | inr commits ↦ inr (λ stored holds. create_left is_made old stored found holds.1 commits)
]

-- what was found before the statement of a call, and what the call tells of its rows
module _ (Before : Trees → Type 0) (Sure : Type 0) (Held : StoredData → Type 0) (mid new : State) (sure : Sure)
    (had : (stored : StoredData) → Held stored → HasRows mid.now stored)
    (first : (found : Trees) → mid.may_leave found
    → Before found ⊎ (Sure × ((stored : StoredData) → Held stored → found 0 ≡ table_rows stored))) where
  pub select_finds : Survives mid new (CommitsShowing select_text [] mid) → HasCleanDisk new → (found : Trees)
      → new.may_leave found
      → Before found ⊎ (Sure × ((stored : StoredData) → Held stored → found 0 ≡ table_rows stored))
  select_finds survives clean found may = elim (survives.crash clean found may) [
    | inl before ↦ first found before
    | inr commits ↦ inr (sure, λ stored held. absurd (shows_nothing mid stored found (had stored held) commits))
  ]

  pub insert_finds : (row : RowData) → Survives mid new (CommitsBy insert_text (Int row.n ∷ Bytes row.bytes ∷ []) mid)
      → HasCleanDisk new → (found : Trees) → new.may_leave found
      → Before found ⊎ (Sure × ((stored : StoredData) → Held stored → IsNext stored row.n
      → (found 0 ≡ table_rows stored) ⊎ (found 0 ≡ table_rows (with_row row.n row.bytes stored))))
  insert_finds row survives clean found may = elim (survives.crash clean found may) [
    | inl before ↦ elim (first found before) [
      | inl earlier ↦ inl earlier
      | inr it ↦ inr (it.0, λ stored held next. inl (it.1 stored held))
    ]
    | inr commits ↦ inr (sure, λ stored held next. inr (row_left mid stored row found (had stored held) next commits))
  ]

  pub move_finds : (pieces : List (List ℕ)) (upto : ℤ)
      → ((found : Trees) → new.may_leave found → mid.may_leave found ⊎ ((stored : StoredData) → Held stored
      → found 0 ≡ table_rows (rebased pieces upto stored)))
      → (found : Trees) → new.may_leave found
      → Before found ⊎ (Sure × ((stored : StoredData) → Held stored
      → (found 0 ≡ table_rows stored) ⊎ (found 0 ≡ table_rows (rebased pieces upto stored))))
  move_finds pieces upto moved found may = elim (moved found may) [
    | inl before ↦ elim (first found before) [
      | inl earlier ↦ inl earlier
      | inr it ↦ inr (it.0, λ stored held. inl (it.1 stored held))
    ]
    | inr commits ↦ inr (sure, λ stored held. inr (commits stored held))
  ]

-- ---- once a call has ended

-- while it is open, a database settles what it committed
abbrev pub SettlesCommits : {S : Type 0} → Ghosts S → Type 0
SettlesCommits {S} g =
    (s : S) (db : Trees) → IsTrue (g.view s).is_open → g.recovers s db → db ≡ (g.view s).committed

module _ {S : Type 0} (g : Ghosts S) (law : SettlesCommits g) where
  pub settled_rows : (h : Held S) (stored : StoredData) → IsClean (state g h) → HoldsRows (state g h) stored
      → IsSettled (state g h) stored
  settled_rows h stored sure holds = (
    sure,
    λ found may. ap (λ (t : Trees). t 0) (law h.store found sure.1 may)
        ∙ ap (λ (db : Database). db.trees 0) (sym holds.0.1)
        ∙ holds.1.rows,
  )

  pub settled_commit : (last end : Held S) (stored : StoredData) → HasCleanDisk (state g end)
      → Shows (state g last) (state g end) (state g last).now (state g last).now false
      → HasRows (state g last).now stored
      → IsSettled (state g end) stored
  settled_commit last end stored clean shown has = settled_rows end stored (clean, shown.is_open)
      ((shown.mode, shown.now_is ∙ sym shown.committed_is), subst (λ db. HasRows db stored) (sym shown.now_is) has)

pub ok_once : {T E A P B : Type 0} (r : Result T E) → (A → OnOk r P) → (A → P → B) → OnOk r (A → B)
ok_once (Ok value) h f = λ a. f a (h a)
ok_once (Err e) h f = tt

pub on_ok : {T E P : Type 0} (r : Result T E) → P → OnOk r P
on_ok (Ok value) holds = holds
on_ok (Err e) holds = tt

-- ---- the records that are left

-- the numbers of records that the table can hold
abbrev IsKeepable : StoredData → Type 0
IsKeepable stored =
    AllByRecursion (λ piece. pos 0 ≤ℤ piece.n) stored.base × AllByRecursion (λ row. pos 0 ≤ℤ row.n) stored.rows

shown_back : (rows : List RowData) → map record_in (map table_row rows) ≡ rows
shown_back [] = refl
shown_back (r ∷ rows) = ap (λ l. r ∷ l) (shown_back rows)

read_in : (stored : StoredData) (found : Trees) → IsKeepable stored → found 0 ≡ table_rows stored
    → records_in found ≡ stored
read_in stored found keepable rows =
    ap (λ l. stored_in (map record_in l)) rows ∙ ap stored_in (shown_back (all_rows stored))
    ∙ read_back stored keepable.0 keepable.1

held_keepable : (is_made : Bool) (database : State) (stored : StoredData) → HoldsIn is_made database stored
    → IsKeepable stored
held_keepable is_made database stored (idle, inl has) = (has.base, has.own)
held_keepable is_made database stored (idle, inr none) = subst IsKeepable (sym none.2) (tt, tt)

added_keepable : (stored : StoredData) (n : ℤ) (bytes : List ℕ) → IsKeepable stored → IsNext stored n
    → IsKeepable (with_row n bytes stored)
added_keepable stored n bytes keepable next =
    (keepable.0, all-append (λ (r : RowData). pos 0 ≤ℤ r.n) stored.rows (_ ∷ []) keepable.1 (next.0, tt))

rebased_keepable : (stored : StoredData) (pieces : List (List ℕ)) (upto : ℤ) → IsKeepable stored
    → IsKeepable (rebased pieces upto stored)
rebased_keepable stored pieces upto keepable =
    (base_from pieces, all-filter (λ (r : RowData). pos 0 ≤ℤ r.n) _ stored.rows keepable.1)

module _ {S : Type 0} (g : Ghosts S) (old new : SqlKeeperData S) where
  pub kept_left : CrashKeeps g old new → IsFaithful g new
      → LeavesFrom (MayLeave g old) (Holds g old) (IsSure g old) IsKept (MayLeave g new)
  kept_left crash clean found may = elim (crash clean may.0 may.1) [
    | inl before ↦ inl (may.0, before, may.2)
    | inr it ↦ inr (
      it.0,
      λ kept holds. sym may.2
          ∙ read_in kept may.0 (held_keepable old.is_made (state g old.conn) kept holds) (it.1 kept holds),
    )
  ]

  pub added_left : (n : ℤ) (bytes : List ℕ) → CrashAdds g old new n bytes → IsFaithful g new
      → LeavesFrom (MayLeave g old) (Holds g old) (IsSure g old) (IsKeptOrAdded n bytes) (MayLeave g new)
  added_left n bytes crash clean found may = elim (crash clean may.0 may.1) [
    | inl before ↦ inl (may.0, before, may.2)
    | inr it ↦ inr (
      it.0,
      λ kept holds next.
          let keepable = held_keepable old.is_made (state g old.conn) kept holds in
          elim (it.1 kept holds next) [
            | inl same ↦ inl (sym may.2 ∙ read_in kept may.0 keepable same)
            | inr added ↦ inr (sym may.2
                ∙ read_in (with_row n bytes kept) may.0 (added_keepable kept n bytes keepable next) added)
          ],
    )
  ]

  pub moved_left : (pieces : List (List ℕ)) (upto : ℤ) → CrashMoves g old new pieces upto → IsFaithful g new
      → LeavesFrom (MayLeave g old) (Holds g old) (IsSure g old) (IsKeptOrRebased pieces upto) (MayLeave g new)
  moved_left pieces upto crash clean found may = elim (crash clean may.0 may.1) [
    | inl before ↦ inl (may.0, before, may.2)
    | inr it ↦ inr (
      it.0,
      λ kept holds.
          let keepable = held_keepable old.is_made (state g old.conn) kept holds in
          elim (it.1 kept holds) [
            | inl same ↦ inl (sym may.2 ∙ read_in kept may.0 keepable same)
            | inr moved ↦ inr (sym may.2
                ∙ read_in (rebased pieces upto kept) may.0 (rebased_keepable kept pieces upto keepable) moved)
          ],
    )
  ]

  settled_left : (stored : StoredData) → IsKeepable stored → IsSettled (state g new.conn) stored
      → IsSure g new × LeavesOnly (MayLeave g new) stored
  settled_left stored keepable settled =
      (settled.0, λ found may. sym may.2 ∙ read_in stored may.0 keepable (settled.1 may.0 may.1))

  pub kept_settled : {T E : Type 0} (r : Result T E) → Settles g old new (λ _. ⊤) (λ stored. stored) r
      → OnOk r (IsFaithful g new → IsSure g old × ((kept : StoredData) → Holds g old kept
      → IsSure g new × LeavesOnly (MayLeave g new) kept))
  kept_settled (Ok value) settled = λ clean. (
    (settled clean).0,
    λ kept holds. settled_left kept (held_keepable old.is_made (state g old.conn) kept holds)
        ((settled clean).1 kept holds tt),
  )
  kept_settled (Err e) settled = tt

  pub added_settled : {T E : Type 0} (n : ℤ) (bytes : List ℕ) (r : Result T E)
      → Settles g old new (λ stored. IsNext stored n) (with_row n bytes) r
      → OnOk r (IsFaithful g new → IsSure g old × ((kept : StoredData) → Holds g old kept → IsNext kept n
      → IsSure g new × LeavesOnly (MayLeave g new) (with_row n bytes kept)))
  added_settled n bytes (Ok value) settled = λ clean. (
    (settled clean).0,
    λ kept holds next. settled_left (with_row n bytes kept)
        (added_keepable kept n bytes (held_keepable old.is_made (state g old.conn) kept holds) next)
        ((settled clean).1 kept holds next),
  )
  added_settled n bytes (Err e) settled = tt

  pub moved_settled : {T E : Type 0} (pieces : List (List ℕ)) (upto : ℤ) (r : Result T E)
      → Settles g old new (λ _. ⊤) (rebased pieces upto) r
      → OnOk r (IsFaithful g new → IsSure g old × ((kept : StoredData) → Holds g old kept
      → IsSure g new × LeavesOnly (MayLeave g new) (rebased pieces upto kept)))
  moved_settled pieces upto (Ok value) settled = λ clean. (
    (settled clean).0,
    λ kept holds. settled_left (rebased pieces upto kept)
        (rebased_keepable kept pieces upto (held_keepable old.is_made (state g old.conn) kept holds))
        ((settled clean).1 kept holds tt),
  )
  moved_settled pieces upto (Err e) settled = tt
