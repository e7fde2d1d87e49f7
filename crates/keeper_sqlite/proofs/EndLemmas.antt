-- How a statement ends, and what an end leaves as it was.
use Rattle.std.proofs.Common.{◌≡◌, ◌⊎◌, inl, inr, ℕ, List, Bool}
use Rattle.std.proofs.Common.{false, Option, Some, None, Ok, Err, Result}
use Rattle.std.proofs.Common.{IsTrue, OnOk, IfErr, sym}
use Rattle.std.proofs.Common.{subst, ◌∙◌}
use Rattle.std.proofs.lemmas.Bool.{cases_Bool}
use Rattle.sqlite_sql.specs.Term.{holds}
use Rattle.sqlite.specs.Command.{Command}
use Rattle.sqlite.specs.Command.TheVariants.{Select, Insert, InsertOr, Update, Delete, CreateTable, CreateIndex}
use Rattle.sqlite.specs.Command.TheVariants.{DropTable, DropIndex, Begin, Commit, Rollback, Savepoint as Save, Release}
use Rattle.sqlite.specs.Command.TheVariants.{RollbackTo, Nothing, CreateView, DropView, Rows}
use Rattle.sqlite.specs.Effect.{Database}
use Rattle.sqlite_resolve.specs.declared.compiled.Compiled.{Compiled}
use Rattle.sqlite_schema.specs.declared.command.Returning.{Returning}
use Rattle.sqlite.specs.State.{State, Runs, RunsCommand, Executes, ExecutesIn, IsNotRun, IsUnchanged}
use Rattle.sqlite.specs.State.{IsRolledBack, FailsToQuery, FailsToShow, Shown, ShowsRows}
use Rattle.sqlite.specs.State.{shows_rows}
use Rattle.sqlite.specs.Order.{Row}
use Rattle.sqlite.specs.declared.error.Error.{Error}
use Rattle.alto_keeper.specs.Stored.{StoredData, nothing}
use Rattle.keeper_sqlite.specs.Store.{no_schema}
use Rattle.keeper_sqlite.specs.Store.{HasRows}
use Rattle.keeper_sqlite.specs.SqlKeeper.{IsIdle, HoldsRows, HoldsIn}

abbrev pub Ends : State → State → Type 0
Ends old new = IsUnchanged old new ⊎ IsRolledBack old new

run_ends : (old new : State) (sql : List ℕ) (c : Compiled) (params : Row) (e : Error)
    → RunsCommand old new sql c params (Err e)
    → Ends old new
run_ends old new sql c params e (inl stays) = inl stays.1
run_ends old new sql c params e (inr fails) = inr fails.3

pub not_run_ends : (old new : State) (sql : List ℕ) (params : Row) (e : Error) → IsNotRun old new sql params e
    → Ends old new
unfolding IsNotRun
not_run_ends old new sql params e (inl stays) = inl stays.1
not_run_ends old new sql params e (inr fails) = inr fails.3

-- a refused statement left all, or was rolled back
pub refused_ends : (sql : List ℕ) (params : Row) (old new : State) (e : Error) → Executes sql params old new (Err e)
    → Ends old new
unfolding ExecutesIn
refused_ends sql params old new e (inl not_run) = not_run_ends old new sql params e not_run
refused_ends sql params old new e (inr ran) = elim (cases_Bool (shows_rows false ran.0)) [
  | inl shows ↦ inl (rw shows at ran.2).1
  | inr runs ↦ run_ends old new sql ran.0 _ e (rw runs at ran.2)
]

fails_ends : (old new : State) (sql : List ℕ) (c : Compiled) (params : Row) (e : Error) (what : Option Returning)
    → FailsToShow old new sql c params e what → Ends old new
fails_ends old new sql c params e None h = inl h.3
fails_ends old new sql c params e (Some what) h = run_ends old new sql c params e h

pub query_ends : (sql : List ℕ) (params : Row) (old new : State) (e : Error) → FailsToQuery sql params old new e
    → Ends old new
unfolding FailsToQuery
query_ends sql params old new e (inl not_run) = not_run_ends old new sql params e not_run
query_ends sql params old new e (inr fails) = fails_ends old new sql fails.0 _ e fails.0.returning fails.2

pub ends_open : (old new : State) → Ends old new → IsTrue new.is_open → IsTrue old.is_open
ends_open old new (inl same) is_open = same.0.was_open
ends_open old new (inr back) is_open = back.was_open is_open

-- a database that is open after it was asked whether it is, was so before
pub probe_open : {T : Type 0} (sql : List ℕ) (params : Row) (old new : State) (r : Result T Error)
    → OnOk r (IsUnchanged old new)
    → IfErr r (IsNotRun old new sql params) → IsTrue new.is_open → IsTrue old.is_open
probe_open sql params old new (Ok value) same fails is_open = same.0.was_open
probe_open sql params old new (Err e) same fails is_open =
    ends_open old new (not_run_ends old new sql params e fails) is_open

-- an idle database stays so, and sees what it saw
pub ends_idle : (old new : State) → Ends old new → IsTrue new.is_open → IsIdle old → IsIdle new × (new.now ≡ old.now)
ends_idle old new (inl same) is_open idle =
    ((same.0.mode ∙ idle.0, same.0.now_is ∙ idle.1 ∙ sym same.0.committed_is), same.0.now_is)
ends_idle old new (inr back) is_open idle =
    let undone = back.undone is_open in ((back.autocommit, undone.0 ∙ sym undone.1), undone.0 ∙ sym idle.1)

runs_open : (old new : State) (returning : Option Returning) (command : Command) (text : List ℕ) (params : Row)
    (count : ℕ)
    → Runs old new returning command text params count → IsTrue new.is_open → IsTrue old.is_open
runs_open old new returning (Select q names) text params count h is_open = absurd h
runs_open old new returning (Insert at from) text params count h is_open = h.shown.was_open
runs_open old new returning (InsertOr at how from clauses) text params count h is_open = h.shown.was_open
runs_open old new returning (Update at q) text params count h is_open = h.shown.was_open
runs_open old new returning (Delete at q) text params count h is_open = h.shown.was_open
runs_open old new returning CreateTable text params count h is_open = h.shown.was_open
runs_open old new returning (CreateIndex at) text params count h is_open = h.shown.was_open
runs_open old new returning (DropTable at) text params count h is_open = h.shown.was_open
runs_open old new returning (DropIndex at) text params count h is_open = h.shown.was_open
runs_open old new returning Begin text params count h is_open = h.1.was_open
runs_open old new returning Commit text params count h is_open = h.1.was_open
runs_open old new returning Rollback text params count h is_open = h.1.was_open is_open
runs_open old new returning (Save name) text params count h is_open = h.0.0.was_open
runs_open old new returning (Release name) text params count h is_open = elim h.2 [
  | inl ends ↦ ends.1.0.was_open
  | inr drops ↦ drops.1.0.was_open
]
runs_open old new returning (RollbackTo name) text params count h is_open = h.2.2.was_open
runs_open old new returning (Rows values width names) text params count h is_open = h.0.0.was_open
runs_open old new returning Nothing text params count h is_open = h.0.0.was_open
runs_open old new returning CreateView text params count h is_open = h.shown.was_open
runs_open old new returning (DropView at) text params count h is_open = h.shown.was_open

went_open : (sql : List ℕ) (params : Row) (old new : State) (count : ℕ) → Executes sql params old new (Ok count)
    → IsTrue new.is_open → IsTrue old.is_open
unfolding ExecutesIn
went_open sql params old new count h is_open = elim (cases_Bool (shows_rows false h.0)) [
  | inl shows ↦ absurd (let e = (rw shows at h.2).0 in cc)
  | inr runs ↦ runs_open old new h.0.returning h.0.command _ _ count (rw runs at h.2) is_open
]

-- a database that is open after a statement was so before it
pub executes_open : (sql : List ℕ) (params : Row) (old new : State) (r : Result ℕ Error) → Executes sql params old new r
    → IsTrue new.is_open → IsTrue old.is_open
executes_open sql params old new (Err e) h is_open = ends_open old new (refused_ends sql params old new e h) is_open
executes_open sql params old new (Ok count) h is_open = went_open sql params old new count h is_open

rows_open : (old new : State) (sql : List ℕ) (c : Compiled) (params : Row) (rows : List Row) (what : Option Returning)
    → ShowsRows old new sql c params rows what → IsTrue old.is_open
rows_open old new sql c params rows None h = h.3.0.was_open
rows_open old new sql c params rows (Some what) h = h.1.shown.was_open

pub shown_open : (sql : List ℕ) (params : Row) (old new : State) (rows : List Row) → Shown sql params old new rows
    → IsTrue old.is_open
unfolding Shown
shown_open sql params old new rows h = rows_open old new sql h.0 _ rows h.0.returning h.2

-- what a database holds stays where it sees what it saw
pub still_held : (is_made : Bool) (old new : State) (stored : StoredData) → IsIdle new × (new.now ≡ old.now)
    → HoldsIn is_made old stored → HoldsIn is_made new stored
still_held is_made old new stored it holds = (
  it.0,
  subst (λ (db : Database). HasRows db stored ⊎
      ((is_made ≡ false) × (db.schema ≡ no_schema) × (stored ≡ nothing)))
      (sym it.1) holds.1,
)

pub still_rows : (old new : State) (stored : StoredData) → IsIdle new × (new.now ≡ old.now) → HoldsRows old stored
    → HoldsRows new stored
still_rows old new stored it holds = (it.0, subst (λ (db : Database). HasRows db stored) (sym it.1) holds.1)
