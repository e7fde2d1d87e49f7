-- What DELETE takes away, and what a statement that is cut off leaves.
use Rattle.std.proofs.Common.{◌≡◌, ◌⊎◌, inl, inr, ℕ, ℤ, pos, ◌-ℤ◌, ◌<ℤ◌, ◌≤ℤ◌, List, [], ◌∷◌, ◌++◌, length, Bool, true}
use Rattle.std.proofs.Common.{false, cond, not, ◌&&◌, int_le, int_eq, Option, Some, None, Ok, Err, Result, append-nil}
use Rattle.std.proofs.Common.{map, filter, flat_map, IsSome, OnErr, IsPermutation, refl, sym, ap}
use Rattle.std.proofs.Common.{ap₂, subst, ◌∙◌, arith}
use Rattle.std.specs.List.{list_all}
use Rattle.std.proofs.lemmas.Int.{ints}
use Rattle.std.proofs.lemmas.Bool.Decides.{nat_tests}
use Rattle.std.proofs.lemmas.List.Sorted.{IsPermutation-map}
use Rattle.sqlite_value.proofs.OrderLemmas.{value_cmp-Int}
use Rattle.sqlite_trees.specs.Tree.{IsAscending, rowid}
use Rattle.sqlite_sql.specs.Ops.{binary, is_true, from_truth, test}
use Rattle.sqlite_sql.specs.Term.{Env, holds, lit, col, op2}
use Rattle.sqlite_sql.specs.declared.ops.BinaryOp.TheVariants.{Compare}
use Rattle.sqlite_sql.specs.declared.ops.CompareOp.TheVariants.{Le, Ne}
use Rattle.sqlite.specs.Collation.TheVariants.{Binary}
use Rattle.sqlite_rules.specs.Edit.{without_all, id_in}
use Rattle.sqlite_rules.specs.Calls.{ids_of}
use Rattle.sqlite_keyed.proofs.ListLemmas.{map-map, all-filter, ascending-filter}
use Rattle.sqlite.specs.Query.{end, IsAnswer, output, matches_as, Output}
use Rattle.sqlite.specs.Program.{overlay}
use Rattle.sqlite.specs.declared.types.Value.TheVariants.{Null, Int, Blob as Bytes}
use Rattle.sqlite.specs.Tree.{Trees, put_row}
use Rattle.sqlite.specs.Source.TheVariants.{Values}
use Rattle.sqlite.specs.Command.TheVariants.{Insert, Delete, CreateTable}
use Rattle.sqlite.specs.Command.TheVariants.{Nothing}
use Rattle.sqlite.specs.Edit.{edit_of}
use Rattle.sqlite.specs.Rowids.TheVariants.{Given}
use Rattle.sqlite.specs.Does.{Tally, Does}
use Rattle.sqlite.specs.Rows.{Written}
use Rattle.sqlite.specs.Effect.{Database}
use Rattle.sqlite.specs.Listing.{understood}
use Rattle.sqlite_schema.specs.declared.command.Returning.{Returning}
use Rattle.sqlite.specs.State.{State, mode_of, Executes}
use Rattle.sqlite.specs.State.{CommitsBy, CommitsShowing}
use Rattle.sqlite.specs.State.{text_of}
use Rattle.sqlite.specs.Order.{Row}
use Rattle.sqlite.proofs.Callers.{IsPlain, command_of, runs_as, one_step, statement_of}
use Rattle.alto_keeper.specs.Stored.{RowData, StoredData, IsNext, with_row, rebased, nothing}
use Rattle.keeper_sqlite.specs.Store.{alto_table, alto_schema, no_schema, table_row, all_rows, table_rows, with_base}
use Rattle.keeper_sqlite.specs.Store.{HasRows}
use Rattle.keeper_sqlite.specs.Texts.{create_text, select_text, insert_text, delete_text}
use Rattle.keeper_sqlite.proofs.TextLemmas.{terms, create_first, create_first_text, create_first_plain}
use Rattle.keeper_sqlite.proofs.TextLemmas.{create_again, create_again_plain, insert_is, insert_plain}
use Rattle.keeper_sqlite.proofs.TextLemmas.{select_plain, tests, taken_rows, delete_is}
use Rattle.keeper_sqlite.proofs.TextLemmas.{delete_plain}
use Rattle.keeper_sqlite.proofs.TableLemmas.{put_next, base_from, put_piece, rising_piece, is_gone}
use Rattle.keeper_sqlite.proofs.TableLemmas.{without_gone, rows_left}
use Rattle.keeper_sqlite.proofs.StatementLemmas.{went, same_value, table_made, row_put, puts}

-- ---- what DELETE takes away

truth_of : (b : Bool) → is_true (from_truth (Some b)) ≡ b
truth_of true = refl
truth_of false = refl

at_most : (n upto : ℤ) → holds ((Int upto ∷ []) ∷ (Int n ∷ []) ∷ []) (op2 (Compare Le Binary) (col 1 0) (col 0 0))
    ≡ int_le n upto
unfolding binary
at_most n upto = truth_of _ ∙ ap (test Le) (value_cmp-Int n upto) ∙ grind (arith, ints, nat_tests)

not_first : (n upto : ℤ) → holds ((Int upto ∷ []) ∷ (Int n ∷ []) ∷ [])
    (op2 (Compare Ne Binary) (col 1 0) (lit (Int (pos 0)))) ≡ not (int_eq n (pos 0))
unfolding binary
not_first n upto = truth_of _ ∙ ap (test Ne) (value_cmp-Int n (pos 0)) ∙ grind (arith, ints, nat_tests)

goes : (upto : ℤ) (row : RowData) → list_all (holds ((Int upto ∷ []) ∷ table_row row ∷ [])) tests ≡ is_gone upto row
goes upto row = ap₂ (λ a b. a && (b && true)) (at_most row.n upto) (not_first row.n upto)
    ∙ last (int_le row.n upto) (not (int_eq row.n (pos 0)))
  where
    last : (a b : Bool) → (a && (b && true)) ≡ (a && b)
    last true true = refl
    last true false = refl
    last false b = refl

module _ (trees : Trees) (rows : List RowData) (has : trees 0 ≡ map table_row rows) (upto : ℤ) where
  abbrev given : RowData → Env
  given row = (Int upto ∷ []) ∷ table_row row ∷ []

  gone_match : (left : List RowData)
      → flat_map (λ r. matches_as Null (overlay trees []) tests end ((Int upto ∷ []) ∷ r ∷ [])) (map table_row left)
      ≡ map given (filter (is_gone upto) left)
  gone_match [] = refl
  gone_match (r ∷ left) =
      ap₂ (λ b l. cond b (given r ∷ []) [] ++ l) (goes upto r) (gone_match left) ∙ one (is_gone upto r)
    where
      one : (b : Bool) → cond b (given r ∷ []) [] ++ map given (filter (is_gone upto) left)
          ≡ map given (cond b (r ∷ filter (is_gone upto) left) (filter (is_gone upto) left))
      one true = refl
      one false = refl

  pub finds_gone : (found : List Row) → IsAnswer taken_rows (overlay trees []) (Int upto ∷ []) found
      → IsPermutation (map (λ (r : RowData). r.n) (filter (is_gone upto) rows)) (ids_of found)
  finds_gone found a =
      let number : Output → ℤ = λ o. id_in (rowid o.1) in
      let staged : a.staged ≡ map given (filter (is_gone upto) rows) = a.grouped ∙ rw has (gone_match rows) in
      let kept : map number a.kept ≡ map (λ (r : RowData). r.n) (filter (is_gone upto) rows) =
      ap (map number) (a.distinct ∙ ap (map (output taken_rows)) staged) ∙ map-map number (output taken_rows) _
      ∙ map-map _ given _ in
      let ids : ids_of found ≡ map number a.ordered =
      ap ids_of a.shown ∙ map-map (λ r. id_in (rowid r)) (λ (o : Output). o.1) a.ordered in
      subst (IsPermutation _) (sym ids) (subst (λ l. IsPermutation l (map number a.ordered)) kept
      (IsPermutation-map number _ _ a.same))

-- the base goes, and the rows that the next one takes in
pub taken_out : (old new : State) (stored : StoredData) (upto : ℤ) (count : ℕ) → pos 0 ≤ℤ upto → HasRows old.now stored
    → Executes delete_text (Int upto ∷ []) old new (Ok count) → HasRows new.now (rebased [] upto stored)
taken_out old new stored upto count low has h =
    let trees = old.now.trees in
    let params = Int upto ∷ [] in
    let command = Delete 0 (record { lets = []; body = taken_rows }) in
    let w = runs_as delete_text params old new alto_schema has.schema command delete_is delete_plain count h in
    let text = statement_of delete_text (understood alto_schema delete_text) in
    let done = went (subst (λ s. Does old.step_limit (mode_of old) params
    (record old.now { schema = s }) text None command
    (Ok (w.tally, new.now))) has.schema w.changed) in
    let now = ap (λ (p : Tally × Database). p.1) (same_value (went (went done.2).2).2) in
    let asked = went done.1 in
    let written = went asked.2 in
    let left : done.0.trees ≡ written.0 = ap (λ (it : Written). it.trees) (same_value written.2) in
    let rows = (one_step alto_schema _ trees written.0
    (edit_of trees alto_table (ids_of asked.0) Given 0 []) refl written.1).rows in
    let gone = finds_gone trees (all_rows stored) has.rows upto asked.0 (asked.1.answer Null) in
    let stays : without_all (trees 0) (ids_of asked.0) ≡ table_rows (rebased [] upto stored) =
    ap (λ l. without_all l (ids_of asked.0)) has.rows
    ∙ without_gone (is_gone upto) (ids_of asked.0) (all_rows stored) has.rising gone
    ∙ ap (map table_row) (rows_left upto stored low has.base has.own) in
    record {
      schema = ap (λ (d : Database). d.schema) now;
      rows = ap (λ (d : Database). d.trees 0) now ∙ ap (λ (t : Trees). t 0) left ∙ rows ∙ stays;
      base = tt;
      own = all-filter (λ (r : RowData). pos 0 ≤ℤ r.n) _ stored.rows has.own;
      rising = subst (IsAscending (λ (row later : RowData). row.n <ℤ later.n))
          (rows_left upto stored low has.base has.own)
          (ascending-filter _ _ (all_rows stored) has.rising);
    }

-- one more piece is added to the base
pub piece_added : (old new : State) (stored : StoredData) (pieces : List (List ℕ)) (bytes : List ℕ) (count : ℕ)
    → HasRows old.now (with_base pieces stored)
    → Executes insert_text (Int (pos 0 -ℤ pos 1 -ℤ pos (length pieces)) ∷ Bytes bytes ∷ []) old new (Ok count)
    → HasRows new.now (with_base (pieces ++ bytes ∷ []) stored)
piece_added old new stored pieces bytes count has h =
    let put = puts old new (record { n = pos 0 -ℤ pos 1 -ℤ pos (length pieces); bytes = bytes }) count has.schema h in
    record {
      schema = put.0;
      rows = put.1 ∙ ap (put_row _) has.rows ∙ put_piece pieces bytes stored has.own;
      base = base_from (pieces ++ bytes ∷ []);
      own = has.own;
      rising = rising_piece pieces bytes stored has.own has.rising;
    }

-- what holds whatever the result is
pub on_err : {T E P : Type 0} (result : Result T E) → P → OnErr result P
on_err (Ok value) holds = tt
on_err (Err error) holds = holds

-- what the next row may commit
pub row_left : (old : State) (stored : StoredData) (row : RowData) (found : Trees) → HasRows old.now stored
    → IsNext stored row.n → CommitsBy insert_text (Int row.n ∷ Bytes row.bytes ∷ []) old found
    → found 0 ≡ table_rows (with_row row.n row.bytes stored)
unfolding CommitsBy
row_left old stored row found has next h =
    let known : understood alto_schema insert_text ≡ Ok h.0 = sym (ap (λ s. understood s insert_text) has.schema)
    ∙ h.1.is in
    let bare = subst IsPlain known insert_plain in
    let command : h.0.command ≡ Insert 0 (Values terms 3) = ap command_of (sym known) ∙ insert_is in
    let it = rw (bare.0, bare.1, command, append-nil (Int row.n ∷ Bytes row.bytes ∷ [])) at h.2 in
    let put : found 0 ≡ put_row (table_row row) (old.now.trees 0) = elim it [
      | inl (inl c, same) ↦ absurd (cc)
      | inl (inr release, same) ↦ absurd (let e = release.2 in cc)
      | inr may ↦ ap (λ (t : Trees). t 0) may.5
          ∙ (row_put old.step_limit (mode_of old) old.now row (text_of insert_text h.0) may.1 may.2 has.schema may.3).1
    ] in
    put ∙ ap (put_row (table_row row)) has.rows ∙ put_next row stored next has.base

-- what making the table may commit
pub create_left : (is_made : Bool) (old : State) (stored : StoredData) (found : Trees)
    → HasRows old.now stored ⊎ ((is_made ≡ false) × (old.now.schema ≡ no_schema) × (stored ≡ nothing))
    → CommitsBy create_text [] old found → found 0 ≡ table_rows stored
unfolding CommitsBy
create_left is_made old stored found (inl has) h =
    let known : understood alto_schema create_text ≡ Ok h.0 = sym (ap (λ s. understood s create_text) has.schema)
    ∙ h.1.is in
    let bare = subst IsPlain known create_again_plain in
    let command : h.0.command ≡ Nothing = ap command_of (sym known) ∙ create_again in
    let it = rw (bare.0, bare.1, command) at h.2 in
    elim it [
      | inl (inl c, same) ↦ absurd (cc)
      | inl (inr release, same) ↦ absurd (let e = release.2 in cc)
      | inr may ↦ absurd (let e = may.3 in cc)
    ]
create_left is_made old stored found (inr none) h =
    let known : understood no_schema create_text ≡ Ok h.0 = sym (ap (λ s. understood s create_text) none.1) ∙ h.1.is in
    let bare = subst IsPlain known create_first_plain in
    let command : h.0.command ≡ CreateTable = ap command_of (sym known) ∙ create_first in
    let text : text_of create_text h.0 ≡ create_text = ap (statement_of create_text) (sym known) ∙ create_first_text in
    let it = rw (bare.0, bare.1, command) at h.2 in
    let empty : found 0 ≡ [] = elim it [
      | inl (inl c, same) ↦ absurd (cc)
      | inl (inr release, same) ↦ absurd (let e = release.2 in cc)
      | inr may ↦ ap (λ (t : Trees). t 0) may.5 ∙ (table_made old.step_limit (mode_of old) old.now may.1 may.2 none.1
          (subst (λ t. Does old.step_limit (mode_of old) [] old.now t None CreateTable
          (Ok (may.1, may.2))) text may.3)).1
    ] in
    empty ∙ sym (ap table_rows none.2)

-- SELECT commits nothing
pub shows_nothing : (old : State) (stored : StoredData) (found : Trees) → HasRows old.now stored
    → CommitsShowing select_text [] old found → ⊥
unfolding CommitsShowing
shows_nothing old stored found has h =
    let known : understood alto_schema select_text ≡ Ok h.0 = sym (ap (λ s. understood s select_text) has.schema)
    ∙ h.1.is in
    let bare : h.0.returning ≡ None = (subst IsPlain known select_plain).0 in
    absurd (let e = subst (λ (o : Option Returning). IsSome o) bare h.2 in cc)
