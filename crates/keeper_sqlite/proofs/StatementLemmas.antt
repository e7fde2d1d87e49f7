-- What the statements do to the records in a database.
use Rattle.std.proofs.Common.{◌≡◌, ◌⊎◌, inl, inr, ℕ, ℤ, pos, ◌<ℤ◌, ◌≤ℤ◌, List, [], ◌∷◌, Bool, true}
use Rattle.std.proofs.Common.{false, cond, Option, Some, None, Ok, Err, Result}
use Rattle.std.proofs.Common.{map, flat_map, IsTrue, IsPermutation, refl, sym, ap}
use Rattle.std.proofs.Common.{subst, ◌∙◌}
use Rattle.sqlite_trees.specs.Tree.{IsAscending}
use Rattle.sqlite_sql.specs.Term.{holds}
use Rattle.std.specs.declared.cmp.Ordering.TheVariants.{Less, Equal}
use Rattle.std.specs.Ordering.{ordering_then}
use Rattle.sqlite_sql.proofs.QueryLemmas.{output_cmp_total}
use Rattle.sqlite_keyed.proofs.ListLemmas.{map-map, all-append, ascending-map}
use Rattle.sqlite_keyed.proofs.ListLemmas.{ascending_weaker}
use Rattle.sqlite_keyed.proofs.SortLemmas.{sorted_unique}
use Rattle.sqlite.specs.Query.{end, IsAnswer, output, output_cmp, page, matches_as, Output}
use Rattle.sqlite.specs.Program.{overlay}
use Rattle.sqlite.specs.declared.types.Value.{Value}
use Rattle.sqlite.specs.declared.types.Value.TheVariants.{Null, Int, Blob as Bytes}
use Rattle.sqlite.specs.Ops.{unary}
use Rattle.sqlite.specs.Tree.{Trees, put_row}
use Rattle.sqlite.specs.Source.TheVariants.{Values}
use Rattle.sqlite.specs.Command.TheVariants.{Insert, CreateTable}
use Rattle.sqlite.specs.Command.TheVariants.{Nothing}
use Rattle.sqlite.specs.Edit.{edit_of, edited}
use Rattle.sqlite.specs.Cast.{cast}
use Rattle.sqlite.specs.Kind.TheVariants.{Integer}
use Rattle.sqlite.specs.Rowids.TheVariants.{Chosen}
use Rattle.sqlite.specs.Change.{created, next_tree}
use Rattle.sqlite.specs.Does.{Tally, Does, lacks_sequence}
use Rattle.sqlite.specs.Rows.{Written}
use Rattle.sqlite.specs.Effect.{Database}
use Rattle.sqlite.specs.Listing.{understood}
use Rattle.sqlite_resolve.specs.declared.compiled.Compiled.{Compiled}
use Rattle.sqlite_schema.specs.declared.command.Returning.{Returning}
use Rattle.sqlite.specs.State.{State, mode_of, Writes, Executes, IsUnchanged}
use Rattle.sqlite.specs.State.{Shown, ShowsRows}
use Rattle.sqlite.specs.declared.run.Mode.{Mode}
use Rattle.sqlite.specs.Order.{Row}
use Rattle.sqlite.proofs.Callers.{IsPlain, runs_as, reads_as, one_step, statement_of}
use Rattle.alto_keeper.specs.Stored.{RowData, StoredData, IsNext, with_row, nothing}
use Rattle.keeper_sqlite.specs.Store.{alto_table, alto_schema, no_schema, table_row, all_rows}
use Rattle.keeper_sqlite.specs.Store.{HasRows}
use Rattle.keeper_sqlite.specs.Reading.{shown_in}
use Rattle.keeper_sqlite.specs.SqlKeeper.{IsIdle, HoldsRows, HoldsIn}
use Rattle.keeper_sqlite.specs.Texts.{create_text, select_text, insert_text}
use Rattle.keeper_sqlite.proofs.TextLemmas.{terms, create_first, create_first_text, create_first_plain, create_defines}
use Rattle.keeper_sqlite.proofs.TextLemmas.{create_again, create_again_plain, insert_is, insert_plain, shown_rows}
use Rattle.keeper_sqlite.proofs.TextLemmas.{select_is, select_plain, select_unlisted}
use Rattle.keeper_sqlite.proofs.TableLemmas.{below, put_next, rising_next}

either : (b : Bool) (x : Value) → cond b x x ≡ x
either true x = refl
either false x = refl

cast_int : (n : ℤ) → cast Integer (Int n) ≡ Int n
unfolding unary
cast_int n = either _ (Int n)

cast_null : cast Integer Null ≡ Null
unfolding unary
cast_null = either _ Null

-- a part that gave a value did not stop on the way
pub went : {B E R : Type 0} {b : B} {Stops : E → Type 0} → ((stop : E) × Stops stop × (Ok b ≡ Err stop)) ⊎ R → R
went (inl stopped) = absurd (let e = stopped.2 in cc)
went (inr on) = on

pub same_value : {B E : Type 0} {a b : B} → ◌≡◌ {A = Result B E} (Ok a) (Ok b) → a ≡ b
same_value e = cc

-- what the change of CREATE TABLE is: the table, which is empty
pub table_made : (limit : Option ℕ) (mode : Mode) (db : Database) (tally : Tally) (after : Database)
    → db.schema ≡ no_schema
    → Does limit mode [] db create_text None CreateTable (Ok (tally, after))
    → (after.schema ≡ alto_schema) × (after.trees 0 ≡ [])
table_made limit mode db tally after has h =
    let all = went h in
    let first = went all.1 in
    let made = first.1 in
    let both : Ok made.table ≡ Ok alto_table = sym made.defined ∙ create_defines in
    let same : made.table ≡ alto_table = cc in
    let schema : first.0.schema ≡ alto_schema = made.is ∙ ap (λ s. created s made.table) has
    ∙ ap (created no_schema) same in
    let plain : lacks_sequence first.0.schema ≡ false = ap lacks_sequence schema in
    let now : after ≡ first.0 = ap (λ (p : Tally × Database). p.1) (same_value all.2)
    ∙ same_value (rw plain at first.2) in (
      ap (λ (d : Database). d.schema) now ∙ schema,
      ap (λ (d : Database). d.trees 0) now ∙ subst (λ s. first.0.trees (next_tree s) ≡ []) has made.empty,
    )

-- the table is made where there was none
makes : (old new : State) (count : ℕ) → old.now.schema ≡ no_schema → Executes create_text [] old new (Ok count)
    → (new.now.schema ≡ alto_schema) × (new.now.trees 0 ≡ [])
makes old new count has h =
    let w = subst (λ t. Writes old new None CreateTable t [] count) create_first_text
    (runs_as create_text [] old new no_schema has CreateTable create_first create_first_plain count h) in
    table_made old.step_limit (mode_of old) old.now w.tally new.now has w.changed

-- with the table, the records are there as before
created_table : (is_made : Bool) (old new : State) (stored : StoredData) (count : ℕ)
    → Executes create_text [] old new (Ok count)
    → HasRows old.now stored ⊎ ((is_made ≡ false) × (old.now.schema ≡ no_schema) × (stored ≡ nothing))
    → HasRows new.now stored
created_table is_made old new stored count h (inl has) =
    let again = runs_as create_text [] old new alto_schema has.schema Nothing create_again create_again_plain count h in
    subst (λ (db : Database). HasRows db stored) (sym again.0.0.now_is) has
created_table is_made old new stored count h (inr none) =
    let made = makes old new count none.1 h in
    subst (HasRows new.now) (sym none.2) (record { schema = made.0; rows = made.1; base = tt; own = tt; rising = tt })

-- a database that was idle is so when the table is made
created_idle : (is_made : Bool) (old new : State) (stored : StoredData) (count : ℕ)
    → Executes create_text [] old new (Ok count)
    → HasRows old.now stored ⊎ ((is_made ≡ false) × (old.now.schema ≡ no_schema) × (stored ≡ nothing)) → IsIdle old
    → IsIdle new
created_idle is_made old new stored count h (inl has) idle =
    let again = runs_as create_text [] old new alto_schema has.schema Nothing create_again create_again_plain count h in
    (again.0.0.mode ∙ idle.0, again.0.0.now_is ∙ idle.1 ∙ sym again.0.0.committed_is)
created_idle is_made old new stored count h (inr none) idle =
    let w = runs_as create_text [] old new no_schema none.1 CreateTable create_first create_first_plain count h in
    (w.shown.mode ∙ idle.0, sym (rw idle.0 at w.shown.committed_is))

pub created_held : (is_made : Bool) (old new : State) (stored : StoredData) (count : ℕ)
    → Executes create_text [] old new (Ok count)
    → HoldsIn is_made old stored → HoldsRows new stored
created_held is_made old new stored count h holds =
    (created_idle is_made old new stored count h holds.1 holds.0, created_table is_made old new stored count h holds.1)

-- what the change of INSERT is: the row, put into the table
pub row_put : (limit : Option ℕ) (mode : Mode) (db : Database) (row : RowData) (text : List ℕ) (tally : Tally)
    (after : Database)
    → db.schema ≡ alto_schema
    → Does limit mode (Int row.n ∷ Bytes row.bytes ∷ []) db text None (Insert 0 (Values terms 3)) (Ok (tally, after))
    → (after.schema ≡ alto_schema) × (after.trees 0 ≡ put_row (table_row row) (db.trees 0))
row_put limit mode db row text tally after has h =
    let trees = db.trees in
    let done = went (subst (λ s. Does limit mode (Int row.n ∷ Bytes row.bytes ∷ []) (record db { schema = s }) text None
    (Insert 0 (Values terms 3)) (Ok (tally, after))) has h) in
    let now = ap (λ (p : Tally × Database). p.1) (same_value (went (went done.2).2).2) in
    let given = went done.1 in
    let written = went (went given.2).2 in
    let counted = went written.2 in
    let left : done.0.trees ≡ written.0 = ap (λ (it : Written). it.trees) (same_value counted.2)
    ∙ same_value counted.1 in
    let rows = (one_step alto_schema _ trees written.0
    (edit_of trees alto_table [] Chosen 0 given.0) refl written.1).rows in
    let edit : edited trees (edit_of trees alto_table [] Chosen 0 given.0) ≡ put_row (table_row row) (trees 0) =
    ap (λ all. edited trees (edit_of trees alto_table [] Chosen 0 all)) given.1.1 ∙ rw (cast_int row.n, cast_null) in (
      ap (λ (d : Database). d.schema) now,
      ap (λ (d : Database). d.trees 0) now ∙ ap (λ (t : Trees). t 0) left ∙ rows
          ∙ edit,
    )

-- a row is put into the table
pub puts : (old new : State) (row : RowData) (count : ℕ) → old.now.schema ≡ alto_schema
    → Executes insert_text (Int row.n ∷ Bytes row.bytes ∷ []) old new (Ok count)
    → (new.now.schema ≡ alto_schema) × (new.now.trees 0 ≡ put_row (table_row row) (old.now.trees 0))
puts old new row count has h =
    let params = Int row.n ∷ Bytes row.bytes ∷ [] in
    let w = runs_as insert_text params old new alto_schema has
    (Insert 0 (Values terms 3)) insert_is insert_plain count h in
    row_put old.step_limit (mode_of old) old.now row (statement_of insert_text (understood alto_schema insert_text))
    w.tally new.now has w.changed

-- the next row is added to the records
pub added_row : (old new : State) (stored : StoredData) (row : RowData) (count : ℕ) → HasRows old.now stored
    → IsNext stored row.n → Executes insert_text (Int row.n ∷ Bytes row.bytes ∷ []) old new (Ok count)
    → HasRows new.now (with_row row.n row.bytes stored)
added_row old new stored row count has next h =
    let put = puts old new row count has.schema h in
    record {
      schema = put.0;
      rows = put.1 ∙ ap (put_row (table_row row)) has.rows ∙ put_next row stored next has.base;
      base = has.base;
      own = all-append (λ (r : RowData). pos 0 ≤ℤ r.n) stored.rows (row ∷ []) has.own (next.0, tt);
      rising = rising_next row stored next has.base has.rising;
    }

pub added_held : (old new : State) (stored : StoredData) (row : RowData) (count : ℕ) → HoldsRows old stored
    → IsNext stored row.n → Executes insert_text (Int row.n ∷ Bytes row.bytes ∷ []) old new (Ok count)
    → HoldsRows new (with_row row.n row.bytes stored)
added_held old new stored row count holds next h =
    let params = Int row.n ∷ Bytes row.bytes ∷ [] in
    let w = runs_as insert_text params old new alto_schema holds.1.schema
    (Insert 0 (Values terms 3)) insert_is insert_plain count h in (
      (
        w.shown.mode ∙ holds.0.0,
        sym
            (rw holds.0.0 at w.shown.committed_is),
      ),
      added_row old new stored row count holds.1 next h,
    )

-- a database that took a row is open
pub added_open : (old new : State) (stored : StoredData) (row : RowData) (count : ℕ) → HasRows old.now stored
    → Executes insert_text (Int row.n ∷ Bytes row.bytes ∷ []) old new (Ok count) → IsTrue new.is_open
added_open old new stored row count has h =
    let w = runs_as insert_text (Int row.n ∷ Bytes row.bytes ∷ []) old new alto_schema has.schema
    (Insert 0 (Values terms 3)) insert_is insert_plain count h in
    w.shown.is_open

-- what SELECT shows of the records
module _ (trees : Trees) (rows : List RowData) (has : trees 0 ≡ map table_row rows) where
  abbrev shown : RowData → Output
  shown row = (Int row.n ∷ [], Int row.n ∷ Bytes row.bytes ∷ [])

  all_match : (left : List RowData)
      → flat_map (λ r. matches_as Null (overlay trees []) [] end ([] ∷ r ∷ [])) (map table_row left)
      ≡ map (λ row. [] ∷ table_row row ∷ []) left
  all_match [] = refl
  all_match (r ∷ left) = ap (λ l. ([] ∷ table_row r ∷ []) ∷ l) (all_match left)

  read_shown : (left : List RowData) → map (λ row. shown_in (shown row).1) left ≡ left
  read_shown [] = refl
  read_shown (r ∷ left) = ap (λ l. r ∷ l) (read_shown left)

  in_order : (left : List RowData) → IsAscending (λ row later. row.n <ℤ later.n) left
      → IsAscending (λ a b. output_cmp shown_rows a b ≡ Less) (map shown left)
  in_order left up =
      ascending-map (λ a b. output_cmp shown_rows a b ≡ Less) shown left
      (ascending_weaker _ (λ a b. output_cmp shown_rows (shown a) (shown b) ≡ Less)
      (λ a b h. ap (λ o. ordering_then o Equal) (below a.n b.n h)) left up)

  pub shows_all : (found : List Row) → IsAscending (λ row later. row.n <ℤ later.n) rows
      → IsAnswer shown_rows (overlay trees []) [] found → map shown_in found ≡ rows
  shows_all found up a =
      let staged : a.staged ≡ map (λ row. [] ∷ table_row row ∷ []) rows = a.grouped ∙ rw has (all_match rows) in
      let kept : a.kept ≡ map shown rows = a.distinct ∙ ap (map (output shown_rows)) staged
      ∙ map-map (output shown_rows) _ rows in
      let ordered : a.ordered ≡ map shown rows =
      sorted_unique (output_cmp shown_rows) (output_cmp_total shown_rows) (map shown rows) a.ordered (in_order rows up)
      (subst (λ k. IsPermutation k a.ordered) kept a.same) a.sorted in
      ap (map shown_in) (a.shown ∙ ap (λ xs. page shown_rows [] (map (λ (o : Output). o.1) xs)) ordered
      ∙ map-map (λ (o : Output). o.1) shown rows)
      ∙ map-map shown_in _ rows ∙ read_shown rows

-- all rows are read, and the database is left
pub read_rows : (old new : State) (stored : StoredData) (found : List Row) → HasRows old.now stored
    → Shown select_text [] old new found
    → map shown_in found ≡ all_rows stored
read_rows old new stored found has h =
    let it = reads_as select_text [] old new alto_schema has.schema _ select_is select_plain select_unlisted found h in
    shows_all old.now.trees (all_rows stored) has.rows found has.rising (it.answer Null)

shown_same : (old new : State) (c : Compiled) (params : Row) (rows : List Row) (what : Option Returning) → what ≡ None
    → ShowsRows old new select_text c params rows what → IsUnchanged old new
shown_same old new c params rows None none h = h.3
shown_same old new c params rows (Some what) none h = absurd (cc)

pub read_same : (old new : State) (stored : StoredData) (found : List Row) → HasRows old.now stored
    → Shown select_text [] old new found
    → IsUnchanged old new
unfolding Shown
read_same old new stored found has h =
    let known : understood alto_schema select_text ≡ Ok h.0 = sym (ap (λ s. understood s select_text) has.schema)
    ∙ h.1.is in
    shown_same old new h.0 _ found h.0.returning (subst IsPlain known select_plain).0 h.2
