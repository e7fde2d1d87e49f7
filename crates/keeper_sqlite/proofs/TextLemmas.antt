-- What the texts of the store compile to.
use Rattle.std.proofs.Common.{◌≡◌, pos, negsuc, List, [], ◌∷◌, false, codes, None, Ok, refl}
use Rattle.sqlite.specs.declared.types.Value.TheVariants.{Null, Int}
use Rattle.sqlite.specs.Term.{Term, lit, col, op2}
use Rattle.sqlite.specs.Source.TheVariants.{Values}
use Rattle.sqlite.specs.Command.TheVariants.{Insert, Select, Delete, CreateTable, Nothing}
use Rattle.sqlite.specs.Compile.{table_defined_by}
use Rattle.sqlite_tied.specs.Compute.{everything}
use Rattle.sqlite.specs.Query.{Query, inner, end}
use Rattle.sqlite_value.specs.Keys.{ascending}
use Rattle.sqlite.specs.Collation.TheVariants.{Binary}
use Rattle.sqlite_sql.specs.declared.ops.BinaryOp.TheVariants.{Compare}
use Rattle.sqlite_sql.specs.declared.ops.CompareOp.TheVariants.{Le, Ne}
use Rattle.sqlite.specs.Listing.{understood, reads_listing}
use Rattle.sqlite.proofs.Callers.{IsPlain, command_of, statement_of}
use Rattle.keeper_sqlite.specs.Store.{alto_table, alto_schema, no_schema}
use Rattle.keeper_sqlite.specs.Texts.{create_text, insert_text, select_text, delete_text}

-- what INSERT writes: the rowid, no value in its place, the bytes
abbrev pub terms : List Term
terms = col 0 0 ∷ lit Null ∷ col 0 1 ∷ []

pub create_first : command_of (understood no_schema create_text) ≡ CreateTable
unfolding understood everything
create_first = refl

pub create_first_text : statement_of create_text (understood no_schema create_text) ≡ create_text
unfolding understood everything
create_first_text = refl

pub create_first_plain : IsPlain (understood no_schema create_text)
unfolding understood everything
create_first_plain = (refl, refl)

pub create_defines : table_defined_by create_text ≡ Ok alto_table
unfolding understood everything
create_defines = refl

pub create_again : command_of (understood alto_schema create_text) ≡ Nothing
unfolding understood everything
create_again = refl

pub create_again_plain : IsPlain (understood alto_schema create_text)
unfolding understood everything
create_again_plain = (refl, refl)

pub insert_is : command_of (understood alto_schema insert_text) ≡ Insert 0 (Values terms 3)
unfolding understood everything
insert_is = refl

pub insert_plain : IsPlain (understood alto_schema insert_text)
unfolding understood everything
insert_plain = (refl, refl)

-- what SELECT asks for
abbrev pub shown_rows : Query
shown_rows = record {
  from = inner 0 end;
  filter = [];
  group = None;
  project = col 1 0 ∷ col 1 2 ∷ [];
  distinct = false;
  collations = [];
  order = (col 1 0, ascending Binary) ∷ [];
  limit = lit (Int (negsuc 0));
  offset = lit (Int (pos 0));
}

pub select_is : command_of (understood alto_schema select_text)
    ≡ Select (record { lets = []; body = shown_rows }) (codes "n" ∷ codes "bytes" ∷ [])
unfolding understood everything
select_is = refl

pub select_plain : IsPlain (understood alto_schema select_text)
unfolding understood everything
select_plain = (refl, refl)

pub select_unlisted : reads_listing alto_schema select_text ≡ false
unfolding understood everything
select_unlisted = refl

-- which rows DELETE takes away
abbrev pub tests : List Term
tests = op2 (Compare Le Binary) (col 1 0) (col 0 0) ∷ op2 (Compare Ne Binary) (col 1 0) (lit (Int (pos 0))) ∷ []

abbrev pub taken_rows : Query
taken_rows = record {
  from = inner 0 end;
  filter = tests;
  group = None;
  project = col 1 0 ∷ [];
  distinct = false;
  collations = [];
  order = [];
  limit = lit (Int (negsuc 0));
  offset = lit (Int (pos 0));
}

pub delete_is : command_of (understood alto_schema delete_text) ≡ Delete 0 (record { lets = []; body = taken_rows })
unfolding understood everything
delete_is = refl

pub delete_plain : IsPlain (understood alto_schema delete_text)
unfolding understood everything
delete_plain = (refl, refl)
