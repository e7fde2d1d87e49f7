-- What versions stand for, at the start and after a batch.
use Rattle.std.proofs.Common.{◌≡◌, ◌+◌, [], ◌∷◌, ap, sym, ◌∙◌, length-append, arith}
use Rattle.alto_rows.specs.Accepted.{Accepted}
use Rattle.alto_rows.specs.Rows.{Rows, after}
use Rattle.alto_rows.proofs.WriteLemmas.{after-append}
use Rattle.alto_book.specs.Acceptance.{with_batch}
use Rattle.alto_book.specs.Book.{Book, rows_of, writes_in}
use Rattle.alto_book.proofs.GrownLemmas.{writes_in-grown}
use Rattle.alto_versions.specs.Front.{Version, StandsFor, graphs_of, tables_of}

-- the rows of a book with one batch more
pub rows_of-with_batch : (book : Book) (batch : Accepted)
    → after (rows_of book) batch.writes ≡ rows_of (with_batch book batch)
rows_of-with_batch book batch =
    rw (writes_in-grown book.batches batch) (sym (after-append book.base (writes_in book.batches) batch.writes))

-- a version with one batch more stands for the book with it
pub stands_more : (book : Book) (batch : Accepted) (old version : Version) → StandsFor old book
    → version.n ≡ old.n + 1 → version.rows ≡ after old.rows batch.writes
    → (version.rows ≡ rows_of (with_batch book batch) → version.graphs ≡ graphs_of (with_batch book batch))
    → (version.rows ≡ rows_of (with_batch book batch) → version.tables ≡ tables_of (with_batch book batch))
    → StandsFor version (with_batch book batch)
stands_more book batch old version stands next led graphs tables =
    let current : version.rows ≡ rows_of (with_batch book batch) =
    led ∙ (ap (λ (rows : Rows). after rows batch.writes) stands.current ∙ rows_of-with_batch book batch) in
    record {
      number = rw (next, stands.number) (omega (arith, length-append book.batches (batch ∷ [])));
      current = current;
      graphs = graphs current;
      tables = tables current;
    }
