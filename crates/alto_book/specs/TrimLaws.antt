-- What holds of the edges of a book whose base moves on: the statement of the law.
use Rattle.std.specs.Prelude.{◌≡◌, ℕ, ◌≤◌, length, true}
use Rattle.alto_rows.specs.declared.resource.Resource.{Resource}
use Rattle.alto_rows.specs.Versions.{is_declared}
use Rattle.tips_graph.specs.declared.status.EdgeStatus.TheVariants.{Here}
use Rattle.edge_patch.specs.declared.form.PatchForm.{PatchForm}
use Rattle.alto_book.specs.Book.{Book, rows_of, trimmed}
use Rattle.alto_book.specs.Legal.{IsLegal}
use Rattle.alto_book.specs.Numbers.{status_at}
use Rattle.alto_book.specs.Walks.{edge_content}

-- an edge that can still be had holds what it did
abbrev pub TrimKeepsBodies : Type 0
TrimKeepsBodies = (book : Book) (n : ℕ) (of : Resource) (form : PatchForm) (i j : ℕ) → IsLegal book
    → n ≤ length book.batches → is_declared (rows_of book) of ≡ true → status_at (trimmed book n) of i j ≡ Here
    → edge_content (trimmed book n) of form i j ≡ edge_content book of form i j
