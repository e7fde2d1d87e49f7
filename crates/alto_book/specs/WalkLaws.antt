-- What holds of edges that were answered, and of walks along them: the statements of the laws.
use Rattle.std.specs.Prelude.{◌≡◌, ℕ, ◌≤◌, List, ◌∷◌, Ok}
use Rattle.serde_json.specs.Data.{Data}
use Rattle.alto_rows.specs.declared.resource.Resource.{Resource}
use Rattle.alto_book.specs.Book.{Book, Extends}
use Rattle.alto_book.specs.Legal.{IsLegal}
use Rattle.alto_book.specs.Walks.{document_at, edge_content, Edge, followed, IsAnswered, IsWalk}

-- a book that a legal one extends is legal
abbrev pub EarlierBooksAreLegal : Type 0
EarlierBooksAreLegal = (earlier later : Book) → IsLegal later → Extends later earlier → IsLegal earlier

-- what an edge was answered with is what it holds in every later book
abbrev pub BodiesStay : Type 0
BodiesStay = (book : Book) (of : Resource) (edge : Edge) → IsLegal book → IsAnswered book of edge
    → edge.content ≡ edge_content book of edge.form edge.i edge.j

-- a walk leads a client that holds the document at its beginning to the document at its end, whatever the forms of its
-- edges; from 0 it needs none
abbrev pub WalksLeadOn : Type 0
WalksLeadOn = (book : Book) (of : Resource) (from at : ℕ) (first : Edge) (edges : List Edge) (held : Data)
    → IsLegal book → IsWalk book of from (first ∷ edges) at → (1 ≤ from → held ≡ document_at book of from)
    → followed held (first ∷ edges) ≡ Ok (document_at book of at)
