-- What a query is answered from at a version is that of its book; and the table of a declared network.
use Rattle.std.proofs.Common.{◌≡◌, ap, subst, ◌∙◌}
use Rattle.std.specs.Prelude.{ℕ, Bool, true, List, Option, Some, None, if◌then◌else◌}
use Rattle.alto_addr.specs.declared.addr.Addr.{Addr}
use Rattle.alto_rows.specs.declared.key.Key.TheVariants as key
use Rattle.alto_rows.specs.Prefixes.{prefixes_in}
use Rattle.alto_rows.specs.Rows.{Rows, has_row}
use Rattle.alto_book.specs.Book.{Book}
use Rattle.alto_versions.specs.Front.{NetTable, StandsFor, Version, table_in, tables_in}
use Rattle.alto_versions.proofs.TableLemmas.{table_found}
use Rattle.alto_http.specs.declared.request.Verb.{Verb}
use Rattle.alto_answers.specs.declared.outcome.Answer.{Answer}
use Rattle.alto_answers.specs.declared.route.Query.{Query}
use Rattle.alto_answers.specs.Answers.{seen_at}
use Rattle.alto_answers.specs.Queries.{QueryAnswer, Seen, seen_in}

seen_of_book : (version : Version) (book : Book) (peer : Option Addr) → StandsFor version book
    → seen_in version peer ≡ seen_at book peer
seen_of_book version book peer stands = λ i. record { rows = stands.current i; number = stands.number i; peer = peer }

-- so an answer at the version is one at the book
pub answer_of_book : (of : Query) (verb : Verb) (content_type : Option (List ℕ)) (version : Version)
    (peer : Option Addr) (text body : List ℕ) (given : Answer)
    → QueryAnswer of verb content_type (seen_in version peer) text body given → (book : Book) → StandsFor version book
    → QueryAnswer of verb content_type (seen_at book peer) text body given
answer_of_book of verb content_type version peer text body given is book stands =
    subst (λ (seen : Seen). QueryAnswer of verb content_type seen text body given)
    (seen_of_book version book peer stands) is

-- the table that a version has of a declared network
pub table_declared : (rows : Rows) (tables : List NetTable) (net : List ℕ) → tables ≡ tables_in rows
    → has_row rows (key.Net net) ≡ true
    → table_in tables net ≡ Some (prefixes_in rows net)
table_declared rows tables net is declared =
    rw is (table_found rows net ∙ ap (λ (b : Bool). if b then Some (prefixes_in rows net) else None) declared)
