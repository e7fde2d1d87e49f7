-- The table of a network that a text names, and the one address that a text writes.
use Rattle.std.proofs.Common.{◌≡◌, ℕ, List, ◌++◌, drop, Option, Some, None, Result, Ok, Err, refl, ap, sym, ◌∙◌, subst}
use Rattle.std.specs.Prelude.{◌↔◌, IfSome, option_map}
use Rattle.alto_addr.specs.declared.addr.Addr.{Addr}
use Rattle.alto_addr.specs.declared.addr.Addr.TheVariants.{V4, V6}
use Rattle.alto_addr.specs.Text.{IsAddrText}
use Rattle.alto_addr.proofs.Written.{one_address}
use Rattle.alto_names.specs.Name.{IsNetName, named, is_net_byte}
use Rattle.alto_names.specs.declared.label.NameFault.{NameFault}
use Rattle.alto_rows.specs.Entities.{WritesTypedAddr, type_tag}
use Rattle.alto_rows.specs.Rows.{Rows}
use Rattle.alto_rows.proofs.PieceLemmas.{named_is}
use Rattle.alto_book.specs.Book.{Book, rows_of}
use Rattle.alto_versions.specs.Front.{Version, StandsFor, table_in}
use Rattle.alto_versions.proofs.TableLemmas.{table_found}
use Rattle.alto_http.specs.declared.request.Verb.TheVariants as verb
use Rattle.alto_replies.specs.Reply.{ReplyData}
use Rattle.alto_answers.specs.declared.outcome.Answer.TheVariants as answer
use Rattle.alto_answers.specs.Lookup.{LookupAnswer, ReadsAddr, lookup_reply, prefixes_named}
use Rattle.pid_prefix.specs.Longest.{Row}

-- what is written behind a type stands behind five bytes
behind : (text written : List ℕ) (addr : Addr) → text ≡ type_tag addr ++ written → written ≡ drop 5 text
behind text written (V4 number) e = sym (ap (drop 5) e)
behind text written (V6 number) e = sym (ap (drop 5) e)

-- a text writes one typed address at most
pub one_typed_addr : (text : List ℕ) (one other : Addr) → WritesTypedAddr text one
    → WritesTypedAddr text other → one ≡ other
one_typed_addr text one other h k =
    one_address (drop 5 text) one other (subst (λ t. IsAddrText t one) (behind text h.0 one h.1) h.2)
    (subst (λ t. IsAddrText t other) (behind text k.0 other k.1) k.2)

-- what says which address a text writes, if any, reads it
pub reads_addr : (text : List ℕ) (read : Option Addr) → ((addr : Addr) → WritesTypedAddr text addr ↔ (read ≡ Some addr))
    → ReadsAddr text read
reads_addr text (Some addr) told = (told addr).1 refl
reads_addr text None told = λ addr written. let none : None ≡ Some addr = (told addr).0 written in cc

-- the table that a version has of a network is that of its prefixes
table_in_version : (version : Version) (book : Book) (net : List ℕ) → StandsFor version book
    → prefixes_named (rows_of book) (Ok net) ≡ table_in version.tables net
table_in_version version book net stands =
    sym (ap (λ tables. table_in tables net) stands.tables ∙ table_found (rows_of book) net)

-- a text that is no network's name has no table
table_of_none : (version : Version) (book : Book) (text : List ℕ) (read : Result (List ℕ) NameFault)
    → StandsFor version book → named is_net_byte 24 text ≡ read → None ≡ table_in version.tables text
    → prefixes_named (rows_of book) read ≡ None
table_of_none version book text (Err fault) stands is none = refl
table_of_none version book text (Ok name) stands is none =
    ap (λ (n : List ℕ). prefixes_named (rows_of book) (Ok n)) (named_is is_net_byte 24 text name is)
    ∙ (table_in_version version book text stands ∙ sym none)

-- the table that a version has under a text is that of the network which the text names
pub table_of_text : {X : Type 0} (prefixes : X → List Row) (found : Option X) (version : Version) (book : Book)
    (text : List ℕ) → StandsFor version book → option_map prefixes found ≡ table_in version.tables text
    → IfSome found (λ _. IsNetName text)
    → prefixes_named (rows_of book) (named is_net_byte 24 text) ≡ option_map prefixes found
table_of_text prefixes (Some table) version book text stands is name =
    ap (prefixes_named (rows_of book)) name ∙ (table_in_version version book text stands ∙ sym is)
table_of_text prefixes None version book text stands is name =
    table_of_none version book text (named is_net_byte 24 text) stands refl is

-- the reply that a table and an address give answers the look-up
pub looked_up : (rows : Rows) (net text : List ℕ) (table : Option (List Row)) (addr : Option Addr) (reply : ReplyData)
    → prefixes_named rows (named is_net_byte 24 net) ≡ table → ReadsAddr text addr → reply ≡ lookup_reply table addr
    → LookupAnswer verb.Get rows net text (answer.Reply reply)
looked_up rows net text table addr reply found reads made = (
  addr,
  reads,
  ap (λ (r : ReplyData). answer.Reply r)
      (made ∙ ap (λ (t : Option (List Row)). lookup_reply t addr) (sym found)),
)
