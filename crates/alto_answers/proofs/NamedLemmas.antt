-- The resource that a text names, in the rows of a version.
use Rattle.std.proofs.Common.{◌≡◌, ℕ, Bool, true, false, List, [], ◌∷◌, Some, None, option_map, refl, sym, ap, subst}
use Rattle.std.proofs.Common.{◌∙◌}
use Rattle.std.specs.BTreeMap.{is_at}
use Rattle.std.specs.List.{find, list_any}
use Rattle.std.specs.Ordering.{is_eq}
use Rattle.alto_rows.specs.declared.resource.Resource.{Resource}
use Rattle.alto_rows.specs.Good.{AreGood}
use Rattle.alto_rows.specs.Ids.{is_id_of, resource_named}
use Rattle.alto_rows.specs.Order.{resource_cmp}
use Rattle.alto_rows.specs.Rows.{Rows}
use Rattle.alto_rows.specs.Versions.{is_declared, resources_of}
use Rattle.alto_rows.proofs.OrderLemmas.{resource_cmp_itself}
use Rattle.alto_rows.proofs.ResourceLemmas.{or_true, resources_found}
use Rattle.alto_book.specs.Book.{Book, rows_of}
use Rattle.alto_book.specs.Numbers.{updates_graph}
use Rattle.alto_book.proofs.StateLemmas.{good_rows}
use Rattle.alto_versions.specs.Front.{Version, StandsFor, graph_in}
use Rattle.alto_answers.specs.Graphs.{IsVersion}
use Rattle.alto_answers.specs.Tips.{graph_named}
use Rattle.alto_answers.proofs.EdgeLemmas.{graph_in_version, graph_none}

-- what is found in a list is one of it
found_among : (test : Resource → Bool) (all : List Resource) (of : Resource) → find test all ≡ Some of
    → list_any (is_at (resource_cmp of)) all ≡ true
found_among test [] of found = cc
found_among test (first ∷ all) of found = by (λ later. found_among test all of later) (test first) refl
  where
    by : (find test all ≡ Some of → list_any (is_at (resource_cmp of)) all ≡ true) → (b : Bool) → test first ≡ b
        → list_any (is_at (resource_cmp of)) (first ∷ all) ≡ true
    by below true e =
        let same : Some first ≡ Some of = rw e at found in
        let one : first ≡ of = cc in
        rw (one, resource_cmp_itself of) refl
    by below false e = rw (below (rw e at found)) (or_true (is_eq (resource_cmp of first)))

-- a resource that a text names is declared
pub named_declared : (rows : Rows) (text : List ℕ) (of : Resource) → Some of ≡ resource_named rows text
    → is_declared rows of ≡ true
named_declared rows text of named = sym (resources_found rows of)
    ∙ found_among (λ x. is_id_of text x) (resources_of rows) of (sym named)

-- the rows of a version are good
pub version_good : (version : Version) → IsVersion version → AreGood version.rows
version_good version (book, legal, stands) = subst AreGood (sym stands.current) (good_rows book legal)

-- so a version has its graph
pub named_has_graph : (version : Version) (text : List ℕ) (of : Resource) → IsVersion version
    → Some of ≡ resource_named version.rows text
    → None ≡ graph_in version.graphs of → ⊥
named_has_graph version text of (book, legal, stands) named none =
    let there : is_declared (rows_of book) of ≡ true = ap (λ rows. is_declared rows of) (sym stands.current)
    ∙ named_declared version.rows text of named in
    let not : is_declared (rows_of book) of ≡ false = graph_none version book of stands none in
    cc

-- which is the book's
pub graph_of_named : (version : Version) (book : Book) (text : List ℕ) (of : Resource) → StandsFor version book
    → Some of ≡ resource_named version.rows text
    → graph_named book text ≡ graph_in version.graphs of
graph_of_named version book text of stands named =
    let there : is_declared (rows_of book) of ≡ true = ap (λ rows. is_declared rows of) (sym stands.current)
    ∙ named_declared version.rows text of named in
    ap (λ rows. option_map (updates_graph book) (resource_named rows text)) (sym stands.current)
    ∙ ap (option_map (updates_graph book)) (sym named) ∙ sym (graph_in_version version book of stands ∙ rw there refl)
