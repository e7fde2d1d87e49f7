-- The edges of a resource, by the updates graph of a version.
use Rattle.std.proofs.Common.{◌≡◌, ℕ, ◌≤◌, ◌==◌, true, false, Bool, List, Option, Some, None, if◌then◌else◌, refl, ap}
use Rattle.std.proofs.Common.{ap₂, sym, subst, ◌∙◌, arith}
use Rattle.std.proofs.lemmas.Bool.Decides.{nat_tests}
use Rattle.serde_json.specs.Written.{compact_text}
use Rattle.alto_http.specs.declared.request.Verb.{Verb}
use Rattle.alto_http.specs.declared.request.Verb.TheVariants as verb
use Rattle.alto_rows.specs.declared.key.Key.{Key}
use Rattle.alto_rows.specs.declared.resource.Resource.{Resource}
use Rattle.alto_rows.specs.Good.{AreGood}
use Rattle.alto_rows.specs.Ids.{resource_named}
use Rattle.alto_rows.specs.Rows.{Rows}
use Rattle.alto_rows.specs.Versions.{is_declared}
use Rattle.alto_book.specs.Book.{Book, rows_of}
use Rattle.alto_book.specs.Legal.{IsLegal}
use Rattle.alto_book.specs.NumberLaws.{TellsNumbers}
use Rattle.alto_book.specs.Numbers.{keys_between, rows_at, status_at, updates_graph}
use Rattle.alto_book.specs.Walks.{content_data, document, document_at, patch}
use Rattle.alto_book.proofs.TellLemmas.{graph_tells}
use Rattle.alto_versions.specs.Front.{Version, StandsFor, graph_in}
use Rattle.alto_versions.proofs.FoundLemmas.{graph_found}
use Rattle.edge_patch.specs.Documents as documents
use Rattle.edge_patch.specs.declared.form.PatchForm.{PatchForm}
use Rattle.edge_patch.specs.declared.form.PatchForm.TheVariants as form
use Rattle.tips_graph.specs.declared.status.EdgeStatus.{EdgeStatus}
use Rattle.tips_graph.specs.declared.status.EdgeStatus.TheVariants.{Absent, Gone, Awaited, Ahead, Here}
use Rattle.tips_graph.specs.Graph.{GraphData, span_of, status_of}
use Rattle.tips_graph.specs.Graph.{rows_at as graph_rows}
use Rattle.alto_answers.specs.declared.outcome.Answer.{Answer}
use Rattle.alto_answers.specs.Answers.{BringsEdits}
use Rattle.alto_answers.specs.Edges.{content_reply, content_type, edge_by, edge_number, edge_reply, edges_answer}
use Rattle.alto_answers.specs.Edges.{named_edge, numbered_edge, patch_type}
use Rattle.alto_replies.specs.Replies.{document_reply, ok_reply}
use Rattle.alto_answers.specs.Types.{media_type_of}

-- what a version has of a resource is the book's graph, where the resource is declared
pub graph_in_version : (version : Version) (book : Book) (of : Resource) → StandsFor version book
    → graph_in version.graphs of ≡ (if is_declared (rows_of book) of then Some (updates_graph book of) else None)
graph_in_version version book of stands = ap (λ graphs. graph_in graphs of) stands.graphs ∙ graph_found book of

chosen : (b : Bool) (graph there : GraphData) → Some graph ≡ (if b then Some there else None)
    → (b ≡ true) × (graph ≡ there)
chosen true graph there h = (refl, cc)
chosen false graph there h = cc

left_out : (b : Bool) (there : GraphData) → None ≡ (if b then Some there else None) → b ≡ false
left_out true there h = cc
left_out false there h = refl

-- a graph that a version has is that of a declared resource
pub graph_some : (version : Version) (book : Book) (of : Resource) (graph : GraphData) → IsLegal book
    → StandsFor version book
    → Some graph ≡ graph_in version.graphs of → TellsNumbers graph book of
graph_some version book of graph legal stands found =
    let is = chosen (is_declared (rows_of book) of) graph (updates_graph book of)
    (found ∙ graph_in_version version book of stands) in
    let P : GraphData → Type 0 = λ g. TellsNumbers g book of in
    subst P (sym is.1) (graph_tells book of legal is.0)

-- and where it has none, the resource isn't declared
pub graph_none : (version : Version) (book : Book) (of : Resource) → StandsFor version book
    → None ≡ graph_in version.graphs of → is_declared (rows_of book) of ≡ false
graph_none version book of stands found =
    left_out (is_declared (rows_of book) of) (updates_graph book of) (found ∙ graph_in_version version book of stands)

-- the status that a graph tells is that of the book
pub by_status : (graph : GraphData) (book : Book) (of : Resource) (form : PatchForm) (i j : ℕ) (status : EdgeStatus)
    (answer : Answer) → TellsNumbers graph book of
    → status ≡ status_of graph i j → answer ≡ edge_by status book of form i j
    → answer ≡ edge_by (status_at book of i j) book of form i j
by_status graph book of form i j status answer is told same =
    same ∙ ap (λ s. edge_by s book of form i j) (told ∙ is.status i j)

-- an edge that can be had by one book of the graph can be had by another
pub here_too : (graph : GraphData) (book other : Book) (of : Resource) (i j : ℕ) → TellsNumbers graph book of
    → TellsNumbers graph other of
    → status_at book of i j ≡ Here → status_at other of i j ≡ Here
here_too graph book other of i j is again here = sym (again.status i j) ∙ is.status i j ∙ here

-- the rows that a graph has for the end of an edge that can be had
pub rows_here : (graph : GraphData) (book : Book) (of : Resource) (i j : ℕ) (rows : Rows) → TellsNumbers graph book of
    → status_at book of i j ≡ Here → Some rows ≡ graph_rows graph j → rows ≡ rows_at book of j
rows_here graph book of i j rows is here found =
    let there : Some rows ≡ Some (rows_at book of j) = found ∙ is.rows j (is.leads i j here) in cc

-- it has some
pub rows_there : (graph : GraphData) (book : Book) (of : Resource) (i j : ℕ) → TellsNumbers graph book of
    → status_at book of i j ≡ Here → None ≡ graph_rows graph j → ⊥
rows_there graph book of i j is here none =
    let there : None ≡ Some (rows_at book of j) = none ∙ is.rows j (is.leads i j here) in cc

-- they are good and declare the resource
pub rows_good : (graph : GraphData) (book : Book) (of : Resource) (i j : ℕ) (rows : Rows) → TellsNumbers graph book of
    → status_at book of i j ≡ Here → rows ≡ rows_at book of j → AreGood rows × (is_declared rows of ≡ true)
rows_good graph book of i j rows is here same =
    let P : Rows → Type 0 = λ r. AreGood r × (is_declared r of ≡ true) in
    subst P (sym same) (is.good j, is.declared j (is.leads i j here))

is_zero : (i : ℕ) → (i == 0) ≡ true → i ≡ 0
is_zero i h = grind (arith, nat_tests)

not_zero : (i : ℕ) → (i == 0) ≡ false → 1 ≤ i
not_zero i h = grind (arith, nat_tests)

-- where the graph has keys, the edge leads from a number
pub low_of_span : (graph : GraphData) (book : Book) (of : Resource) (i j : ℕ) (keys : List Key)
    → TellsNumbers graph book of
    → Some keys ≡ span_of graph i j → 1 ≤ i
low_of_span graph book of i j keys is found = by (i == 0) refl
  where
    by : (b : Bool) → (i == 0) ≡ b → 1 ≤ i
    by true h =
        let none : Some keys ≡ None = found ∙ ap (λ n. span_of graph n j) (is_zero i h) ∙ is.snapshot j in
        cc
    by false h = not_zero i h

-- the rows that a graph has for its beginning
pub rows_begin : (graph : GraphData) (book : Book) (of : Resource) (i j : ℕ) (rows : Rows) → TellsNumbers graph book of
    → status_at book of i j ≡ Here → 1 ≤ i → Some rows ≡ graph_rows graph i → rows ≡ rows_at book of i
rows_begin graph book of i j rows is here low found =
    let there : Some rows ≡ Some (rows_at book of i) = found ∙ is.rows i (is.begins i j low here) in cc

-- it has some
pub rows_began : (graph : GraphData) (book : Book) (of : Resource) (i j : ℕ) → TellsNumbers graph book of
    → status_at book of i j ≡ Here → 1 ≤ i → None ≡ graph_rows graph i → ⊥
rows_began graph book of i j is here low none =
    let there : None ≡ Some (rows_at book of i) = none ∙ is.rows i (is.begins i j low here) in cc

-- they are good
pub rows_good_before : (graph : GraphData) (book : Book) (of : Resource) (i : ℕ) (rows : Rows)
    → TellsNumbers graph book of
    → rows ≡ rows_at book of i → AreGood rows
rows_good_before graph book of i rows is same = subst AreGood (sym same) (is.good i)

-- they are the keys between the edge's numbers
keys_of_span : (graph : GraphData) (book : Book) (of : Resource) (i j : ℕ) (keys : List Key)
    → TellsNumbers graph book of
    → status_at book of i j ≡ Here → 1 ≤ i → Some keys ≡ span_of graph i j → keys ≡ keys_between book of i j
keys_of_span graph book of i j keys is here low found =
    let there : Some keys ≡ Some (keys_between book of i j) = found ∙ is.step i j low here in cc

-- the edge is the patch by the graph's keys
pub patched : (graph : GraphData) (book : Book) (of : Resource) (form : PatchForm) (i j : ℕ) (before rows : Rows)
    (keys : List Key) → TellsNumbers graph book of
    → status_at book of i j ≡ Here → before ≡ rows_at book of i → rows ≡ rows_at book of j
    → Some keys ≡ span_of graph i j
    → content_reply of (patch form of before rows keys) ≡ edge_reply book of form i j
patched graph book of form i j before rows keys is here began same found = by (i == 0) refl
  where
    low : 1 ≤ i
    low = low_of_span graph book of i j keys is found

    between : keys ≡ keys_between book of i j
    between = keys_of_span graph book of i j keys is here low found

    by : (b : Bool) → (i == 0) ≡ b → content_reply of (patch form of before rows keys)
        ≡ content_reply of
        (if b then document (document_at book of j) else patch form of (rows_at book of i) (rows_at book of j)
        (keys_between book of i j))
    by true h = absurd (omega (arith, low, is_zero i h))
    by false h = λ n. content_reply of (patch form of (began n) (same n) (between n))

-- and where it has none, the edge is the document
pub whole_document : (graph : GraphData) (book : Book) (of : Resource) (form : PatchForm) (i j : ℕ) (rows : Rows)
    → TellsNumbers graph book of
    → status_at book of i j ≡ Here → rows ≡ rows_at book of j → None ≡ span_of graph i j
    → document_reply (media_type_of of) (documents.document of rows) ≡ edge_reply book of form i j
whole_document graph book of form i j rows is here same found = by (i == 0) refl
  where
    by : (b : Bool) → (i == 0) ≡ b → document_reply (media_type_of of) (documents.document of rows)
        ≡ content_reply of
        (if b then document (document_at book of j) else patch form of (rows_at book of i) (rows_at book of j)
        (keys_between book of i j))
    by true h = rw same refl
    by false h =
        let low : 1 ≤ i = not_zero i h in
        let none : None ≡ Some (keys_between book of i j) = found ∙ is.step i j low here in
        cc

-- ---- an edge brings no import

edge_brings : (status : EdgeStatus) (book : Book) (of : Resource) (form : PatchForm) (i j : ℕ)
    → BringsEdits (edge_by status book of form i j)
edge_brings Absent book of form i j = tt
edge_brings Gone book of form i j = tt
edge_brings Awaited book of form i j = tt
edge_brings Ahead book of form i j = tt
edge_brings Here book of form i j = tt

numbered_brings : (book : Book) (of : Resource) (form : PatchForm) (i j : Option ℕ)
    → BringsEdits (numbered_edge book of form i j)
numbered_brings book of form None j = tt
numbered_brings book of form (Some i) None = tt
numbered_brings book of form (Some i) (Some j) = edge_brings (status_at book of i j) book of form i j

named_brings : (book : Book) (of : Option Resource) (form : PatchForm) (i j : List ℕ)
    → BringsEdits (named_edge book of form i j)
named_brings book (Some of) form i j = numbered_brings book of form (edge_number i) (edge_number j)
named_brings book None form i j = tt

pub edges_bring_none : (verb : Verb) (book : Book) (form : PatchForm) (resource i j : List ℕ)
    → BringsEdits (edges_answer verb book form resource i j)
edges_bring_none verb.Get book form resource i j = named_brings book (resource_named (rows_of book) resource) form i j
edges_bring_none verb.Post book form resource i j = tt
edges_bring_none verb.Other book form resource i j = tt

-- ---- what is kept of an edge as text

-- a patch has the media type of its form
patch_types : (form : PatchForm) (of : Resource) (before later : Rows) (keys : List Key)
    → content_type of (patch form of before later keys) ≡ patch_type form
patch_types form.Merge of before later keys = refl
patch_types form.Operations of before later keys = refl

-- the reply with the text of a patch
pub patch_replied : (form : PatchForm) (of : Resource) (before later : Rows) (keys : List Key) (text : List ℕ)
    → text ≡ compact_text (content_data (patch form of before later keys))
    → ok_reply (patch_type form) text ≡ content_reply of (patch form of before later keys)
patch_replied form of before later keys text is =
    ap₂ ok_reply (sym (patch_types form of before later keys)) is
