-- The available edges of a resource, by its updates graph.
use Rattle.std.proofs.Common.{◌≡◌, ℕ, ◌+◌, ◌≤◌, ◌==◌, Bool, true, false, List, [], ◌∷◌, ◌++◌, map, Some, None}
use Rattle.std.proofs.Common.{if◌then◌else◌, append_assoc, refl, ap, sym, subst, ◌∙◌, arith}
use Rattle.std.proofs.lemmas.Bool.Decides.{nat_tests}
use Rattle.std.proofs.lemmas.List.{flat_map_more, map-append, map-id}
use Rattle.std.proofs.lemmas.List.Elements.{All-from_recursion, All-weaker, filter-append}
use Rattle.std.proofs.lemmas.List.FromFn.{map-range_with_len_more}
use Rattle.std.specs.Prelude.{All, filter}
use Rattle.std.specs.List.{AllByRecursion, flat_map, range_with_len}
use Rattle.alto_rows.specs.declared.key.Key.{Key}
use Rattle.alto_rows.specs.declared.resource.Resource.{Resource}
use Rattle.alto_rows.specs.Good.{AreGood}
use Rattle.alto_rows.specs.Rows.{Rows}
use Rattle.alto_rows.specs.Versions.{is_declared}
use Rattle.edge_patch.specs.Documents as documents
use Rattle.edge_patch.specs.declared.form.PatchForm.TheVariants as form
use Rattle.tips_graph.specs.declared.status.EdgeStatus.{EdgeStatus}
use Rattle.tips_graph.specs.declared.status.EdgeStatus.TheVariants.{Absent, Gone, Awaited, Ahead, Here}
use Rattle.tips_graph.specs.Graph.{GraphData, keeps, last_of, span_of, status_of}
use Rattle.tips_graph.specs.Graph.{rows_at as graph_rows}
use Rattle.alto_book.specs.Book.{Book, rows_of}
use Rattle.alto_book.specs.Legal.{IsLegal}
use Rattle.alto_book.specs.NumberLaws.{TellsNumbers}
use Rattle.alto_book.specs.Numbers.{keys_between, rows_at, status_at, updates_graph}
use Rattle.alto_book.specs.Walks.{document, document_at, edge_content, patch}
use Rattle.alto_book.proofs.TellLemmas.{graph_tells}
use Rattle.alto_versions.specs.Front.{graph_in, StandsFor, Version}
use Rattle.alto_versions.proofs.FoundLemmas.{graph_found}
use Rattle.alto_drill.specs.Edges.{edges_by, edges_from, edges_of, is_here}
use Rattle.alto_drill.specs.Trials.{contents_of}

-- ---- the graph of a version

graph_in_version : (version : Version) (book : Book) (of : Resource) → StandsFor version book
    → graph_in version.graphs of ≡ (if is_declared (rows_of book) of then Some (updates_graph book of) else None)
graph_in_version version book of stands = ap (λ graphs. graph_in graphs of) stands.graphs ∙ graph_found book of

chosen : (b : Bool) (graph there : GraphData) → Some graph ≡ (if b then Some there else None)
    → (b ≡ true) × (graph ≡ there)
chosen true graph there h = (refl, cc)
chosen false graph there h = cc

left_out : (b : Bool) (there : GraphData) → None ≡ (if b then Some there else None) → b ≡ false
left_out true there h = cc
left_out false there h = refl

-- a graph that a version has is that of a declared resource
pub graph_some : (version : Version) (book : Book) (of : Resource) (graph : GraphData) → IsLegal book
    → StandsFor version book
    → Some graph ≡ graph_in version.graphs of → TellsNumbers graph book of × (is_declared (rows_of book) of ≡ true)
graph_some version book of graph legal stands found =
    let is = chosen (is_declared (rows_of book) of) graph (updates_graph book of)
    (found ∙ graph_in_version version book of stands) in
    let P : GraphData → Type 0 = λ g. TellsNumbers g book of in
    (subst P (sym is.1) (graph_tells book of legal is.0), is.0)

-- where a version has none, the resource has no edges
pub no_edges : (version : Version) (book : Book) (of : Resource) → StandsFor version book
    → None ≡ graph_in version.graphs of → edges_of book of ≡ []
no_edges version book of stands found =
    rw (left_out (is_declared (rows_of book) of) (updates_graph book of)
    (found ∙ graph_in_version version book of stands)) refl

-- ---- the edges

-- numbers, and one more
range_more : (n : ℕ) → range_with_len 0 (n + 1) ≡ range_with_len 0 n ++ n ∷ []
range_more n =
    sym (map-id (range_with_len 0 (n + 1))) ∙ map-range_with_len_more (λ (x : ℕ). x) 0 n n (omega arith)
    ∙ ap (λ numbers. numbers ++ n ∷ []) (map-id (range_with_len 0 n))

-- the edges from a number, by one end more
pub ends_more : (status : ℕ → ℕ → EdgeStatus) (i j : ℕ)
    → map {B = ℕ × ℕ} (λ j. (i, j)) (filter (λ j. is_here (status i j)) (range_with_len 0 (j + 1)))
    ≡ map {B = ℕ × ℕ} (λ j. (i, j)) (filter (λ j. is_here (status i j)) (range_with_len 0 j))
    ++ (if is_here (status i j) then (i, j) ∷ [] else [])
ends_more status i j =
    let here : ℕ → Bool = λ j. is_here (status i j) in
    ap (λ numbers. map {B = ℕ × ℕ} (λ j. (i, j)) (filter here numbers)) (range_more j)
    ∙ ap (map {B = ℕ × ℕ} (λ j. (i, j))) (filter-append here (range_with_len 0 j) (j ∷ []))
    ∙ map-append {B = ℕ × ℕ} (λ j. (i, j)) (filter here (range_with_len 0 j)) (filter here (j ∷ []))
    ∙ ap (λ last. map {B = ℕ × ℕ} (λ j. (i, j)) (filter here (range_with_len 0 j)) ++ last) (by (here j))
  where
    by : (b : Bool) → map {B = ℕ × ℕ} (λ j. (i, j)) (if b then j ∷ [] else []) ≡ (if b then (i, j) ∷ [] else [])
    by true = refl
    by false = refl

-- added to others
pub ends_step : (status : ℕ → ℕ → EdgeStatus) (i j : ℕ) (before now : List (ℕ × ℕ))
    → now ≡ before ++ map {B = ℕ × ℕ} (λ j. (i, j)) (filter (λ j. is_here (status i j)) (range_with_len 0 j))
    → now ++ (if is_here (status i j) then (i, j) ∷ [] else [])
    ≡ before ++ map {B = ℕ × ℕ} (λ j. (i, j)) (filter (λ j. is_here (status i j)) (range_with_len 0 (j + 1)))
ends_step status i j before now is =
    let some : List (ℕ × ℕ) = map {B = ℕ × ℕ} (λ j. (i, j)) (filter (λ j. is_here (status i j)) (range_with_len 0 j)) in
    let last : List (ℕ × ℕ) = if is_here (status i j) then (i, j) ∷ [] else [] in
    ap (λ edges. edges ++ last) is ∙ append_assoc before some last
    ∙ ap (λ more. before ++ more) (sym (ends_more status i j))

-- the edges, by one beginning more
pub starts_more : (status : ℕ → ℕ → EdgeStatus) (last i : ℕ)
    → flat_map (edges_from status last) (range_with_len 0 i) ++ edges_from status last i
    ≡ flat_map (edges_from status last) (range_with_len 0 (i + 1))
starts_more status last i =
    flat_map_more (edges_from status last) [] (range_with_len 0 i) i
    ∙ ap (flat_map (edges_from status last)) (sym (range_more i))

here_is : (status : EdgeStatus) → is_here status ≡ true → status ≡ Here
here_is Here h = refl
here_is Absent h = cc
here_is Gone h = cc
here_is Awaited h = cc
here_is Ahead h = cc

abbrev pub AreHere : (ℕ → ℕ → EdgeStatus) → List (ℕ × ℕ) → Type 0
AreHere status edges = AllByRecursion (λ edge. status edge.0 edge.1 ≡ Here) edges

here_from : (status : ℕ → ℕ → EdgeStatus) (i : ℕ) (numbers : List ℕ)
    → AreHere status (map (λ j. (i, j)) (filter (λ j. is_here (status i j)) numbers))
here_from status i [] = tt
here_from status i (j ∷ numbers) = by (is_here (status i j)) refl (here_from status i numbers)
  where
    by : (b : Bool) → is_here (status i j) ≡ b
        → AreHere status (map (λ j. (i, j)) (filter (λ j. is_here (status i j)) numbers))
        → AreHere status (map (λ j. (i, j)) (if b then j ∷ filter (λ j. is_here (status i j)) numbers else
        filter (λ j. is_here (status i j)) numbers))
    by true e below = (here_is (status i j) e, below)
    by false e below = below

here_append : (status : ℕ → ℕ → EdgeStatus) (first second : List (ℕ × ℕ)) → AreHere status first → AreHere status second
    → AreHere status (first ++ second)
here_append status [] second a b = b
here_append status (edge ∷ first) second a b = (a.0, here_append status first second a.1 b)

here_in : (status : ℕ → ℕ → EdgeStatus) (last : ℕ) (numbers : List ℕ)
    → AreHere status (flat_map (edges_from status last) numbers)
here_in status last [] = tt
here_in status last (i ∷ numbers) =
    here_append status (edges_from status last i) (flat_map (edges_from status last) numbers)
    (here_from status i (range_with_len 0 (last + 1))) (here_in status last numbers)

-- each of the edges is available
pub all_here : (status : ℕ → ℕ → EdgeStatus) (last : ℕ) → AreHere status (edges_by status last)
unfolding edges_by
all_here status last = here_in status last (range_with_len 0 (last + 1))

-- those of a graph are those of the book
pub same_edges : (graph : GraphData) (book : Book) (of : Resource) → TellsNumbers graph book of
    → is_declared (rows_of book) of ≡ true
    → edges_by (status_of graph) (last_of graph) ≡ edges_of book of
same_edges graph book of is declared = rw declared (λ n. edges_by (λ i j. is.status i j n) (is.last n))

-- they are available in the book
pub here_in_book : (graph : GraphData) (book : Book) (of : Resource) → TellsNumbers graph book of
    → All (λ edge. status_at book of edge.0 edge.1 ≡ Here) (edges_by (status_of graph) (last_of graph))
here_in_book graph book of is =
    All-weaker (λ edge. status_of graph edge.0 edge.1 ≡ Here) (λ edge. status_at book of edge.0 edge.1 ≡ Here)
    (λ edge here. sym (is.status edge.0 edge.1) ∙ here) (edges_by (status_of graph) (last_of graph))
    (All-from_recursion (λ edge. status_of graph edge.0 edge.1 ≡ Here) _ (all_here (status_of graph) (last_of graph)))

-- ---- what a graph has for an edge

pub here_too : (graph : GraphData) (book other : Book) (of : Resource) (i j : ℕ) → TellsNumbers graph book of
    → TellsNumbers graph other of
    → status_at book of i j ≡ Here → status_at other of i j ≡ Here
here_too graph book other of i j is again here = sym (again.status i j) ∙ is.status i j ∙ here

-- the rows at a number that it keeps
kept_rows : (graph : GraphData) (book : Book) (of : Resource) (n : ℕ) (rows : Rows) → TellsNumbers graph book of
    → keeps graph n ≡ true
    → Some rows ≡ graph_rows graph n → rows ≡ rows_at book of n
kept_rows graph book of n rows is kept found = let there : Some rows ≡ Some (rows_at book of n) =
    found ∙ is.rows n kept in cc

kept_some : (graph : GraphData) (book : Book) (of : Resource) (n : ℕ) → TellsNumbers graph book of
    → keeps graph n ≡ true → None ≡ graph_rows graph n → ⊥
kept_some graph book of n is kept none = let there : None ≡ Some (rows_at book of n) = none ∙ is.rows n kept in cc

-- those at its end
pub rows_end : (graph : GraphData) (book : Book) (of : Resource) (i j : ℕ) (rows : Rows) → TellsNumbers graph book of
    → status_at book of i j ≡ Here → Some rows ≡ graph_rows graph j → rows ≡ rows_at book of j
rows_end graph book of i j rows is here found = kept_rows graph book of j rows is (is.leads i j here) found

pub some_end : (graph : GraphData) (book : Book) (of : Resource) (i j : ℕ) → TellsNumbers graph book of
    → status_at book of i j ≡ Here → None ≡ graph_rows graph j → ⊥
some_end graph book of i j is here none = kept_some graph book of j is (is.leads i j here) none

is_zero : (i : ℕ) → (i == 0) ≡ true → i ≡ 0
is_zero i h = grind (arith, nat_tests)

not_zero : (i : ℕ) → (i == 0) ≡ false → 1 ≤ i
not_zero i h = grind (arith, nat_tests)

-- where the graph has keys, the edge leads from a number
pub low_of_span : (graph : GraphData) (book : Book) (of : Resource) (i j : ℕ) (keys : List Key)
    → TellsNumbers graph book of
    → Some keys ≡ span_of graph i j → 1 ≤ i
low_of_span graph book of i j keys is found = by (i == 0) refl
  where
    by : (b : Bool) → (i == 0) ≡ b → 1 ≤ i
    by true h =
        let none : Some keys ≡ None = found ∙ ap (λ n. span_of graph n j) (is_zero i h) ∙ is.snapshot j in
        cc
    by false h = not_zero i h

-- those at its beginning
pub rows_start : (graph : GraphData) (book : Book) (of : Resource) (i j : ℕ) (rows : Rows) → TellsNumbers graph book of
    → status_at book of i j ≡ Here → 1 ≤ i → Some rows ≡ graph_rows graph i → rows ≡ rows_at book of i
rows_start graph book of i j rows is here low found = kept_rows graph book of i rows is (is.begins i j low here) found

pub some_start : (graph : GraphData) (book : Book) (of : Resource) (i j : ℕ) → TellsNumbers graph book of
    → status_at book of i j ≡ Here → 1 ≤ i → None ≡ graph_rows graph i → ⊥
some_start graph book of i j is here low none = kept_some graph book of i is (is.begins i j low here) none

-- they are good and declare the resource
kept_good : (graph : GraphData) (book : Book) (of : Resource) (n : ℕ) (rows : Rows) → TellsNumbers graph book of
    → keeps graph n ≡ true
    → rows ≡ rows_at book of n → AreGood rows × (is_declared rows of ≡ true)
kept_good graph book of n rows is kept same =
    let P : Rows → Type 0 = λ r. AreGood r × (is_declared r of ≡ true) in
    subst P (sym same) (is.good n, is.declared n kept)

pub good_end : (graph : GraphData) (book : Book) (of : Resource) (i j : ℕ) (rows : Rows) → TellsNumbers graph book of
    → status_at book of i j ≡ Here → rows ≡ rows_at book of j → AreGood rows × (is_declared rows of ≡ true)
good_end graph book of i j rows is here same = kept_good graph book of j rows is (is.leads i j here) same

pub good_start : (graph : GraphData) (book : Book) (of : Resource) (i j : ℕ) (rows : Rows) → TellsNumbers graph book of
    → status_at book of i j ≡ Here → 1 ≤ i → rows ≡ rows_at book of i → AreGood rows × (is_declared rows of ≡ true)
good_start graph book of i j rows is here low same = kept_good graph book of i rows is (is.begins i j low here) same

-- ---- what the edge holds

-- where the graph has no keys, the document
pub whole_contents : (graph : GraphData) (book : Book) (of : Resource) (i j : ℕ) (rows : Rows)
    → TellsNumbers graph book of
    → status_at book of i j ≡ Here → rows ≡ rows_at book of j → None ≡ span_of graph i j
    → document (documents.document of rows) ∷ [] ≡ contents_of book of (i, j)
unfolding contents_of
whole_contents graph book of i j rows is here same found = by (i == 0) refl
  where
    by : (b : Bool) → (i == 0) ≡ b
        → document (documents.document of rows) ∷ []
        ≡ (if b then document (document_at book of j) ∷ [] else edge_content book of form.Merge i j
        ∷ edge_content book of form.Operations i j ∷ [])
    by true h = λ n. document (documents.document of (same n)) ∷ []
    by false h =
        let none : None ≡ Some (keys_between book of i j) = found ∙ is.step i j (not_zero i h) here in
        cc

-- and else both patches by its keys
pub patch_contents : (graph : GraphData) (book : Book) (of : Resource) (i j : ℕ) (before rows : Rows) (keys : List Key)
    → TellsNumbers graph book of
    → status_at book of i j ≡ Here → before ≡ rows_at book of i → rows ≡ rows_at book of j
    → Some keys ≡ span_of graph i j
    → patch form.Merge of before rows keys ∷ patch form.Operations of before rows keys ∷ [] ≡ contents_of book of (i, j)
unfolding contents_of
patch_contents graph book of i j before rows keys is here began same found = by (i == 0) refl
  where
    low : 1 ≤ i
    low = low_of_span graph book of i j keys is found

    between : keys ≡ keys_between book of i j
    between = let there : Some keys ≡ Some (keys_between book of i j) = found ∙ is.step i j low here in cc

    by : (b : Bool) → (i == 0) ≡ b
        → patch form.Merge of before rows keys ∷ patch form.Operations of before rows keys ∷ []
        ≡ (if b then document (document_at book of j) ∷ []
        else (if b then document (document_at book of j) else patch form.Merge of (rows_at book of i)
        (rows_at book of j) (keys_between book of i j))
        ∷ (if b then document (document_at book of j) else patch form.Operations of (rows_at book of i)
        (rows_at book of j) (keys_between book of i j)) ∷ [])
    by true h = absurd (omega (arith, low, is_zero i h))
    by false h =
        λ n. patch form.Merge of (began n) (same n) (between n) ∷ patch form.Operations of (began n) (same n)
        (between n) ∷ []
