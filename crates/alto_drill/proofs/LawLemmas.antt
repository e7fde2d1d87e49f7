-- No edge of a legal book fails.
use Rattle.std.proofs.Common.{◌≡◌, ℕ, ◌≤◌, ◌==◌, Bool, true, false, List, [], ◌∷◌, ◌++◌, map, Option, Some, Result, Ok}
use Rattle.std.proofs.Common.{Err, if◌then◌else◌, bytes_eq, refl, ap, ◌∙◌, arith}
use Rattle.std.proofs.lemmas.Bool.Decides.{nat_tests}
use Rattle.std.specs.List.{AllByRecursion}
use Rattle.std.specs.Prelude.{◌&&◌}
use Rattle.std.specs.Result.{result_ok}
use Rattle.serde_json.specs.Data.{Data}
use Rattle.serde_json.specs.Written.{compact_text}
use Rattle.json_patch.specs.Merge.{merge_patched}
use Rattle.json_patch.specs.Operations.{and_then}
use Rattle.json_patch.specs.declared.operations.patch_fault.PatchFault.{PatchFault}
use Rattle.alto_rows.specs.declared.key.Key.{Key}
use Rattle.alto_rows.specs.declared.resource.Resource.{Resource}
use Rattle.alto_rows.specs.Rows.{Rows}
use Rattle.alto_rows.specs.Versions.{is_declared, version_of}
use Rattle.edge_patch.specs.Documents as documents
use Rattle.edge_patch.specs.Merge.{merge_form}
use Rattle.edge_patch.specs.OperationForm.{operation_form}
use Rattle.edge_patch.specs.declared.form.PatchForm.{PatchForm}
use Rattle.edge_patch.specs.declared.form.PatchForm.TheVariants as form
use Rattle.tips_graph.specs.declared.status.EdgeStatus.TheVariants.{Here}
use Rattle.tips_graph.specs.Graph.{keeps}
use Rattle.alto_maps.proofs.SetLemmas.{itself}
use Rattle.alto_book.specs.Book.{Book, rows_of}
use Rattle.alto_book.specs.Legal.{IsLegal}
use Rattle.alto_book.specs.NumberLaws.{TellsNumbers}
use Rattle.alto_book.specs.Numbers.{keys_between, rows_at, status_at, updates_graph}
use Rattle.alto_book.specs.Walks.{document_at, Edge, edge_content, held_after, IsAnswered, patch}
use Rattle.alto_book.proofs.AcceptanceLemmas.{extends_itself}
use Rattle.alto_book.proofs.TellLemmas.{graph_tells}
use Rattle.alto_book.proofs.WalkLemmas.{walks_lead_on}
use Rattle.alto_drill.specs.Drilled.{failures_in, trials_of}
use Rattle.alto_drill.specs.Edges.{edges_by, edges_of}
use Rattle.alto_drill.specs.Trials.{all_lead, contents_of, has_text, leads_on, reached, reached_by_merge}
use Rattle.alto_drill.specs.Trials.{reached_by_operations, read_back, TrialData, with_edges, with_resource}
use Rattle.alto_drill.proofs.EdgeLemmas.{all_here, AreHere}
use Rattle.alto_drill.proofs.TreeLemmas.{document_reads}

-- ---- one edge

ended : (result : Result Data PatchFault) (d : Data) → and_then (λ next. Ok next) result ≡ Ok d → result ≡ Ok d
ended (Ok e) d h = h
ended (Err fault) d h = cc

-- an available edge leads from document to document
edge_steps : (book : Book) (of : Resource) (form : PatchForm) (i j : ℕ) → IsLegal book
    → is_declared (rows_of book) of ≡ true → status_at book of i j ≡ Here
    → held_after (document_at book of i) (edge_content book of form i j) ≡ Ok (document_at book of j)
edge_steps book of form i j legal declared here =
    let edge : Edge = record { i = i; j = j; form = form; content = edge_content book of form i j } in
    let answered : IsAnswered book of edge =
    record { look = book; extends = extends_itself book; declared = declared; here = here; content = refl } in
    ended (held_after (document_at book of i) (edge_content book of form i j)) (document_at book of j)
    (walks_lead_on book of i j edge [] (document_at book of i) legal (refl, answered, refl) (λ some. refl))

same_text : (text : List ℕ) → bytes_eq text text ≡ true
same_text text = itself text

-- a client that has come to the document has its text
has_come : (d : Data) (reached : Option Data) → reached ≡ Some d → has_text (compact_text d) reached ≡ true
has_come d reached is = rw is (same_text (compact_text d))

patch_leads : (form : PatchForm) (of : Resource) (before later : Rows) (keys : List Key)
    → read_back (documents.document of before) ≡ Some (documents.document of before)
    → held_after (documents.document of before) (patch form of before later keys) ≡ Ok (documents.document of later)
    → has_text (compact_text (documents.document of later))
    (reached (documents.document of before) (patch form of before later keys)) ≡ true
unfolding reached
patch_leads form.Merge of before later keys reads steps =
    let change = merge_form of later keys in
    let there : merge_patched (documents.document of before) change ≡ documents.document of later = cc in
    has_come (documents.document of later) (reached_by_merge change (read_back (documents.document of before)))
    (ap (reached_by_merge change) reads ∙ ap (λ (d : Data). Some d) there)
patch_leads form.Operations of before later keys reads steps =
    let changes = operation_form of before later keys in
    has_come (documents.document of later) (reached_by_operations changes (read_back (documents.document of before)))
    (ap (reached_by_operations changes) reads ∙ ap (λ (r : Result Data PatchFault). result_ok r) steps)

both_true : (a b : Bool) → a ≡ true → b ≡ true → (a && (b && true)) ≡ true
both_true a b p q = rw (p, q) refl

not_zero : (i : ℕ) → (i == 0) ≡ false → 1 ≤ i
not_zero i h = grind (arith, nat_tests)

edge_leads : (book : Book) (of : Resource) (i j : ℕ) → IsLegal book → is_declared (rows_of book) of ≡ true
    → status_at book of i j ≡ Here
    → leads_on book of (i, j) ≡ true
unfolding leads_on contents_of all_lead reached
edge_leads book of i j legal declared here = by (i == 0) refl
  where
    is : TellsNumbers (updates_graph book of) book of
    is = graph_tells book of legal declared

    reads : (n : ℕ) → keeps (updates_graph book of) n ≡ true
        → read_back (document_at book of n) ≡ Some (document_at book of n)
    reads n kept = ap result_ok (document_reads of (rows_at book of n) (is.good n) (is.declared n kept))

    by : (b : Bool) → (i == 0) ≡ b → leads_on book of (i, j) ≡ true
    by true e =
        let come = has_come (document_at book of j) (read_back (document_at book of j)) (reads j (is.leads i j here)) in
        rw (e, come) refl
    by false e =
        let low : 1 ≤ i = not_zero i e in
        let held = reads i (is.begins i j low here) in
        let merge = edge_steps book of form.Merge i j legal declared here in
        let operations = edge_steps book of form.Operations i j legal declared here in
        let rows = rows_at book of i in
        let later = rows_at book of j in
        let keys = keys_between book of i j in
        rw e
        (both_true _ _ (patch_leads form.Merge of rows later keys held (rw e at merge))
        (patch_leads form.Operations of rows later keys held (rw e at operations)))

-- ---- all edges

abbrev AreTrue : List Bool → Type 0
AreTrue leads = AllByRecursion (λ b. b ≡ true) leads

true_append : (first second : List Bool) → AreTrue first → AreTrue second → AreTrue (first ++ second)
true_append [] second a b = b
true_append (lead ∷ first) second a b = (a.0, true_append first second a.1 b)

none_fails : (leads : List Bool) → AreTrue leads → failures_in leads ≡ 0
unfolding failures_in
none_fails [] h = refl
none_fails (lead ∷ leads) h = rw h.0 (none_fails leads h.1)

all_lead_on : (book : Book) (of : Resource) (edges : List (ℕ × ℕ)) → IsLegal book → is_declared (rows_of book) of ≡ true
    → AreHere (status_at book of) edges
    → AreTrue (map (leads_on book of) edges)
all_lead_on book of [] legal declared here = tt
all_lead_on book of (edge ∷ edges) legal declared here =
    (edge_leads book of edge.0 edge.1 legal declared here.0, all_lead_on book of edges legal declared here.1)

resource_leads : (book : Book) (of : Resource) → IsLegal book → AreTrue (map (leads_on book of) (edges_of book of))
resource_leads book of legal = by (is_declared (rows_of book) of) refl
  where
    by : (b : Bool) → is_declared (rows_of book) of ≡ b
        → AreTrue (map (leads_on book of)
        (if b then edges_by (status_at book of) (version_of (rows_of book) of) else []))
    by true declared =
        all_lead_on book of (edges_by (status_at book of) (version_of (rows_of book) of)) legal declared
        (all_here (status_at book of) (version_of (rows_of book) of))
    by false declared = tt

more_true : (book : Book) (of : Resource) (trials : TrialData) → IsLegal book → AreTrue trials.leads
    → AreTrue (with_resource book of trials).leads
unfolding with_resource with_edges
more_true book of trials legal h = true_append trials.leads (map (leads_on book of) (edges_of book of))
    h (resource_leads book of legal)

-- no edge of a legal book's drill fails
pub none_fail : (book : Book) → IsLegal book → failures_in (trials_of book).leads ≡ 0
unfolding trials_of
none_fail book legal =
    none_fails (trials_of book).leads
    (more_true book _ _ legal (more_true book _ _
    legal (more_true book _ (record { bodies = []; leads = [] }) legal tt)))
