-- How the trials of edges add up.
use Rattle.std.proofs.Common.{◌≡◌, ℕ, Bool, true, false, List, [], ◌∷◌, ◌++◌, map, Some, None, refl, ap, sym, ◌∙◌}
use Rattle.std.proofs.Common.{append_assoc}
use Rattle.std.proofs.lemmas.List.{append-nil, map-append}
use Rattle.std.proofs.lemmas.List.Concat.{flat_map-append}
use Rattle.std.specs.Prelude.{◌&&◌}
use Rattle.std.specs.List.{flat_map}
use Rattle.std.specs.Result.{result_ok}
use Rattle.serde_json.specs.Data.{Data}
use Rattle.serde_json.specs.Written.{compact_text}
use Rattle.json_tree.specs.Whole.{whole_value}
use Rattle.json_patch.specs.OperationList.{operations_data}
use Rattle.json_patch.specs.Operations.{Operation}
use Rattle.alto_rows.specs.declared.resource.Resource.{Resource}
use Rattle.alto_rows.specs.Versions.{is_declared}
use Rattle.tips_graph.specs.Graph.{GraphData}
use Rattle.alto_book.specs.Book.{Book, rows_of}
use Rattle.alto_book.specs.Legal.{IsLegal}
use Rattle.alto_book.specs.NumberLaws.{TellsNumbers}
use Rattle.alto_book.specs.Walks.{Content, document, document_at, merge_patch, operations}
use Rattle.alto_drill.specs.Trials.{all_lead, body_text, contents_of, edge_text, has_text, leads_on, reached}
use Rattle.alto_drill.specs.Trials.{reached_by_merge, reached_by_operations, read_back, TrialData, with_contents}
use Rattle.alto_drill.specs.Trials.{with_edges, with_resource}
use Rattle.alto_versions.specs.Front.{graph_in, StandsFor, Version}
use Rattle.alto_drill.specs.Edges.{edges_of}
use Rattle.alto_drill.proofs.EdgeLemmas.{graph_some, no_edges}

-- no edges add nothing
pub with_none : (book : Book) (of : Resource) (trials : TrialData) → trials ≡ with_edges book of [] trials
unfolding with_edges
with_none book of trials = λ n. record {
  bodies = sym (append-nil trials.bodies) n;
  leads = sym (append-nil trials.leads) n;
}

-- the trials of edges, and of one more
pub with_more : (book : Book) (of : Resource) (edges : List (ℕ × ℕ)) (edge : ℕ × ℕ) (trials : TrialData)
    → with_contents (document_at book of edge.0) (document_at book of edge.1) (contents_of book of edge)
    (with_edges book of edges trials)
    ≡ with_edges book of (edges ++ edge ∷ []) trials
unfolding with_contents with_edges leads_on edge_text
with_more book of edges edge trials = λ n. record { bodies = bodies n; leads = leads n }
  where
    bodies : (trials.bodies ++ flat_map (edge_text book of) edges) ++ edge_text book of edge
        ≡ trials.bodies ++ flat_map (edge_text book of) (edges ++ edge ∷ [])
    bodies =
        append_assoc trials.bodies (flat_map (edge_text book of) edges) (edge_text book of edge)
        ∙ ap (λ text. trials.bodies ++ text)
        (ap (λ text. flat_map (edge_text book of) edges ++ text) (sym (append-nil (edge_text book of edge)))
        ∙ sym (flat_map-append (edge_text book of) edges (edge ∷ [])))

    leads : (trials.leads ++ map (leads_on book of) edges) ++ leads_on book of edge ∷ []
        ≡ trials.leads ++ map (leads_on book of) (edges ++ edge ∷ [])
    leads =
        append_assoc trials.leads (map (leads_on book of) edges) (leads_on book of edge ∷ [])
        ∙ ap (λ more. trials.leads ++ more) (sym (map-append (leads_on book of) edges (edge ∷ [])))

and_true : (b : Bool) → b ≡ (b && true)
and_true true = refl
and_true false = refl

-- one document, whose text is added and read
pub with_document : (before later : Data) (trials : TrialData)
    → record {
      bodies = trials.bodies ++ compact_text later;
      leads = trials.leads ++ has_text (compact_text later)
          (read_back later) ∷ [];
    }
    ≡ with_contents before later (document later ∷ []) trials
unfolding with_contents all_lead reached
with_document before later trials = λ n. record {
  bodies = trials.bodies ++ sym (append-nil (compact_text later)) n;
  leads = trials.leads ++ and_true (has_text (compact_text later) (read_back later)) n ∷ [];
}

-- two bodies, whose texts are added in turn
pub with_two : (before later : Data) (first second : Content) (trials : TrialData)
    → record {
      bodies = (trials.bodies ++ body_text first) ++ body_text second;
      leads = trials.leads ++ (has_text (compact_text later) (reached before first) && has_text (compact_text later)
          (reached before second)) ∷ [];
    }
    ≡ with_contents before later (first ∷ second ∷ []) trials
unfolding with_contents all_lead
with_two before later first second trials = λ n. record {
  bodies = bodies n;
  leads = trials.leads ++ leads n ∷ [];
}
  where
    bodies : (trials.bodies ++ body_text first) ++ body_text second
        ≡ trials.bodies ++ flat_map body_text (first ∷ second ∷ [])
    bodies =
        append_assoc trials.bodies (body_text first) (body_text second)
        ∙ ap (λ text. trials.bodies ++ (body_text first ++ text)) (sym (append-nil (body_text second)))

    leads : (has_text (compact_text later) (reached before first) && has_text (compact_text later)
        (reached before second))
        ≡ all_lead before later (first ∷ second ∷ [])
    leads =
        ap (λ b. has_text (compact_text later) (reached before first) && b)
        (and_true (has_text (compact_text later) (reached before second)))

-- both patches between two documents, as they were written and tried
pub tried_both : (before later change : Data) (changes : List Operation) (trials after : TrialData)
    (start end merge ops : List ℕ) (leads : Bool)
    → start ≡ compact_text before → end ≡ compact_text later → merge ≡ compact_text change
    → ops ≡ compact_text (operations_data changes)
    → leads ≡ (has_text end (reached_by_merge change (result_ok (whole_value start)))
    && has_text end (reached_by_operations changes (result_ok (whole_value start))))
    → after ≡ record { bodies = (trials.bodies ++ merge) ++ ops; leads = trials.leads ++ leads ∷ [] }
    → after ≡ with_contents before later (merge_patch change ∷ operations changes ∷ []) trials
unfolding reached
tried_both before later change changes trials after start end merge ops leads s e m o l made =
    made
    ∙ (λ n. record { bodies = (trials.bodies ++ m n) ++ o n; leads = trials.leads ++ l n ∷ [] })
    ∙ (λ n. record {
      bodies = (trials.bodies ++ compact_text change) ++ compact_text (operations_data changes);
      leads =
          trials.leads
          ++ (has_text (e n) (reached_by_merge change (result_ok (whole_value (s n))))
          && has_text (e n) (reached_by_operations changes (result_ok (whole_value (s n))))) ∷ [];
    })
    ∙ with_two before later (merge_patch change) (operations changes) trials

-- ---- all edges of a resource

pub resource_all : (book : Book) (of : Resource) (edges : List (ℕ × ℕ)) (trials : TrialData) → edges ≡ edges_of book of
    → with_edges book of edges trials ≡ with_resource book of trials
unfolding with_resource
resource_all book of edges trials all = ap (λ (edges : List (ℕ × ℕ)). with_edges book of edges trials) all

-- a version that has no graph of a resource has no edges of it
pub resource_none : (version at : Version) (book : Book) (of : Resource) (trials : TrialData) → at ≡ version
    → StandsFor version book
    → None ≡ graph_in at.graphs of → trials ≡ with_resource book of trials
resource_none version at book of trials same stands none =
    with_none book of trials
    ∙ resource_all book of [] trials
    (sym (no_edges version book of stands (none ∙ ap (λ (v : Version). graph_in v.graphs of) same)))

-- a graph that it has tells the numbers of a declared resource
pub resource_some : (version at : Version) (book : Book) (of : Resource) (graph : GraphData) → at ≡ version
    → IsLegal book → StandsFor version book
    → Some graph ≡ graph_in at.graphs of → TellsNumbers graph book of × (is_declared (rows_of book) of ≡ true)
resource_some version at book of graph same legal stands found =
    graph_some version book of graph legal stands (found ∙ ap (λ (v : Version). graph_in v.graphs of) same)
