-- What is kept as text of the numbers of a resource: documents, and patches of edges.
use Rattle.std.specs.Prelude.{◌≡◌, ℕ, ◌≤◌, List, Some, All}
use Rattle.serde_json.specs.Written.{compact_text}
use Rattle.alto_rows.specs.declared.key.Key.{Key}
use Rattle.alto_rows.specs.declared.resource.Resource.{Resource}
use Rattle.alto_rows.specs.Good.{AreGood}
use Rattle.alto_rows.specs.Rows.{Rows}
use Rattle.doc_pieces.specs.Pieces.{Pieces}
use Rattle.edge_patch.specs.declared.form.PatchForm.{PatchForm}
use Rattle.edge_patch.specs.declared.form.PatchForm.TheVariants as form
use Rattle.tips_graph.specs.Graph.{GraphData, Push, rows_at, span_of}
use Rattle.tips_graph.specs.Sound.{IsSound}
use Rattle.alto_book.specs.Walks.{content_data, patch}
use Rattle.alto_versions.specs.Texts.{map_pieces}

-- a patch in both forms, under the number from which it leads
pub record PatchTexts : Type 0 where
  pub from : ℕ
  pub merge : List ℕ
  pub operations : List ℕ

-- a number of a resource, with the pieces of its document, and the patches that lead to it
pub record NumberTexts : Type 0 where
  pub number : ℕ
  pub document : Pieces
  pub patches : List PatchTexts

-- the text of a patch in a form
abbrev pub text_in_form : PatchTexts → PatchForm → List ℕ
text_in_form texts form.Merge = texts.merge
text_in_form texts form.Operations = texts.operations

-- pieces are those of a resource's document at a number, where its graph keeps the number
abbrev pub IsDocumentAt : GraphData → Resource → ℕ → Pieces → Type 0
IsDocumentAt graph of number pieces =
    (rows : Rows) → rows_at graph number ≡ Some rows → pieces ≡ map_pieces rows of

-- a text is that of the patch of an edge between two numbers in a form, where the edge can be had
abbrev pub IsPatchText : GraphData → Resource → PatchForm → ℕ → ℕ → List ℕ → Type 0
IsPatchText graph of form i j text = (before later : Rows) (keys : List Key)
    → rows_at graph i ≡ Some before → rows_at graph j ≡ Some later → span_of graph i j ≡ Some keys
    → text ≡ compact_text (content_data (patch form of before later keys))

-- texts are those of a number that the graph has reached
pub record AreTextsAt (graph : GraphData) (of : Resource) (texts : NumberTexts) : Type 0 where
  pub reached : texts.number ≤ graph.last
  pub document : IsDocumentAt graph of texts.number texts.document
  pub patches : All (λ patch. (form : PatchForm)
      → IsPatchText graph of form patch.from texts.number (text_in_form patch form)) texts.patches

-- a graph whose rows are good, with texts of its numbers
pub record HasTexts (graph : GraphData) (of : Resource) (texts : List NumberTexts) : Type 0 where
  pub sound : IsSound graph
  pub good : All (λ (push : Push). AreGood push.rows) graph.kept
  pub each : All (AreTextsAt graph of) texts
