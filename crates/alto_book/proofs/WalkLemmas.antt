-- Bodies stay, and walks lead on.
use Rattle.std.proofs.Common.{◌≡◌, ℕ, ◌≤◌, refl, ap, sym, ◌∙◌, arith}
use Rattle.std.proofs.lemmas.Bool.Decides.{nat_tests}
use Rattle.std.specs.Prelude.{Bool, true, false, ◌==◌, List, [], ◌∷◌}
use Rattle.serde_json.specs.Data.{Data}
use Rattle.alto_rows.specs.declared.resource.Resource.{Resource}
use Rattle.alto_rows.specs.Rows.{Rows}
use Rattle.alto_rows.specs.Versions.{version_of}
use Rattle.net_docs.specs.Differ.{DifferBy}
use Rattle.edge_patch.specs.Documents as documents
use Rattle.edge_patch.specs.declared.form.PatchForm.{PatchForm}
use Rattle.edge_patch.specs.declared.form.PatchForm.TheVariants as form
use Rattle.alto_book.specs.Book.{Book, rows_of}
use Rattle.alto_book.specs.Legal.{IsLegal}
use Rattle.alto_book.specs.NumberLaws.{AreNumbers}
use Rattle.alto_book.specs.Numbers.{rows_at, keys_between, batches_to, first_kept}
use Rattle.alto_book.proofs.EarlierLemmas.{earlier_is_legal}
use Rattle.alto_book.proofs.MapLemmas.{numbers_differ}
use Rattle.alto_book.proofs.PushLemmas.{between}
use Rattle.alto_book.proofs.StayLemmas.{rows_at_stay, keys_between_stay}
use Rattle.alto_book.proofs.TellLemmas.{LeadsOn, leads_on}
use Rattle.alto_book.specs.WalkLaws.{BodiesStay, WalksLeadOn}
use Rattle.alto_book.specs.Walks.{document_at, document, edge_content, Edge, held_after, followed, IsAnswered, IsWalk}
use Rattle.alto_book.specs.Walks.{patch}
use Rattle.edge_patch.proofs.StepLemmas.{step_leads_on, step_operates}
use Rattle.json_patch.specs.Operations.{and_then}
use Rattle.std.specs.Prelude.{Ok}
use Rattle.alto_rows.specs.declared.key.Key.{Key}

from_a_number : (i : ℕ) → (i == 0) ≡ false → 1 ≤ i
from_a_number i not_zero = grind (arith, nat_tests)

-- ---- an edge that was answered

-- what holds of the edge in the book where it was answered, and of the numbers at its ends in a later one
record Stays (book : Book) (of : Resource) (edge : Edge) (look : Book) : Type 0 where
  rows : rows_at book of edge.j ≡ rows_at look of edge.j
  before : 1 ≤ edge.i → rows_at book of edge.i ≡ rows_at look of edge.i
  keys : 1 ≤ edge.i → keys_between book of edge.i edge.j ≡ keys_between look of edge.i edge.j
  numbers : 1 ≤ edge.i → AreNumbers look of edge.i edge.j

stays : (book : Book) (of : Resource) (edge : Edge) → IsLegal book → (a : IsAnswered book of edge)
    → Stays book of edge a.look
stays book of edge legal a = record {
  rows = rows_at_stay a.look book of edge.j was_legal legal a.extends (omega (arith, leads.low)) leads.high;
  before = λ some. rows_at_stay a.look book of edge.i was_legal legal a.extends (omega (arith, leads.from some))
      (omega (arith, leads.onward, leads.high));
  keys = λ some. keys_between_stay a.look book of edge.i edge.j was_legal legal
      a.extends (omega (arith, leads.from some)) (omega (arith, leads.onward, leads.high))
      (omega (arith, leads.low)) leads.high;
  numbers = λ some. record {
    legal = was_legal;
    declared = a.declared;
    from = omega (arith, leads.from some);
    rise = omega (arith, leads.onward);
    upto = leads.high;
  };
}
  where
    was_legal : IsLegal a.look
    was_legal = earlier_is_legal a.look book legal a.extends

    leads : LeadsOn (first_kept a.look of) (version_of (rows_of a.look) of) edge.i edge.j
    leads = leads_on (first_kept a.look of) (version_of (rows_of a.look) of) edge.i edge.j a.here

-- ---- what edges hold

pub bodies_stay : BodiesStay
bodies_stay book of edge legal a = a.content ∙ by (edge.i == 0) refl
  where
    it : Stays book of edge a.look
    it = stays book of edge legal a

    by : (b : Bool) → (edge.i == 0) ≡ b
        → edge_content a.look of edge.form edge.i edge.j ≡ edge_content book of edge.form edge.i edge.j
    by true e = rw e (ap (λ (rows : Rows). document (documents.document of rows)) (sym it.rows))
    by false e =
        let some : 1 ≤ edge.i = from_a_number edge.i e in
        rw e (λ n. patch edge.form of (sym (it.before some) n) (sym it.rows n) (sym (it.keys some) n))

-- ---- walks

-- the rows at the ends of an edge that was answered differ by its keys
edge_differs : (book : Book) (of : Resource) (edge : Edge) → IsLegal book → (a : IsAnswered book of edge) → 1 ≤ edge.i
    → DifferBy (keys_between book of edge.i edge.j) (rows_at book of edge.i) (rows_at book of edge.j) of
edge_differs book of edge legal a some = rw (it.keys some, it.before some, it.rows) differ
  where
    it : Stays book of edge a.look
    it = stays book of edge legal a

    numbers : AreNumbers a.look of edge.i edge.j
    numbers = it.numbers some

    differ : DifferBy (keys_between a.look of edge.i edge.j) (rows_at a.look of edge.i) (rows_at a.look of edge.j) of
    differ =
        let all = between a.look of edge.i edge.j numbers in
        numbers_differ a.look of edge.i edge.j numbers.legal (omega (arith, numbers.from)) numbers.rise numbers.upto
        (all.declared (batches_to a.look of edge.i) (omega arith) all.first.within)

-- a patch between rows that differ at its keys leads from document to document, in either form
patch_leads_on : (form : PatchForm) (of : Resource) (before later : Rows) (keys : List Key)
    → DifferBy keys before later of
    → held_after (documents.document of before) (patch form of before later keys) ≡ Ok (documents.document of later)
patch_leads_on form.Merge of before later keys differ =
    ap (λ (d : Data). Ok d) (step_leads_on of before later keys differ)
patch_leads_on form.Operations of before later keys differ = step_operates of before later keys differ

-- one edge leads a client that holds the document at its beginning to the document at its end
edge_leads_on : (book : Book) (of : Resource) (edge : Edge) (held : Data) → IsLegal book → IsAnswered book of edge
    → (1 ≤ edge.i → held ≡ document_at book of edge.i) → held_after held edge.content ≡ Ok (document_at book of edge.j)
edge_leads_on book of edge held legal a start = ap (held_after held) (bodies_stay book of edge legal a)
    ∙ by (edge.i == 0) refl
  where
    by : (b : Bool) → (edge.i == 0) ≡ b
        → held_after held (edge_content book of edge.form edge.i edge.j) ≡ Ok (document_at book of edge.j)
    by true e = rw e refl
    by false e =
        let some : 1 ≤ edge.i = from_a_number edge.i e in
        rw (e, start some)
        (patch_leads_on edge.form of (rows_at book of edge.i) (rows_at book of edge.j)
        (keys_between book of edge.i edge.j) (edge_differs book of edge legal a some))

-- edges in turn
edges_lead_on : (book : Book) (of : Resource) (from at : ℕ) (edges : List Edge) (held : Data) → IsLegal book
    → IsWalk book of from edges at → held ≡ document_at book of from → followed held edges ≡ Ok (document_at book of at)
edges_lead_on book of from at [] held legal walk same = ap (λ (d : Data). Ok d) (same ∙ ap (document_at book of) walk)
edges_lead_on book of from at (edge ∷ edges) held legal walk same =
    ap (and_then (λ next. followed next edges))
    (edge_leads_on book of edge held legal walk.1 (λ some. same ∙ ap (document_at book of) (sym walk.0)))
    ∙ edges_lead_on book of edge.j at edges (document_at book of edge.j) legal walk.2 refl

pub walks_lead_on : WalksLeadOn
walks_lead_on book of from at first edges held legal walk start =
    ap (and_then (λ next. followed next edges))
    (edge_leads_on book of first held legal walk.1 (λ some. start (rw (← walk.0) some)
    ∙ ap (document_at book of) (sym walk.0)))
    ∙ edges_lead_on book of first.j at edges (document_at book of first.j) legal walk.2 refl
