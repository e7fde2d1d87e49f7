-- The document at the last number of a resource is that of the rows now.
use Rattle.std.proofs.Common.{◌≡◌, ℕ, suc, ◌≤◌, ◌<◌, refl, ap, ap₂, sym, ◌∙◌, arith}
use Rattle.std.specs.Prelude.{true, List, [], Option, Some, Result, Ok, length}
use Rattle.serde_json.specs.Data.{Data}
use Rattle.json_patch.specs.Operations.{Operation, operations_applied}
use Rattle.json_patch.specs.declared.operations.patch_fault.PatchFault.{PatchFault}
use Rattle.net_docs.specs.Differ.{DifferBy}
use Rattle.alto_rows.specs.declared.resource.Resource.{Resource}
use Rattle.alto_rows.specs.Ids.{resource_named}
use Rattle.alto_rows.specs.declared.key.Key.TheVariants as key
use Rattle.alto_rows.specs.Rows.{Rows, value_of}
use Rattle.alto_rows.specs.Versions.{is_declared, version_of}
use Rattle.edge_patch.specs.Documents as documents
use Rattle.edge_patch.specs.OperationForm.{operation_form}
use Rattle.edge_patch.specs.declared.form.PatchForm.{PatchForm}
use Rattle.edge_patch.proofs.LawLemmas.{untouched}
use Rattle.edge_patch.proofs.StepLemmas.{step_operates}
use Rattle.tips_graph.specs.Graph.{GraphData, last_of, status_of}
use Rattle.tips_graph.specs.declared.status.EdgeStatus.{EdgeStatus}
use Rattle.tips_graph.specs.declared.status.EdgeStatus.TheVariants.{Here}
use Rattle.alto_book.specs.Book.{Book, rows_of, state_at}
use Rattle.alto_book.specs.Legal.{IsLegal}
use Rattle.alto_book.specs.NumberLaws.{TellsNumbers}
use Rattle.alto_book.specs.Numbers.{batches_to, rows_at}
use Rattle.alto_book.proofs.DeclaredLemmas.{declared_since, number_declared_below}
use Rattle.alto_book.proofs.MapLemmas.{none_written_between, origin_below, same_between, same_epoch}
use Rattle.alto_book.proofs.NumberLemmas.{version_of-later}
use Rattle.alto_book.proofs.PlaceLemmas.{IsReached, reached}
use Rattle.alto_book.proofs.StateLemmas.{good_rows, good_state, state_at-all}
use Rattle.alto_versions.specs.Front.{Version, StandsFor, graph_in}
use Rattle.alto_replies.specs.Replies.{document_reply}
use Rattle.alto_replies.specs.Reply.{ReplyData}
use Rattle.alto_answers.specs.declared.outcome.Answer.TheVariants as answer
use Rattle.alto_answers.specs.Edges.{edge_by, edge_number, edge_reply, named_edge, numbered_edge}
use Rattle.alto_answers.specs.Types.{media_type_of}
use Rattle.alto_answers.proofs.EdgeLemmas.{graph_some}
use Rattle.alto_answers.proofs.NamedLemmas.{named_declared}

-- from the last number of a declared resource on, no batch wrote a key that touches it
differ_by_none : (book : Book) (of : Resource) → IsLegal book → is_declared (rows_of book) of ≡ true
    → is_declared (rows_at book of (version_of (rows_of book) of)) of ≡ true
    → DifferBy [] (rows_at book of (version_of (rows_of book) of)) (rows_of book) of
differ_by_none book of legal declared before = record {
  good = good_state book place legal;
  good_behind = good_rows book legal;
  epoch = same_epoch book place end legal ∙ ap (λ (rows : Rows). value_of rows key.Epoch) all;
  same = λ at t none.
      same_between book of place end at legal it.within t
      (none_written_between book of place end at legal it.within it.within here (now ∙ sym it.version))
      ∙ ap (λ (rows : Rows). value_of rows at) all;
  before = before;
  behind = declared;
}
  where
    end : ℕ
    end = length book.batches

    place : ℕ
    place = batches_to book of (version_of (rows_of book) of)

    all : state_at book end ≡ rows_of book
    all = state_at-all book

    it : IsReached book of (version_of (rows_of book) of)
    it = reached book of (version_of (rows_of book) of) legal (origin_below book of legal declared) (omega arith)

    now : version_of (state_at book end) of ≡ version_of (rows_of book) of
    now = ap (λ (rows : Rows). version_of rows of) all

    here : (m : ℕ) → place ≤ m → m < end → is_declared (state_at book (suc m)) of ≡ true
    here m le less =
        let rises : version_of (state_at book place) of ≤ version_of (state_at book (suc m)) of =
        version_of-later book place (suc m) of legal (omega (arith, le)) in
        declared_since book of (suc m) legal (omega (arith, less)) declared
        (omega (arith, rises, it.version, number_declared_below book of legal))

-- what is Ok is one
one_ok : (outcome : Result Data PatchFault) (a b : Data) → outcome ≡ Ok a → outcome ≡ Ok b → a ≡ b
one_ok outcome a b first second = cc

none_applied : (d : Data) → operations_applied [] d ≡ Ok d
unfolding operations_applied
none_applied d = refl

-- rows that differ by no key have the same document: no operation leads from one to the other
same_document : (of : Resource) (before others : Rows) → DifferBy [] before others of
    → documents.document of others ≡ documents.document of before
same_document of before others differ =
    let none : operation_form of before others [] ≡ [] = (untouched of before others [] refl).1 in
    let applied = step_operates of before others [] differ in
    sym (one_ok (operations_applied [] (documents.document of before)) (documents.document of before)
    (documents.document of others) (none_applied (documents.document of before))
    (sym (ap (λ (changes : List Operation). operations_applied changes (documents.document of before)) none)
    ∙ applied))

-- so the edge from 0 to the last number holds the document of the rows now
newest_document : (graph : GraphData) (book : Book) (of : Resource) (form : PatchForm) → IsLegal book
    → is_declared (rows_of book) of ≡ true → TellsNumbers graph book of → status_of graph 0 (last_of graph) ≡ Here
    → document_reply (media_type_of of) (documents.document of (rows_of book))
    ≡ edge_reply book of form 0 (last_of graph)
newest_document graph book of form legal declared is here =
    let kept = is.leads 0 (last_of graph) (sym (is.status 0 (last_of graph)) ∙ here) in
    let there : is_declared (rows_at book of (version_of (rows_of book) of)) of ≡ true =
    ap (λ (number : ℕ). is_declared (rows_at book of number) of) (sym is.last) ∙ is.declared (last_of graph) kept in
    ap (document_reply (media_type_of of))
    (same_document of (rows_at book of (version_of (rows_of book) of)) (rows_of book)
    (differ_by_none book of legal declared there)
    ∙ ap (λ (number : ℕ). documents.document of (rows_at book of number)) (sym is.last))

-- so it is answered by the text that a version keeps of that document
pub newest_edge : (version : Version) (graph : GraphData) (book : Book) (of : Resource) (form : PatchForm)
    (text i j : List ℕ) (reply : ReplyData) → IsLegal book → StandsFor version book
    → Some graph ≡ graph_in version.graphs of → Some of ≡ resource_named version.rows text
    → edge_number i ≡ Some 0 → edge_number j ≡ Some (last_of graph) → status_of graph 0 (last_of graph) ≡ Here
    → reply ≡ document_reply (media_type_of of) (documents.document of version.rows)
    → answer.Reply reply ≡ named_edge book (resource_named (rows_of book) text) form i j
newest_edge version graph book of form text i j reply legal stands kept named from to here made =
    ap answer.Reply
    (made ∙ (ap (λ (rows : Rows). document_reply (media_type_of of) (documents.document of rows)) stands.current
    ∙ newest_document graph book of form legal declared is here))
    ∙ sym whole
  where
    is : TellsNumbers graph book of
    is = graph_some version book of graph legal stands kept

    declared : is_declared (rows_of book) of ≡ true
    declared =
        ap (λ (rows : Rows). is_declared rows of) (sym stands.current)
        ∙ named_declared version.rows text of named

    found : resource_named (rows_of book) text ≡ Some of
    found = ap (λ (rows : Rows). resource_named rows text) (sym stands.current) ∙ sym named

    whole : named_edge book (resource_named (rows_of book) text) form i j
        ≡ answer.Reply (edge_reply book of form 0 (last_of graph))
    whole =
        ap (λ (o : Option Resource). named_edge book o form i j) found
        ∙ (ap₂ (λ (a b : Option ℕ). numbered_edge book of form a b) from to
        ∙ ap (λ (status : EdgeStatus). edge_by status book of form 0 (last_of graph))
        (sym (is.status 0 (last_of graph)) ∙ here))
