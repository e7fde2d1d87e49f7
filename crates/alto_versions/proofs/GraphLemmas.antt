-- The updates graphs of a book become those of the book with one batch more.
use Rattle.std.proofs.Common.{◌≡◌, refl, ap, sym, ◌∙◌, arith}
use Rattle.std.proofs.lemmas.Bool.Decides.{nat_tests}
use Rattle.std.specs.Prelude.{ℕ, ◌+◌, ◌-◌, Bool, true, false, cond, nat_lt, List, [], Option, Some, None}
use Rattle.alto_rows.specs.declared.resource.Resource.{Resource}
use Rattle.alto_rows.specs.declared.write.Write.{Write}
use Rattle.alto_rows.specs.Accepted.{Accepted}
use Rattle.alto_rows.specs.Good.{AreGood}
use Rattle.alto_rows.specs.Rows.{Rows}
use Rattle.alto_rows.specs.Versions.{is_declared, version_of, window_of}
use Rattle.tips_graph.proofs.GraphLaws.{one_push_more}
use Rattle.tips_graph.specs.Graph.{GraphData, graph_from, with_push}
use Rattle.alto_book.specs.Acceptance.{with_batch}
use Rattle.alto_book.specs.Book.{Book, Kept, rows_of}
use Rattle.alto_book.specs.Legal.{IsLegal}
use Rattle.alto_book.specs.Numbers.{renews, updates_graph}
use Rattle.alto_book.proofs.GraphLemmas.{with_batch_extends, version_of-with_batch, renews_newly, last-updates_graph}
use Rattle.alto_book.proofs.GraphLemmas.{updates_graph-renewed, updates_graph-other, updates_graph-declared}
use Rattle.alto_book.proofs.StayLemmas.{window_of-extended}
use Rattle.alto_book.proofs.TrimGraphLemmas.{updates_graph-base}
use Rattle.alto_versions.specs.Front.{graph_in, graphs_of}
use Rattle.alto_versions.specs.Graphs.{graph_after, push_after}
use Rattle.alto_versions.proofs.FoundLemmas.{graph_found}

higher : (a : ℕ) → nat_lt a (a + 1) ≡ true
higher a = grind (arith, nat_tests)

no_higher : (a : ℕ) → nat_lt a a ≡ false
no_higher a = grind (arith, nat_tests)

-- a graph whose last number is the version before becomes, by whether it rises, one with a push more or itself
graph_raised : (graph : GraphData) (of : Resource) (rows : Rows) (writes : List Write)
    → version_of rows of ≡ graph.last + 1
    → graph_after (Some graph) of rows writes ≡ with_push graph (push_after of rows writes)
graph_raised graph of rows writes h = rw (h, higher graph.last) refl

graph_stays : (graph : GraphData) (of : Resource) (rows : Rows) (writes : List Write) → version_of rows of ≡ graph.last
    → graph_after (Some graph) of rows writes ≡ graph
graph_stays graph of rows writes h = rw (h, no_higher graph.last) refl

-- the graph of a resource that was declared before a batch
declared_step : (book : Book) (batch : Accepted) (of : Resource) → IsLegal book → IsLegal (with_batch book batch)
    → is_declared (rows_of book) of ≡ true
    → graph_after (Some (updates_graph book of)) of (rows_of (with_batch book batch)) batch.writes
    ≡ updates_graph (with_batch book batch) of
declared_step book batch of legal legal_with declared = by (renews of batch) refl
  where
    by : (b : Bool) → renews of batch ≡ b
        → graph_after (Some (updates_graph book of)) of (rows_of (with_batch book batch)) batch.writes
        ≡ updates_graph (with_batch book batch) of
    by true e =
        graph_raised (updates_graph book of) of (rows_of (with_batch book batch)) batch.writes
        (version_of-with_batch book batch of legal_with
        ∙ (rw e (ap (λ (n : ℕ). n + 1) (sym (last-updates_graph book of legal declared)))))
        ∙ sym (updates_graph-renewed book batch of legal legal_with declared e)
    by false e =
        graph_stays (updates_graph book of) of (rows_of (with_batch book batch)) batch.writes
        (version_of-with_batch book batch of legal_with ∙ (rw e (sym (last-updates_graph book of legal declared))))
        ∙ sym (updates_graph-other book batch of legal legal_with declared e)

-- that of one that the batch declares
new_step : (book : Book) (batch : Accepted) (of : Resource) → IsLegal book → IsLegal (with_batch book batch)
    → is_declared (rows_of book) of ≡ false → is_declared (rows_of (with_batch book batch)) of ≡ true
    → graph_after None of (rows_of (with_batch book batch)) batch.writes ≡ updates_graph (with_batch book batch) of
new_step book batch of legal legal_with out now =
    ap (λ (window : ℕ). with_push (graph_from window (version_of rows of - 1) []) (push_after of rows batch.writes))
    (window_of-extended book (with_batch book batch) legal legal_with (with_batch_extends book batch))
    ∙ (ap (λ (n : ℕ). with_push (graph_from (window_of (rows_of book)) n []) (push_after of rows batch.writes)) before
    ∙ (one_push_more (window_of (rows_of book)) (version_of (rows_of book) of) [] (push_after of rows batch.writes)
    ∙ sym (updates_graph-declared book batch of legal legal_with out now)))
  where
    rows : Rows
    rows = rows_of (with_batch book batch)

    next : version_of rows of ≡ version_of (rows_of book) of + 1
    next = version_of-with_batch book batch of legal_with ∙ rw (renews_newly book batch of legal_with out now) refl

    before : version_of rows of - 1 ≡ version_of (rows_of book) of
    before = omega (arith, next)

-- that of one that a base declares, before any batch
pub base_step : (base : Rows) (receipts : List Kept) (of : Resource) → AreGood base → is_declared base of ≡ true
    → graph_after None of base [] ≡ updates_graph (record { base = base; receipts = receipts; batches = [] }) of
base_step base receipts of good declared =
    one_push_more (window_of base) (version_of base of - 1) [] (push_after of base [])
    ∙ sym (updates_graph-base base receipts of good declared)

-- the graph of a resource that is declared after a batch, from that which it had before, if it had one
pub graph_step : (book : Book) (batch : Accepted) (of : Resource) → IsLegal book → IsLegal (with_batch book batch)
    → is_declared (rows_of (with_batch book batch)) of ≡ true
    → graph_after (graph_in (graphs_of book) of) of (rows_of (with_batch book batch)) batch.writes
    ≡ updates_graph (with_batch book batch) of
graph_step book batch of legal legal_with now =
    ap (λ (graph : Option GraphData). graph_after graph of (rows_of (with_batch book batch)) batch.writes)
    (graph_found book of)
    ∙ by (is_declared (rows_of book) of) refl
  where
    by : (b : Bool) → is_declared (rows_of book) of ≡ b
        → graph_after (cond b (Some (updates_graph book of)) None) of (rows_of (with_batch book batch)) batch.writes
        ≡ updates_graph (with_batch book batch) of
    by true e = declared_step book batch of legal legal_with e
    by false e = new_step book batch of legal legal_with e now
