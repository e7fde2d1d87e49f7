-- Resources in order get their graphs from graphs in order, along one walk over both.
use Rattle.std.proofs.Common.{◌≡◌, refl, ap, sym, ◌∙◌, arith}
use Rattle.std.proofs.lemmas.List.{append-nil, append_assoc}
use Rattle.std.proofs.lemmas.Map.Keys.{sorted_head, sorted_tail}
use Rattle.std.specs.Prelude.{Bool, true, false, List, [], ◌∷◌, ◌++◌, length, map, Option, None}
use Rattle.std.specs.List.{AllByRecursion}
use Rattle.std.specs.List.Sorted.{IsStrictlySortedBy}
use Rattle.std.specs.Map.{keys_of}
use Rattle.std.specs.Ordering.{is_eq, is_lt, ordering_reverse}
use Rattle.std.specs.declared.cmp.Ordering.{Ordering}
use Rattle.std.specs.declared.cmp.Ordering.TheVariants.{Less, Equal, Greater}
use Rattle.alto_rows.specs.declared.resource.Resource.{Resource}
use Rattle.alto_rows.specs.declared.write.Write.{Write}
use Rattle.alto_rows.proofs.OrderLemmas.{resource_cmp_total}
use Rattle.alto_rows.proofs.ResourceLemmas.{resources_sorted}
use Rattle.alto_rows.specs.Accepted.{Accepted}
use Rattle.alto_rows.specs.Good.{AreGood}
use Rattle.alto_rows.specs.Order.{resource_cmp}
use Rattle.alto_rows.specs.Rows.{Rows}
use Rattle.alto_rows.specs.Versions.{is_declared, resources_of}
use Rattle.tips_graph.specs.Graph.{GraphData}
use Rattle.alto_book.specs.Acceptance.{with_batch}
use Rattle.alto_book.specs.Book.{Book, rows_of}
use Rattle.alto_book.specs.Legal.{IsLegal}
use Rattle.alto_book.specs.Numbers.{updates_graph}
use Rattle.alto_book.proofs.StateLemmas.{good_rows}
use Rattle.alto_versions.specs.Front.{graph_in, graphs_of}
use Rattle.alto_versions.specs.Graphs.{graph_after, graphs_from, leading_graph}
use Rattle.alto_versions.proofs.GraphLemmas.{base_step, graph_step}
use Rattle.alto_versions.proofs.ResourceLemmas.{resources_declared}

-- graphs are in the order of their resources
abbrev AreOrdered : List (Resource × GraphData) → Type 0
AreOrdered graphs = IsStrictlySortedBy resource_cmp (keys_of graphs)

less_of_test : (o : Ordering) → is_lt o ≡ true → o ≡ Less
less_of_test Less h = refl
less_of_test Equal h = cc
less_of_test Greater h = cc

-- an earlier resource is another
earlier_apart : (one earlier : Resource) → resource_cmp earlier one ≡ Less → is_eq (resource_cmp one earlier) ≡ false
earlier_apart one earlier less = rw (resource_cmp_total.antisymm one earlier, less) refl

-- so is a later one
later_apart : (one later : Resource) → resource_cmp one later ≡ Less → is_eq (resource_cmp one later) ≡ false
later_apart one later less = rw less refl

-- where graphs begin no earlier, the graph of a resource is found as before
found_from : (graphs : List (Resource × GraphData)) (of one : Resource)
    → ((earlier : Resource) → resource_cmp earlier of ≡ Less → is_eq (resource_cmp one earlier) ≡ false)
    → graph_in (graphs_from graphs of) one ≡ graph_in graphs one
found_from [] of one apart = refl
found_from (entry ∷ rest) of one apart = by (is_lt (resource_cmp entry.0 of)) refl (found_from rest of one apart)
  where
    by : (b : Bool) → is_lt (resource_cmp entry.0 of) ≡ b → graph_in (graphs_from rest of) one ≡ graph_in rest one
        → graph_in (graphs_from (entry ∷ rest) of) one ≡ graph_in (entry ∷ rest) one
    by true e below = rw (e, apart entry.0 (less_of_test (resource_cmp entry.0 of) e)) below
    by false e below = rw e refl

-- graphs of later resources have none of a resource
none_later : (graphs : List (Resource × GraphData)) (of first : Resource) → resource_cmp of first ≡ Less
    → AllByRecursion (λ later. resource_cmp first later ≡ Less) (keys_of graphs) → graph_in graphs of ≡ None
none_later [] of first less h = refl
none_later (entry ∷ rest) of first less h =
    rw (later_apart of entry.0 (resource_cmp_total.trans of first entry.0 less h.0)) (none_later rest of first less h.1)

-- a resource that is neither before nor at another is after it
after_both : (o : Ordering) → is_lt o ≡ false → is_eq (ordering_reverse o) ≡ false → ordering_reverse o ≡ Less
after_both Less h g = cc
after_both Equal h g = cc
after_both Greater h g = refl

-- graphs that begin no earlier begin with that of the resource, where it has one
leads : (graphs : List (Resource × GraphData)) (of : Resource) → AreOrdered graphs
    → leading_graph (graphs_from graphs of) of ≡ graph_in graphs of
leads [] of s = refl
leads (entry ∷ rest) of s =
    by (is_lt (resource_cmp entry.0 of)) refl (is_eq (resource_cmp of entry.0)) refl
    (leads rest of (sorted_tail resource_cmp entry.0 (keys_of rest) s))
    (sorted_head resource_cmp entry.0 (keys_of rest) s)
  where
    by : (b : Bool) → is_lt (resource_cmp entry.0 of) ≡ b → (c : Bool) → is_eq (resource_cmp of entry.0) ≡ c
        → leading_graph (graphs_from rest of) of ≡ graph_in rest of
        → AllByRecursion (λ later. resource_cmp entry.0 later ≡ Less) (keys_of rest)
        → leading_graph (graphs_from (entry ∷ rest) of) of ≡ graph_in (entry ∷ rest) of
    by true e c f below later = rw (e, earlier_apart of entry.0 (less_of_test (resource_cmp entry.0 of) e)) below
    by false e true f below later = rw (e, f) refl
    by false e false f below later =
        let turned : resource_cmp of entry.0 ≡ ordering_reverse (resource_cmp entry.0 of) =
        resource_cmp_total.antisymm of entry.0 in
        let less : resource_cmp of entry.0 ≡ Less = turned ∙ after_both (resource_cmp entry.0 of) e (rw turned at f) in
        rw (e, f) (sym (none_later rest of entry.0 less later))

ordered_from : (graphs : List (Resource × GraphData)) (of : Resource) → AreOrdered graphs
    → AreOrdered (graphs_from graphs of)
ordered_from [] of s = s
ordered_from (entry ∷ rest) of s =
    by (is_lt (resource_cmp entry.0 of)) refl (ordered_from rest of (sorted_tail resource_cmp entry.0 (keys_of rest) s))
  where
    by : (b : Bool) → is_lt (resource_cmp entry.0 of) ≡ b → AreOrdered (graphs_from rest of)
        → AreOrdered (graphs_from (entry ∷ rest) of)
    by true e below = rw e below
    by false e below = rw e s

-- ---- all of them

-- resources with their graphs after writes, each from those that are left no earlier than it
abbrev pub matched : List Resource → List (Resource × GraphData) → Rows → List Write → List (Resource × GraphData)
matched [] left rows writes = []
matched (of ∷ ofs) left rows writes =
    (of, graph_after (leading_graph (graphs_from left of) of) of rows writes)
    ∷ matched ofs (graphs_from left of) rows writes

-- each resource's graph becomes this one
abbrev Become : (Resource → GraphData) → List (Resource × GraphData) → Rows → List Write → List Resource → Type 0
Become graph left rows writes ofs =
    AllByRecursion (λ one. graph_after (graph_in left one) one rows writes ≡ graph one) ofs

become_from : (graph : Resource → GraphData) (left : List (Resource × GraphData)) (rows : Rows) (writes : List Write)
    (of : Resource) (ofs : List Resource)
    → AllByRecursion (λ one. resource_cmp of one ≡ Less) ofs → Become graph left rows writes ofs
    → Become graph (graphs_from left of) rows writes ofs
become_from graph left rows writes of [] later h = tt
become_from graph left rows writes of (one ∷ ofs) later h =
    let same : graph_in (graphs_from left of) one ≡ graph_in left one =
    found_from left of one (λ earlier less. earlier_apart one
    earlier (resource_cmp_total.trans earlier of one less later.0)) in (
      ap (λ (o : Option GraphData). graph_after o one rows writes) same
          ∙ h.0,
      become_from graph left rows writes of ofs later.1 h.1,
    )

matched_all : (graph : Resource → GraphData) (ofs : List Resource) (left : List (Resource × GraphData)) (rows : Rows)
    (writes : List Write)
    → IsStrictlySortedBy resource_cmp ofs → AreOrdered left → Become graph left rows writes ofs
    → matched ofs left rows writes ≡ map (λ of. (of, graph of)) ofs
matched_all graph [] left rows writes s t h = refl
matched_all graph (of ∷ ofs) left rows writes s t h =
    let own : graph_after (leading_graph (graphs_from left of) of) of rows writes ≡ graph of =
    ap (λ (o : Option GraphData). graph_after o of rows writes) (leads left of t) ∙ h.0 in
    rw own
    (ap (λ (more : List (Resource × GraphData)). (of, graph of) ∷ more)
    (matched_all graph ofs (graphs_from left of) rows writes (sorted_tail resource_cmp of ofs s)
    (ordered_from left of t)
    (become_from graph left rows writes of ofs (sorted_head resource_cmp of ofs s) h.1)))

-- the resources of graphs that were made for resources
firsts : (graph : Resource → GraphData) (ofs : List Resource)
    → keys_of (map (λ (of : Resource). (of, graph of)) ofs) ≡ ofs
firsts graph [] = refl
firsts graph (of ∷ ofs) = ap (λ (more : List Resource). of ∷ more) (firsts graph ofs)

-- the graphs of a book become those of the book with the batch
pub graphs_grown : (book : Book) (batch : Accepted) → IsLegal book → IsLegal (with_batch book batch)
    → matched (resources_of (rows_of (with_batch book batch))) (graphs_of book)
    (rows_of (with_batch book batch)) batch.writes
    ≡ graphs_of (with_batch book batch)
graphs_grown book batch legal legal_with =
    matched_all (updates_graph (with_batch book batch)) (resources_of rows) (graphs_of book) rows batch.writes
    (resources_sorted rows (good_rows (with_batch book batch) legal_with).sorted)
    (rw (firsts (updates_graph book) (resources_of (rows_of book)))
    (resources_sorted (rows_of book) (good_rows book legal).sorted))
    (each (resources_of rows) (resources_declared rows))
  where
    rows : Rows
    rows = rows_of (with_batch book batch)

    each : (ofs : List Resource) → AllByRecursion (λ of. is_declared rows of ≡ true) ofs
        → Become (updates_graph (with_batch book batch)) (graphs_of book) rows batch.writes ofs
    each [] h = tt
    each (of ∷ ofs) h = (graph_step book batch of legal legal_with h.0, each ofs h.1)

-- a book without batches past its base has the graphs that its rows alone make
pub graphs_of_base : (book : Book) (rows : Rows) → AreGood rows → book.batches ≡ [] → rows ≡ book.base
    → matched (resources_of rows) [] rows [] ≡ graphs_of book
unfolding IsStrictlySortedBy
graphs_of_base book rows good none is =
    matched_all (updates_graph alone) (resources_of rows) [] rows [] (resources_sorted rows good.sorted)
    tt (each (resources_of rows) (resources_declared rows))
    ∙ ap graphs_of same
  where
    alone : Book
    alone = record { base = rows; receipts = book.receipts; batches = [] }

    same : alone ≡ book
    same =
        ap (λ (base : Rows). record { base = base; receipts = book.receipts; batches = [] }) is
        ∙ ap (λ (batches : List Accepted). record { base = book.base; receipts = book.receipts; batches = batches })
        (sym none)

    each : (ofs : List Resource) → AllByRecursion (λ of. is_declared rows of ≡ true) ofs
        → Become (updates_graph alone) [] rows [] ofs
    each [] h = tt
    each (of ∷ ofs) h = (base_step rows book.receipts of good h.0, each ofs h.1)

-- ---- the loop over the resources

-- the graphs that are there and those of the resources that are left stay all, as one resource gets its graph
pub matched_step : (rows : Rows) (writes : List Write) (done more left from all : List (Resource × GraphData))
    (ofs rest : List Resource)
    (of : Resource) (graph : GraphData) (leading : Option GraphData) → ofs ≡ of ∷ rest → more ≡ done ++ (of, graph) ∷ []
    → graph ≡ graph_after leading of rows writes → leading ≡ leading_graph from of → from ≡ graphs_from left of
    → done ++ matched ofs left rows writes ≡ all → more ++ matched rest from rows writes ≡ all
matched_step rows writes done more left from all ofs rest of graph leading front added made led cut whole =
    rw (added, made, led, cut)
    (append_assoc done ((of, graph_after (leading_graph (graphs_from left of) of) of rows writes) ∷ [])
    (matched rest (graphs_from left of) rows writes)
    ∙ (rw front at whole))

-- once no resource is left, they are all
pub matched_end : (rows : Rows) (writes : List Write) (done left all : List (Resource × GraphData))
    (ofs : List Resource) → length ofs ≡ 0
    → done ++ matched ofs left rows writes ≡ all → done ≡ all
matched_end rows writes done left all [] h whole = sym (append-nil done) ∙ whole
matched_end rows writes done left all (of ∷ ofs) h whole = absurd (omega arith)
