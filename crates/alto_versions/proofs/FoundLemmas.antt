-- The updates graph of a resource among those of a book.
use Rattle.std.proofs.Common.{◌≡◌, ℕ, ◌+◌, ◌<◌, true, false, List, [], ◌∷◌, Bool, ◌||◌, map, drop, length, get_or}
use Rattle.std.proofs.Common.{Option, Some, None, if◌then◌else◌, refl, ap, sym, ◌∙◌, add-one, drop-cons}
use Rattle.std.specs.BTreeMap.{is_at}
use Rattle.std.specs.List.{list_any}
use Rattle.std.proofs.lemmas.List.{drop-map}
use Rattle.std.specs.Ordering.{is_eq}
use Rattle.alto_rows.specs.declared.resource.Resource.{Resource}
use Rattle.alto_rows.specs.Order.{resource_cmp}
use Rattle.alto_rows.specs.Versions.{is_declared, resources_of}
use Rattle.alto_rows.proofs.ResourceLemmas.{resources_found}
use Rattle.alto_rows.proofs.StandsLemmas.{tied_resource}
use Rattle.tips_graph.specs.Graph.{GraphData}
use Rattle.alto_book.specs.Book.{Book, rows_of}
use Rattle.alto_book.specs.Numbers.{updates_graph}
use Rattle.alto_versions.specs.Front.{graph_in, graphs_of}

first_or_later : (graph : Resource → GraphData) (one of : Resource) (rest : Bool) (later : Option GraphData) (b : Bool)
    → is_eq (resource_cmp of one) ≡ b → later ≡ (if rest then Some (graph of) else None)
    → (if b then Some (graph one) else later) ≡ (if (b || rest) then Some (graph of) else None)
first_or_later graph one of rest later true h e = ap (λ (r : Resource). Some (graph r)) (sym (tied_resource of one h))
first_or_later graph one of rest later false h e = e

-- the graph of a resource among those of some resources
found_in : (graph : Resource → GraphData) (resources : List Resource) (of : Resource)
    → graph_in (map (λ one. (one, graph one)) resources) of
    ≡ (if list_any (is_at (resource_cmp of)) resources then Some (graph of) else None)
found_in graph [] of = refl
found_in graph (one ∷ resources) of =
    first_or_later graph one of (list_any (is_at (resource_cmp of)) resources)
    (graph_in (map (λ one. (one, graph one)) resources) of)
    (is_eq (resource_cmp of one)) refl (found_in graph resources of)

-- the graph of a resource from a place on: that of the place, or one behind it
pub from_place : {X : Type 0} (f : X → Resource × GraphData) (items : List X) (graphs : List (Resource × GraphData))
    (of : Resource) (place : ℕ) (item : X)
    → graphs ≡ map f items → place < length items → item ≡ get_or items place item
    → graph_in (drop place graphs) of
    ≡ (if is_at (resource_cmp of) (f item).0 then Some (f item).1 else graph_in (drop (place + 1) graphs) of)
from_place f items graphs of place item same within at =
    let cut : drop place items ≡ get_or items place item ∷ drop (place + 1) items =
    rw (add-one, drop-cons items place item) refl in
    let here : drop place (map f items) ≡ f item ∷ drop (place + 1) (map f items) =
    drop-map f place items ∙ ap (map f) cut ∙ ap (λ x. f x ∷ map f (drop (place + 1) items)) (sym at)
    ∙ ap (λ xs. f item ∷ xs) (sym (drop-map f (place + 1) items)) in
    rw same (ap (λ graphs. graph_in graphs of) here)

-- the graph of a declared resource is the book's, and no other resource has one
pub graph_found : (book : Book) (of : Resource)
    → graph_in (graphs_of book) of ≡ (if is_declared (rows_of book) of then Some (updates_graph book of) else None)
graph_found book of =
    found_in (updates_graph book) (resources_of (rows_of book)) of
    ∙ ap (λ b. if b then Some (updates_graph book of) else None) (resources_found (rows_of book) of)
