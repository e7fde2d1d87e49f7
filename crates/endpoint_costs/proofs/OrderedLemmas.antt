-- Endpoints that were sorted, of which equal neighbours are one, are in the byte order of their texts.
use Rattle.std.proofs.Common.{◌≡◌, ◌+◌, ◌<◌, ◌∙◌, ap, arith, refl, sym, subst, length}
use Rattle.std.proofs.lemmas.List.{get_or-map, length-map}
use Rattle.std.proofs.lemmas.List.Elements.{All-from_recursion, recursion_from_All}
use Rattle.std.proofs.lemmas.List.Sorted.{All-permutation, IsPermutation-map}
use Rattle.std.specs.Prelude.{Bool, true, false, cond, List, [], ◌∷◌}
use Rattle.std.specs.Cmp.Lexicographic.{slice_cmp}
use Rattle.std.specs.List.{AllByRecursion, dedup, dedup_from}
use Rattle.std.specs.List.Sorted.{IsPermutation, IsSorted}
use Rattle.std.specs.Ordering.{is_lt, nat_cmp}
use Rattle.std.specs.declared.cmp.Ordering.{Ordering}
use Rattle.alto_maps.specs.Shape.{Name, same_name}
use Rattle.cost_filters.proofs.NamesLemmas.{sorted_set}
use Rattle.endpoint_costs.specs.declared.endpoint.Endpoint.{Endpoint}
use Rattle.endpoint_costs.specs.Entries.{AreOrdered, IsWritten, texts}

-- whether the texts of endpoints are the same
abbrev pub same_end : Endpoint → Endpoint → Bool
same_end one other = same_name one.text other.text

-- the order of their texts
abbrev pub end_cmp : Endpoint → Endpoint → Ordering
end_cmp one other = slice_cmp nat_cmp one.text other.text

-- ---- what a sort leaves

-- texts are sorted as their endpoints are
texts_sorted : (ends : List Endpoint) → IsSorted end_cmp ends → IsSorted (slice_cmp nat_cmp) (texts ends)
texts_sorted [] h k d low high = absurd (omega (arith, high))
texts_sorted (end ∷ ends) h k d low high =
    let all = end ∷ ends in
    let within : k + 1 < length all =
    subst (λ n. k + 1 < n) (length-map all (λ (one : Endpoint). one.text)) high in
    let next = get_or-map (λ (one : Endpoint). one.text) all (k + 1) end d within in
    let this = get_or-map (λ (one : Endpoint). one.text) all k end d (omega (arith, within)) in
    (λ i. is_lt (slice_cmp nat_cmp (next i) (this i))) ∙ h k end low within

-- ---- what is left of equal neighbours

dedup_from_texts : (end : Endpoint) (ends : List Endpoint)
    → texts (dedup_from same_end end ends) ≡ dedup_from same_name end.text (texts ends)
dedup_from_texts end [] = refl
dedup_from_texts end (other ∷ ends) =
    by (same_name other.text end.text) (dedup_from_texts end ends) (dedup_from_texts other ends)
  where
    by : (b : Bool) → texts (dedup_from same_end end ends) ≡ dedup_from same_name end.text (texts ends)
        → texts (dedup_from same_end other ends) ≡ dedup_from same_name other.text (texts ends)
        → texts (cond b (dedup_from same_end end ends) (end ∷ dedup_from same_end other ends))
        ≡ cond b (dedup_from same_name end.text (texts ends)) (end.text ∷ dedup_from same_name other.text (texts ends))
    by true kept rest = kept
    by false kept rest = ap (λ (more : List Name). end.text ∷ more) rest

dedup_texts : (ends : List Endpoint) → texts (dedup same_end ends) ≡ dedup same_name (texts ends)
dedup_texts [] = refl
dedup_texts (end ∷ ends) = dedup_from_texts end ends

all-dedup_from : (P : Endpoint → Type 0) (end : Endpoint) (ends : List Endpoint) → P end → AllByRecursion P ends
    → AllByRecursion P (dedup_from same_end end ends)
all-dedup_from P end [] h all = (h, tt)
all-dedup_from P end (other ∷ ends) h all =
    by (same_name other.text end.text) (all-dedup_from P end ends h all.1) (all-dedup_from P other ends all.0 all.1)
  where
    by : (b : Bool) → AllByRecursion P (dedup_from same_end end ends)
        → AllByRecursion P (dedup_from same_end other ends)
        → AllByRecursion P (cond b (dedup_from same_end end ends) (end ∷ dedup_from same_end other ends))
    by true kept rest = kept
    by false kept rest = (h, rest)

all-dedup : (P : Endpoint → Type 0) (ends : List Endpoint) → AllByRecursion P ends
    → AllByRecursion P (dedup same_end ends)
all-dedup P [] all = tt
all-dedup P (end ∷ ends) all = all-dedup_from P end ends all.0 all.1

-- ---- endpoints in order

pub ordered : (ends sorted left : List Endpoint) → IsPermutation ends sorted → IsSorted end_cmp sorted
    → left ≡ dedup same_end sorted → AreOrdered ends left
ordered ends sorted left moved in_order is = record {
  set = sorted_set (texts ends) (texts sorted) (texts left)
      (IsPermutation-map (λ (end : Endpoint). end.text) ends sorted moved)
      (texts_sorted sorted in_order) (ap texts is ∙ dedup_texts sorted);
  written = λ prefixes written. subst (AllByRecursion (IsWritten prefixes)) (sym is)
      (all-dedup (IsWritten prefixes) sorted (recursion_from_All (IsWritten prefixes) sorted
      (All-permutation (IsWritten prefixes) ends sorted moved
      (All-from_recursion (IsWritten prefixes) ends written))));
}
