-- Texts that lie one behind another.
use Rattle.std.proofs.Common.{◌≡◌, ◌∙◌, ◌≤◌, ◌+◌, ℕ, refl, ap, sym, arith, drop, length}
use Rattle.std.proofs.Common.{slice_range}
use Rattle.std.proofs.lemmas.List.{drop_at, length-append, take-append-le}
use Rattle.std.proofs.lemmas.Slice.{between_is, between_to_end}
use Rattle.std.specs.Prelude.{List, [], ◌∷◌, ◌++◌}
use Rattle.cost_filters.specs.Starts.{AreWithin, texts_at}

-- ---- a text more

part_before : (bytes more : List ℕ) (start end : ℕ) → end ≤ length bytes
    → slice_range (bytes ++ more) start end ≡ slice_range bytes start end
part_before bytes more start end within =
    between_is (bytes ++ more) start end
    ∙ (ap (drop start) (take-append-le end bytes more within) ∙ sym (between_is bytes start end))

-- what lies behind the bytes doesn't change the texts within
texts_before : (bytes more : List ℕ) (places : List (ℕ × ℕ)) → AreWithin bytes places
    → texts_at (bytes ++ more) places ≡ texts_at bytes places
texts_before bytes more [] within = refl
texts_before bytes more (place ∷ places) within =
    λ i. part_before bytes more place.0 place.1 within.0 i ∷ texts_before bytes more places within.1 i

-- the text that is put behind
part_behind : (bytes more : List ℕ)
    → slice_range (bytes ++ more) (length bytes) (length (bytes ++ more)) ≡ more
part_behind bytes more =
    between_to_end (bytes ++ more) (length bytes) (length (bytes ++ more)) (omega arith)
    ∙ drop_at bytes more (length bytes) refl

texts_put : (bytes : List ℕ) (places : List (ℕ × ℕ)) (place : ℕ × ℕ)
    → texts_at bytes (places ++ place ∷ []) ≡ texts_at bytes places ++ slice_range bytes place.0 place.1 ∷ []
texts_put bytes [] place = refl
texts_put bytes (first ∷ places) place =
    ap (λ (more : List (List ℕ)). slice_range bytes first.0 first.1 ∷ more) (texts_put bytes places place)

pub texts_more : (bytes more : List ℕ) (places : List (ℕ × ℕ)) → AreWithin bytes places
    → texts_at (bytes ++ more) (places ++ (length bytes, length (bytes ++ more)) ∷ [])
    ≡ texts_at bytes places ++ more ∷ []
texts_more bytes more places within =
    texts_put (bytes ++ more) places (length bytes, length (bytes ++ more))
    ∙ (λ i. texts_before bytes more places within i ++ part_behind bytes more i ∷ [])

pub within_more : (bytes more : List ℕ) (places : List (ℕ × ℕ)) → AreWithin bytes places
    → AreWithin (bytes ++ more) (places ++ (length bytes, length (bytes ++ more)) ∷ [])
within_more bytes more [] within = (omega arith, tt)
within_more bytes more (place ∷ places) within =
    let first : place.1 ≤ length bytes = within.0 in
    let longer : length (bytes ++ more) ≡ length bytes + length more = length-append bytes more in
    (omega arith, within_more bytes more places within.1)
