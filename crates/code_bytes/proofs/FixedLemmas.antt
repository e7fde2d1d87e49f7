-- So many bytes.
use Rattle.std.proofs.Common.{◌≡◌, ℕ, zero, suc, ◌<◌, List, [], ◌∷◌, ◌++◌, length, take, refl, sym, ap, subst, ◌∙◌}
use Rattle.std.proofs.Common.{arith}
use Rattle.std.proofs.lemmas.List.{take_at}
use Rattle.code_bytes.specs.Stuck.{IsStuck, Headed}
use Rattle.code_bytes.specs.Pieces.{Fixed, One}
use Rattle.code_bytes.proofs.StuckLemmas.{IsFree, headed_bad, headed_none, left_of_short, parts_from_longer, stuck_same}

-- texts of one length
pub free_by_length : (Text : List ℕ → Type 0) (count : ℕ)
    → ((text : List ℕ) → Text text → length text ≡ count) → IsFree Text
free_by_length Text count len a b r s one other e =
    sym (take_at a r count (len a one)) ∙ ap (take count) e ∙ take_at b s count (len b other)

filled : (count : ℕ) (bytes : List ℕ) → length bytes < count
    → (more : List ℕ) × (0 < length more) × (length (bytes ++ more) ≡ count)
filled zero bytes lt = absurd (omega (arith, lt))
filled (suc zero) [] lt = (0 ∷ [], omega arith, refl)
filled (suc (suc count)) [] lt =
    let more = filled (suc count) [] (omega arith) in
    (0 ∷ more.0, omega arith, ap suc more.2)
filled (suc count) (byte ∷ bytes) lt =
    let more = filled count bytes (omega (arith, lt)) in
    (more.0, more.1, ap suc more.2)

pub fixed_short : (count : ℕ) (bytes : List ℕ) → length bytes < count → IsStuck (Fixed count) bytes 0
fixed_short count bytes lt =
    let more = filled count bytes lt in
    record {
      text = bytes ++ more.0;
      is_text = more.2;
      parts = left_of_short bytes more.0 more.1;
      least = λ other its. parts_from_longer other bytes (omega (arith, lt, its));
    }

-- ---- one byte

abbrev Only : ℕ → ℕ → List ℕ → Type 0
Only byte first back = (first ≡ byte) × (back ≡ [])

to_only : (byte : ℕ) (text : List ℕ) → One byte text → Headed (Only byte) text
to_only byte text is = record { byte = byte; back = []; split = is; second = (refl, refl) }

from_only : (byte : ℕ) (text : List ℕ) → Headed (Only byte) text → One byte text
from_only byte text is = is.split ∙ ap (λ b. b ∷ is.back) is.second.0 ∙ ap (λ t. byte ∷ t) is.second.1

pub one_none : (byte : ℕ) (bytes : List ℕ) → bytes ≡ [] → IsStuck (One byte) bytes 0
one_none byte bytes nil =
    subst (λ b. IsStuck (One byte) b 0) (sym nil)
    (stuck_same _ _ [] 0 (from_only byte) (to_only byte)
    (headed_none (Only byte) (byte ∷ []) (to_only byte (byte ∷ []) refl)))

pub one_bad : (byte first : ℕ) (bytes rest : List ℕ) → bytes ≡ first ∷ rest → (first ≡ byte → ⊥)
    → IsStuck (One byte) bytes (length bytes)
one_bad byte first bytes rest head not =
    subst (λ b. IsStuck (One byte) b (length b)) (sym head)
    (stuck_same _ _ (first ∷ rest) (suc (length rest)) (from_only byte) (to_only byte)
    (headed_bad (Only byte) (byte ∷ []) first rest (to_only byte (byte ∷ []) refl) (λ back is. not is.0)))
