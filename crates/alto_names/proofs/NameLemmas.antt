-- What reading a name tells of its bytes, and that the least name stands before every other.
use Rattle.std.proofs.Common.{◌≡◌, ℕ, ◌<◌, ◌≤◌, Bool, true, false, cond, not, List, [], ◌∷◌, Ok, Err, Option, Some}
use Rattle.std.proofs.Common.{None, ◌+◌, refl, sym, arith}
use Rattle.std.proofs.lemmas.Bool.Decides.{nat_tests}
use Rattle.std.specs.Cmp.Lexicographic.{slice_cmp}
use Rattle.std.specs.Ordering.{nat_cmp, is_gt}
use Rattle.std.specs.List.{position_from}
use Rattle.std.specs.Str.{IsUtf8, IsAscii}
use Rattle.std.proofs.lemmas.Str.{IsUtf8-from_ascii}
use Rattle.std.proofs.lemmas.Str.Ascii.{IsAscii-nil, IsAscii-cons}
use Rattle.alto_names.specs.Name.{named, unless_bad, first_bad}
use Rattle.alto_names.specs.declared.label.NameFault.{NameFault}

-- where a text reads as itself, its first byte was no fault
head_admitted : (admitted too_long : Bool) (fault : NameFault) (text : List ℕ) (later : Option ℕ)
    → cond too_long (Err fault) (unless_bad text (cond (not admitted) (Some 0) later)) ≡ Ok text → admitted ≡ true
head_admitted true too_long fault text later h = refl
head_admitted false true fault text later h = cc
head_admitted false false fault text later h = cc

-- the text of no bytes stands after none
empty_first : (text : List ℕ) → is_gt (slice_cmp nat_cmp [] text) ≡ false
empty_first [] = refl
empty_first (byte ∷ rest) = refl

-- where no byte was found, the first one was admitted, and none was found further on
unless_found : (admitted : Bool) (found : ℕ) (later : Option ℕ) → cond (not admitted) (Some found) later ≡ None
    → (admitted ≡ true) × (later ≡ None)
unless_found true found later h = (refl, h)
unless_found false found later h = cc

-- the least byte alone doesn't stand after a name whose bytes are no smaller
pub least_first : (alphabet : ℕ → Bool) (longest least : ℕ) (name : List ℕ)
    → ((byte : ℕ) → alphabet byte ≡ true → least ≤ byte)
    → named alphabet longest name ≡ Ok name
    → is_gt (slice_cmp nat_cmp (least ∷ []) name) ≡ false
least_first alphabet longest least [] none_below h = cc
least_first alphabet longest least (byte ∷ rest) none_below h =
    let low : least ≤ byte = none_below byte (head_admitted (alphabet byte) _ _ _ _ h) in
    grind (arith, nat_tests, empty_first rest)

-- a text without a byte that some alphabet below 128 refuses is ASCII
ascii_from : (alphabet : ℕ → Bool) (i : ℕ) (text : List ℕ) → ((byte : ℕ) → alphabet byte ≡ true → byte < 128)
    → position_from (λ byte. not (alphabet byte)) i text ≡ None → IsAscii text
ascii_from alphabet i [] ascii h = IsAscii-nil
ascii_from alphabet i (byte ∷ rest) ascii h =
    let both = unless_found (alphabet byte) _ _ h in
    IsAscii-cons byte rest (ascii byte both.0) (ascii_from alphabet (i + 1) rest ascii both.1)

-- and so it is valid UTF-8
pub text_if_none_bad : (alphabet : ℕ → Bool) (text : List ℕ) → ((byte : ℕ) → alphabet byte ≡ true → byte < 128)
    → None ≡ first_bad alphabet text → IsUtf8 text
text_if_none_bad alphabet text ascii h = IsUtf8-from_ascii text (ascii_from alphabet 0 text ascii (sym h))
