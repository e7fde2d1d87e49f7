-- Texts that are names of PIDs.
use Rattle.std.proofs.Common.{◌≡◌, ℕ, length, refl}
use Rattle.std.specs.Prelude.{Bool, true, false, ◌==◌, nat_lt, List, [], ◌∷◌, Option, Some, None, is_none, is_ok, Ok}
use Rattle.alto_names.specs.Name.{IsPidName, first_bad, is_pid_byte, named, unless_bad}

unless_bad_ok : (text : List ℕ) (place : Option ℕ) → is_ok (unless_bad text place) ≡ is_none place
unless_bad_ok text None = refl
unless_bad_ok text (Some place) = refl

-- a text that is neither empty nor too long is one where no byte is bad
pub named_whole : (text : List ℕ) → (length text == 0) ≡ false → nat_lt 64 (length text) ≡ false
    → is_none (first_bad is_pid_byte text) ≡ is_ok (named is_pid_byte 64 text)
named_whole [] some short = cc
named_whole (byte ∷ rest) some short =
    let text = byte ∷ rest in rw (short, unless_bad_ok text (first_bad is_pid_byte text)) refl

unless_bad_same : (text : List ℕ) (place : Option ℕ) → is_ok (unless_bad text place) ≡ true
    → unless_bad text place ≡ Ok text
unless_bad_same text None is = refl
unless_bad_same text (Some place) is = cc

-- and it is its own name
pub named_same : (text : List ℕ) → is_ok (named is_pid_byte 64 text) ≡ true → IsPidName text
named_same [] is = cc
named_same (byte ∷ rest) is = by (nat_lt 64 (length (byte ∷ rest))) refl
  where
    by : (b : Bool) → nat_lt 64 (length (byte ∷ rest)) ≡ b → IsPidName (byte ∷ rest)
    by true e = let none : false ≡ true = rw e at is in cc
    by false e =
        let text = byte ∷ rest in
        rw e (unless_bad_same text (first_bad is_pid_byte text) (rw e at is))
