-- No byte of a PID is escaped in a JSON text.
use Rattle.std.proofs.Common.{◌≡◌, ℕ, ◌+◌, Bool, true, false, cond, not, List, [], ◌∷◌, Option, Some, None, Ok, Err}
use Rattle.std.proofs.Common.{arith, refl}
use Rattle.std.proofs.lemmas.Bool.Decides.{nat_tests}
use Rattle.std.specs.List.{list_all, position_from}
use Rattle.alto_names.specs.Name.{is_pid_byte, named, unless_bad}
use Rattle.alto_names.specs.declared.label.NameFault.{NameFault}
use Rattle.doc_pieces.specs.Text.{is_plain}

plain_pid_byte : (byte : ℕ) → is_pid_byte byte ≡ true → is_plain byte ≡ true
plain_pid_byte byte is = grind (arith, nat_tests)

first_admitted : (admitted : Bool) (place : ℕ) (later : Option ℕ) → cond (not admitted) (Some place) later ≡ None
    → (admitted ≡ true) × (later ≡ None)
first_admitted true place later h = (refl, h)
first_admitted false place later h = cc

all_plain : (i : ℕ) (bytes : List ℕ) → position_from (λ byte. not (is_pid_byte byte)) i bytes ≡ None
    → list_all is_plain bytes ≡ true
all_plain i [] h = refl
all_plain i (byte ∷ bytes) h =
    let both = first_admitted (is_pid_byte byte) _ _ h in
    rw (plain_pid_byte byte both.0) (all_plain (i + 1) bytes both.1)

none_bad : (too_long : Bool) (fault : NameFault) (text : List ℕ) (found : Option ℕ)
    → cond too_long (Err fault) (unless_bad text found) ≡ Ok text → found ≡ None
none_bad true fault text found h = cc
none_bad false fault text None h = refl
none_bad false fault text (Some place) h = cc

-- the bytes of a PID stand for themselves between quotes
pub pid_plain : (pid : List ℕ) → named is_pid_byte 64 pid ≡ Ok pid → list_all is_plain pid ≡ true
pid_plain [] h = refl
pid_plain (byte ∷ rest) h = all_plain 0 (byte ∷ rest) (none_bad _ _ _ _ h)
