-- The name of a PID in a pointer.
use Rattle.std.proofs.Common.{◌≡◌, ℕ, ◌+◌, inl, inr, refl, ap, ap₂, sym, ◌∙◌}
use Rattle.std.proofs.lemmas.Bool.Decides.{eqb_tells}
use Rattle.std.specs.Prelude.{Bool, true, false, cond, not, List, [], ◌∷◌, ◌++◌, Option, Some, None, Ok, Err}
use Rattle.std.specs.List.{position_from}
use Rattle.alto_names.specs.Name.{is_pid_byte, named, unless_bad}
use Rattle.alto_names.specs.declared.label.NameFault.{NameFault}
use Rattle.json_tree.specs.Pointer.{escaped, token_of}

-- a byte of a name is written as it is
byte_plain : (b : ℕ) → is_pid_byte b ≡ true → escaped b ≡ b ∷ []
byte_plain b admitted =
    elim (eqb_tells b 126) [
      | inl t ↦ let both : false ≡ true = ap is_pid_byte (sym t.1) ∙ admitted in cc
      | inr t ↦ elim (eqb_tells b 47) [
        | inl s ↦ let both : false ≡ true = ap is_pid_byte (sym s.1) ∙ admitted in cc
        | inr s ↦ rw (t.0, s.0)
      ]
    ]

-- where no byte was refused, the first one was admitted, and none was refused further on
none_refused : (admitted : Bool) (place : ℕ) (later : Option ℕ) → cond (not admitted) (Some place) later ≡ None
    → (admitted ≡ true) × (later ≡ None)
none_refused true place later none = (refl, none)
none_refused false place later none = cc

bytes_plain : (i : ℕ) (text : List ℕ) → position_from (λ byte. not (is_pid_byte byte)) i text ≡ None
    → token_of text ≡ text
bytes_plain i [] none = refl
bytes_plain i (b ∷ rest) none =
    let both = none_refused (is_pid_byte b) _ _ none in
    ap₂ (λ s t. s ++ t) (byte_plain b both.0) (bytes_plain (i + 1) rest both.1)

-- a name is its own token
pub token_same : (name : List ℕ) → named is_pid_byte 64 name ≡ Ok name → token_of name ≡ name
token_same [] read = refl
token_same (b ∷ rest) read = bytes_plain 0 (b ∷ rest) (by _ _ _ read)
  where
    by : (long : Bool) (fault : NameFault) (found : Option ℕ)
        → cond long (Err fault) (unless_bad (b ∷ rest) found) ≡ Ok (b ∷ rest) → found ≡ None
    by false fault None read = refl
    by false fault (Some place) read = cc
    by true fault found read = cc
