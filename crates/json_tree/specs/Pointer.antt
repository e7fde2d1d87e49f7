-- JSON Pointer (RFC 6901) through objects alone: a list of member names.
use Rattle.std.specs.Prelude.{◌≡◌, ◌≢◌, ◌==◌, ◌≤◌, ⊤, ℕ, List, [], ◌∷◌, ◌++◌, if◌then◌else◌, length, take, codes}
use Rattle.std.specs.List.{flat_map}
use Rattle.json_tree.specs.declared.pointer.fault.PointerFault.{PointerFault}
use Rattle.json_tree.specs.declared.pointer.fault.PointerFault.TheVariants.{BadAt, Memory}

-- `~`
abbrev pub tilde : ℕ
tilde = 126

-- `/`
abbrev pub slash : ℕ
slash = 47

-- how a byte of a name is written: `~` as `~0`, and `/` as `~1` (section 3)
abbrev pub escaped : ℕ → List ℕ
escaped b = if b == tilde then codes "~0" else (if b == slash then codes "~1" else b ∷ [])

-- the token of a name (section 3)
abbrev pub token_of : List ℕ → List ℕ
token_of name = flat_map escaped name

-- the pointer along these names, each behind a `/` (section 3)
abbrev pub pointer_text : List (List ℕ) → List ℕ
pointer_text names = flat_map (λ name. slash ∷ token_of name) names

-- some continuation makes the text a pointer
pub record BeginsPointer (text : List ℕ) : Type 0 where
  pub rest : List ℕ
  pub names : List (List ℕ)
  pub spells : pointer_text names ≡ text ++ rest

-- the text is no pointer, and the longest prefix that begins one has this length
pub record BreaksAt (text : List ℕ) (place : ℕ) : Type 0 where
  pub no_pointer : (names : List (List ℕ)) → pointer_text names ≢ text
  pub within : place ≤ length text
  pub begins : BeginsPointer (take place text)
  pub longest : (more : ℕ) → more ≤ length text → BeginsPointer (take more text) → more ≤ place

-- the fault is that of the text; memory may run out at any
abbrev pub IsFaultOf : List ℕ → PointerFault → Type 0
IsFaultOf text (BadAt place) = BreaksAt text place
IsFaultOf text Memory = ⊤
