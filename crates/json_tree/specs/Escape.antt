-- The escapes of a pointer's tokens, read one after another (RFC 6901, sections 3 and 4).
use Rattle.std.specs.Prelude.{◌≡◌, ◌≢◌, ◌+◌, ⊤, ℕ, List, ◌∷◌, ◌++◌, length, codes}
use Rattle.json_tree.specs.declared.pointer.fault.PointerFault.{PointerFault}
use Rattle.json_tree.specs.declared.pointer.fault.PointerFault.TheVariants.{BadAt, Memory}
use Rattle.json_tree.specs.Pointer.{tilde, token_of}

-- behind a `~` no escape goes on so
pub record EndsNoEscape (text : List ℕ) : Type 0 where
  pub no_tilde : (rest : List ℕ) → text ≢ codes "0" ++ rest
  pub no_slash : (rest : List ℕ) → text ≢ codes "1" ++ rest

-- from the start on, the place is that behind a `~` of the token that begins no escape
pub record HasStrayTilde (token : List ℕ) (start place : ℕ) : Type 0 where
  pub read : List ℕ
  pub left : List ℕ
  pub parts : token ≡ token_of read ++ tilde ∷ left
  pub stray : EndsNoEscape left
  pub here : place ≡ start + length (token_of read) + 1

-- the fault is that of a token that starts there
abbrev pub IsFaultOfToken : List ℕ → ℕ → PointerFault → Type 0
IsFaultOfToken token start (BadAt place) = HasStrayTilde token start place
IsFaultOfToken token start Memory = ⊤
