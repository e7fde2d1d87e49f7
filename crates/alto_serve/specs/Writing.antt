-- What is out of bytes that are written piece by piece.
use Rattle.std.specs.Prelude.{◌≡◌, ℕ, ◌<◌, ◌++◌, List, Option, length, take}
use Rattle.alto_http.specs.Link.{extended}

-- of bytes only a part is out, from their beginning on
abbrev pub EndsAtWriteFault : Option (List ℕ) → List ℕ → Option (List ℕ) → Type 0
EndsAtWriteFault out bytes out' = (k : ℕ) × (k < length bytes) × (out' ≡ extended out (take k bytes))

-- a prefix of these bytes is out, and this is the rest of them
pub record IsOutTo (out : Option (List ℕ)) (bytes : List ℕ) (out' : Option (List ℕ)) (rest : List ℕ) : Type 0 where
  pub front : List ℕ
  pub whole : bytes ≡ front ++ rest
  pub written : out' ≡ extended out front
