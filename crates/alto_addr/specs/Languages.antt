-- Sets of texts made from others, and the longest front of a text that is one token.
use Rattle.std.specs.Prelude.{◌≡◌, ℕ, ◌<◌, ◌≤◌, List, [], ◌∷◌, ◌++◌, length, take}

-- a text of one and then a text of the other
pub record Sequence (First Second : List ℕ → Type 0) (text : List ℕ) : Type 0 where
  pub front : List ℕ
  pub back : List ℕ
  pub split : text ≡ front ++ back
  pub first : First front
  pub second : Second back

-- this byte and then a text
pub record Behind (byte : ℕ) (Second : List ℕ → Type 0) (text : List ℕ) : Type 0 where
  pub back : List ℕ
  pub split : text ≡ byte ∷ back
  pub second : Second back

-- a text of either
pub data Either (One Other : List ℕ → Type 0) (text : List ℕ) : Type 0 where
  one : One text → Either One Other text
  other : Other text → Either One Other text

-- no byte at all
pub record Nothing (text : List ℕ) : Type 0 where
  pub nothing : text ≡ []

-- the longest front that is a token has n bytes, or there is none and n is 0
pub record IsTokenFront (Token : List ℕ → Type 0) (text : List ℕ) (n : ℕ) : Type 0 where
  pub within : n ≤ length text
  pub token : 0 < n → Token (take n text)
  pub longest : (m : ℕ) → m ≤ length text → Token (take m text) → m ≤ n
