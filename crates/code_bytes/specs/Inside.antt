-- Where a reader stands inside a text.
use Rattle.std.specs.Prelude.{ℕ, List, ◌∷◌}
use Rattle.code_bytes.specs.Chars.{Tails}
use Rattle.code_bytes.specs.declared.inside.Inside.{Inside}

-- the bytes go on with what is expected, to the end of the text
abbrev pub GoesOn : Inside → List ℕ → Type 0
GoesOn at text = Tails at.many at.least at.most at.behind text

-- what is expected behind this byte
pub record Passes (Text : List ℕ → Type 0) (byte : ℕ) (next : Inside) : Type 0 where
  pub to : (text : List ℕ) → Text (byte ∷ text) → GoesOn next text
  pub from : (text : List ℕ) → GoesOn next text → Text (byte ∷ text)
  pub some : List ℕ
  pub goes_on : GoesOn next some
