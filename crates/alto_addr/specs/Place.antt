-- How far a text goes along with a grammar.
use Rattle.std.specs.Prelude.{ℕ, ◌≤◌, List, ◌++◌, length, take}
use Rattle.alto_addr.specs.declared.addr.Addr.{Addr}
use Rattle.alto_addr.specs.Text.{IsAddrText, IsPrefixText}

-- the text begins some text of the grammar
abbrev pub Begins : (List ℕ → Type 0) → List ℕ → Type 0
Begins IsText text = (rest : List ℕ) × IsText (text ++ rest)

-- the longest front of the text that begins some text of the grammar has n bytes
pub record IsLongestFront (IsText : List ℕ → Type 0) (text : List ℕ) (n : ℕ) : Type 0 where
  pub within : n ≤ length text
  pub begins : Begins IsText (take n text)
  pub longest : (m : ℕ) → m ≤ length text → Begins IsText (take m text) → m ≤ n

-- the text writes some address
abbrev pub IsAnyAddr : List ℕ → Type 0
IsAnyAddr text = (addr : Addr) × IsAddrText text addr

-- the text writes some address and a length of up to three digits
abbrev pub IsAnyPrefix : List ℕ → Type 0
IsAnyPrefix text = (addr : Addr) × (len : ℕ) × IsPrefixText text addr len
