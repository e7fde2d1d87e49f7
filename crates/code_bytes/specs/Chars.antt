-- What may follow inside a text in UTF-8 of so many bytes (RFC 3629, section 4).
use Rattle.std.specs.Prelude.{ℕ, zero, suc, ◌-◌, ◌<◌, ◌≤◌, List, [], ◌∷◌}
use Rattle.std.specs.Str.Lossy.{second_byte_max, second_byte_min}
use Rattle.code_bytes.specs.Pieces.{Texts}

-- the byte may be the first of a character that has so many more
abbrev pub IsLead : ℕ → ℕ → Type 0
IsLead zero byte = byte < 0x80
IsLead (suc zero) byte = (0xC2 ≤ byte) × (byte < 0xE0)
IsLead (suc (suc zero)) byte = (0xE0 ≤ byte) × (byte < 0xF0)
IsLead (suc (suc (suc zero))) byte = (0xF0 ≤ byte) × (byte < 0xF5)
IsLead _ byte = ⊥

-- so many last bytes of a character, the first of them in a range, and then a text of so many bytes
abbrev pub Tails : ℕ → ℕ → ℕ → ℕ → List ℕ → Type 0
Tails zero least most behind text = Texts behind text
Tails (suc many) least most behind [] = ⊥
Tails (suc many) least most behind (byte ∷ text) =
    (least ≤ byte) × (byte ≤ most) × Tails many 0x80 0xBF behind text

-- what follows this byte, the first of a text of so many bytes
pub record Led (count byte : ℕ) (text : List ℕ) : Type 0 where
  pub many : ℕ
  pub is_lead : IsLead many byte
  pub fits : many < count
  pub tails : Tails many (second_byte_min byte) (second_byte_max byte) (count - suc many) text
