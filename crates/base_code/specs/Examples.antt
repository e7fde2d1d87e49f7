-- The base of the examples after its first batch, and its pieces.
use Rattle.std.specs.Prelude.{ℕ, List, [], ◌∷◌, ◌++◌, codes}
use Rattle.alto_rows.specs.declared.key.Key.TheVariants as key
use Rattle.alto_rows.specs.declared.resource.Resource.TheVariants as resource
use Rattle.alto_rows.specs.declared.value.Value.TheVariants as value
use Rattle.base_code.specs.Bases.{BaseData}

-- the base behind the import i1 with this digest, at 100: metro is declared, and its two maps are at 1
abbrev pub base_behind_i1 : List ℕ → BaseData
base_behind_i1 digest = record {
  b = 1;
  receipts = record { id = codes "i1"; digest = digest; moment = 100 } ∷ [];
  rows =
      (key.Net (codes "metro"), value.Unit)
      ∷ (key.Seq (resource.Net (codes "metro")), value.Num 1)
      ∷ (key.Seq (resource.Prop (codes "metro")), value.Num 1) ∷ [];
}

-- its first piece
abbrev pub first_of_i1 : List ℕ
first_of_i1 =
    0x43 ∷ 0x01 ∷ 0x00 ∷ 0x00 ∷ 0x00 ∷ 0x00 ∷ 0x00 ∷ 0x00 ∷ 0x00 ∷ 0x01 ∷ 0x00 ∷ 0x00 ∷ 0x00 ∷ 0x03 ∷ []

-- its one piece of receipts
abbrev pub receipts_of_i1 : List ℕ → List ℕ
receipts_of_i1 digest =
    0x44 ∷ 0x01 ∷ 0x00 ∷ 0x01 ∷ 0x02 ∷ 0x69 ∷ 0x31 ∷ (digest
    ++ (0x00 ∷ 0x00 ∷ 0x00 ∷ 0x00 ∷ 0x00 ∷ 0x00 ∷ 0x00 ∷ 0x64 ∷ []))

-- its one piece of rows
abbrev pub rows_of_i1 : List ℕ
rows_of_i1 =
    0x45 ∷ 0x01 ∷ 0x00 ∷ 0x03
    ∷ 0x03 ∷ 0x05 ∷ 0x6d ∷ 0x65 ∷ 0x74 ∷ 0x72 ∷ 0x6f ∷ 0x01
    ∷ 0x0c ∷ 0x01 ∷ 0x05 ∷ 0x6d ∷ 0x65 ∷ 0x74 ∷ 0x72 ∷ 0x6f
    ∷ 0x02 ∷ 0x00 ∷ 0x00 ∷ 0x00 ∷ 0x00 ∷ 0x00 ∷ 0x00 ∷ 0x00 ∷ 0x01
    ∷ 0x0c ∷ 0x03 ∷ 0x05 ∷ 0x6d ∷ 0x65 ∷ 0x74 ∷ 0x72 ∷ 0x6f
    ∷ 0x02 ∷ 0x00 ∷ 0x00 ∷ 0x00 ∷ 0x00 ∷ 0x00 ∷ 0x00 ∷ 0x00 ∷ 0x01 ∷ []
