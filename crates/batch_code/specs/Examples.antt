-- The first batch of the examples, and its bytes.
use Rattle.std.specs.Prelude.{ℕ, List, [], ◌∷◌, ◌++◌, Some, codes}
use Rattle.alto_rows.specs.Accepted.{Accepted}
use Rattle.alto_rows.specs.declared.key.Key.TheVariants as key
use Rattle.alto_rows.specs.declared.resource.Resource.TheVariants as resource
use Rattle.alto_rows.specs.declared.value.Value.TheVariants as value

-- the import i1 with this digest, at 100: metro is declared, and its network map and its property map are at 1
abbrev pub import_i1 : List ℕ → Accepted
import_i1 digest = record {
  id = codes "i1";
  digest = digest;
  moment = 100;
  writes =
      record { key = key.Net (codes "metro"); value = Some value.Unit }
      ∷ record { key = key.Seq (resource.Net (codes "metro")); value = Some (value.Num 1) }
      ∷ record { key = key.Seq (resource.Prop (codes "metro")); value = Some (value.Num 1) } ∷ [];
}

-- its bytes
abbrev pub bytes_of_i1 : List ℕ → List ℕ
bytes_of_i1 digest =
    0x42 ∷ 0x01 ∷ 0x02 ∷ 0x69 ∷ 0x31 ∷ (digest
    ++ (0x00 ∷ 0x00 ∷ 0x00 ∷ 0x00 ∷ 0x00 ∷ 0x00 ∷ 0x00 ∷ 0x64 ∷ 0x00 ∷ 0x00 ∷ 0x00 ∷ 0x03
    ∷ 0x03 ∷ 0x05 ∷ 0x6d ∷ 0x65 ∷ 0x74 ∷ 0x72 ∷ 0x6f ∷ 0x01
    ∷ 0x0c ∷ 0x01 ∷ 0x05 ∷ 0x6d ∷ 0x65 ∷ 0x74 ∷ 0x72 ∷ 0x6f
    ∷ 0x02 ∷ 0x00 ∷ 0x00 ∷ 0x00 ∷ 0x00 ∷ 0x00 ∷ 0x00 ∷ 0x00 ∷ 0x01
    ∷ 0x0c ∷ 0x03 ∷ 0x05 ∷ 0x6d ∷ 0x65 ∷ 0x74 ∷ 0x72 ∷ 0x6f
    ∷ 0x02 ∷ 0x00 ∷ 0x00 ∷ 0x00 ∷ 0x00 ∷ 0x00 ∷ 0x00 ∷ 0x00 ∷ 0x01 ∷ []))
