-- Why reading ended before a head was there whole, by its fault.
use Rattle.std.specs.Prelude.{◌≡◌, ℕ, ◌<◌, List, length, drop, Option}
use Rattle.alto_http.specs.declared.fault.HeadFault.{HeadFault}
use Rattle.alto_http.specs.declared.fault.HeadFault.TheVariants.{TooLarge, Cut, ReadFault}
use Rattle.alto_http.specs.Head.{breaks_before, HasNoEnd}
use Rattle.alto_http.specs.Link.{IsAtEnd}
use Rattle.alto_http.specs.Splits.{head_limit, IsBlank, IsTooLong, EndsInHead, IsUnfinished}

-- line breaks alone came: as many bytes as a head may have, or a read failed
abbrev pub StartFails : HeadFault → List ℕ → Type 0
StartFails TooLarge ahead = (breaks_before ahead ≡ length ahead) × (length ahead ≡ head_limit)
StartFails ReadFault ahead = IsBlank ahead
StartFails fault ahead = ⊥

-- no end of a head stands behind the first `start` bytes
abbrev pub HasNoEndBehind : ℕ → List ℕ → Type 0
HasNoEndBehind start ahead = HasNoEnd (length (drop start ahead)) (drop start ahead)

-- no end of the head came: there is no room for more, the input ended, or a read failed
abbrev pub EndFails : HeadFault → ℕ → List ℕ → Option (List ℕ) → Type 0
EndFails TooLarge start ahead left = HasNoEndBehind start ahead × (length ahead ≡ head_limit)
EndFails Cut start ahead left = HasNoEndBehind start ahead × (length ahead < head_limit) × IsAtEnd left
EndFails ReadFault start ahead left = HasNoEndBehind start ahead × (length ahead < head_limit)
EndFails fault start ahead left = ⊥

-- no head came whole: it is too long, the input ended inside it, or a read failed
abbrev pub HeadFails : HeadFault → List ℕ → Option (List ℕ) → Type 0
HeadFails TooLarge ahead left = IsTooLong ahead
HeadFails Cut ahead left = EndsInHead ahead × IsAtEnd left
HeadFails ReadFault ahead left = IsUnfinished ahead
HeadFails fault ahead left = ⊥
