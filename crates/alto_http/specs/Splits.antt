-- What the bytes of a connection begin with: a request, or why there is none; and how they split into
-- requests, one behind another, and an end (RFC 9112, section 2).
use Rattle.std.specs.Prelude.{◌≡◌, ◌⊎◌, ℕ, ◌+◌, ◌-◌, ◌<◌, ◌≤◌, true, false, List, [], ◌∷◌, ◌++◌, length, take, drop}
use Rattle.alto_http.specs.declared.fault.HeadFault.{HeadFault}
use Rattle.alto_http.specs.declared.fault.HeadFault.TheVariants.{TooLarge}
use Rattle.alto_http.specs.Head.{breaks_before, HasNoEnd, IsHeadEnd}
use Rattle.alto_http.specs.Request.{RequestData, Passes, FailsBy}

-- the most bytes that a head has up to its end, with the line breaks before it
abbrev pub head_limit : ℕ
head_limit = 16384

-- a head of `size` bytes stands behind `start` line breaks
pub record IsHeadAt (bytes : List ℕ) (start size : ℕ) : Type 0 where
  pub behind_breaks : start ≡ breaks_before bytes
  pub ends : IsHeadEnd (drop start bytes) size
  pub within : start + size ≤ head_limit

-- there are line breaks alone, and room for a head behind them
abbrev pub IsBlank : List ℕ → Type 0
IsBlank bytes = (breaks_before bytes ≡ length bytes) × (length bytes < head_limit)

-- as many bytes as a head may have hold no end of one
abbrev pub IsTooLong : List ℕ → Type 0
IsTooLong bytes =
    (head_limit ≤ length bytes) × HasNoEnd (head_limit - breaks_before bytes) (drop (breaks_before bytes) bytes)

-- the bytes end inside a head that may still end
abbrev pub EndsInHead : List ℕ → Type 0
EndsInHead bytes =
    (length bytes < head_limit) × (breaks_before bytes < length bytes)
    × HasNoEnd (length (drop (breaks_before bytes) bytes)) (drop (breaks_before bytes) bytes)

-- the bytes begin with this request, and the rest follows it
pub record Begins (bytes : List ℕ) (request : RequestData) (rest : List ℕ) : Type 0 where
  pub start : ℕ
  pub size : ℕ
  pub head : IsHeadAt bytes start size
  pub passes : Passes (take size (drop start bytes)) (record request { body = [] }) (length request.body)
  pub body : drop (start + size) bytes ≡ request.body ++ rest

-- the bytes begin with what is no request, and this check is the first that fails
abbrev pub IsRefused : List ℕ → HeadFault → Type 0
IsRefused bytes fault =
    (IsTooLong bytes × (fault ≡ TooLarge))
    ⊎ ((start : ℕ) × (size : ℕ) × IsHeadAt bytes start size × FailsBy (take size (drop start bytes)) fault)

-- the bytes hold a whole head, and end inside the body that it says
abbrev pub EndsInBody : List ℕ → Type 0
EndsInBody bytes =
    (start : ℕ) × (size : ℕ) × (request : RequestData) × (length_of_body : ℕ) × IsHeadAt bytes start size
    × Passes (take size (drop start bytes)) request length_of_body
    × (length (drop (start + size) bytes) < length_of_body)

-- the bytes end inside a request: in its head, or in its body
abbrev pub EndsInside : List ℕ → Type 0
EndsInside bytes = EndsInHead bytes ⊎ EndsInBody bytes

-- the bytes hold no whole request, and more may make one: line breaks alone, or a request that has begun
abbrev pub IsUnfinished : List ℕ → Type 0
IsUnfinished bytes = IsBlank bytes ⊎ EndsInside bytes

-- what the last of the bytes are: nothing but line breaks, whatever follows a request that closes, what is
-- refused by the first check that fails, or a request that is cut
pub data Ending : Type 0 where
  clean closed cut : Ending
  refused : HeadFault → Ending

-- the bytes end so, without one more request
abbrev pub Ends : List ℕ → Ending → Type 0
Ends bytes clean = IsBlank bytes
Ends bytes closed = ⊥
Ends bytes cut = EndsInside bytes
Ends bytes (refused fault) = IsRefused bytes fault

-- the bytes are these requests and then this ending; nothing is read behind a request that closes
abbrev pub Splits : List ℕ → List RequestData → Ending → Type 0
Splits bytes [] ending = Ends bytes ending
Splits bytes (request ∷ requests) ending =
    (rest : List ℕ) × Begins bytes request rest
    × (((request.close ≡ true) × (requests ≡ []) × (ending ≡ closed))
    ⊎ ((request.close ≡ false) × Splits rest requests ending))
