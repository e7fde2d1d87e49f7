-- What a call on a link does to the bytes that it has still to give, to those that it has put out,
-- and to its counts of faults.
use Rattle.std.specs.Prelude.{◌≡◌, ℕ, ◌+◌, ◌-◌, ◌^◌, min, List, [], ◌++◌, Option, Some, None, Result, Ok, Err, IfSome}

-- a count that has risen by one: it stops at the last number of 64 bits
abbrev pub one_more : ℕ → ℕ
one_more n = min (n + 1) (2 ^ 64 - 1)

-- a count of faults after a call: one more where the call failed
abbrev pub count_after : {T E : Type 0} → Result T E → ℕ → ℕ
count_after (Ok value) n = n
count_after (Err fault) n = one_more n

-- these bytes and then what is left, where that is known
abbrev pub followed_by : List ℕ → Option (List ℕ) → Option (List ℕ)
followed_by bytes None = None
followed_by bytes (Some left) = Some (bytes ++ left)

-- what is out once this piece is, where what was out is known
abbrev pub extended : Option (List ℕ) → List ℕ → Option (List ℕ)
extended None piece = None
extended (Some out) piece = Some (out ++ piece)

-- nothing is left, where what is left is known
abbrev pub IsAtEnd : Option (List ℕ) → Type 0
IsAtEnd left = IfSome left (λ bytes. bytes ≡ [])
