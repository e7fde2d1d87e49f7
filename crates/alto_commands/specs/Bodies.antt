-- The body of an import: the input of a console to its end.
use Rattle.std.specs.Prelude.{◌≡◌, ℕ, ◌+◌, ◌≤◌, List, ◌++◌, length, Option, Result, Err, codes}
use Rattle.alto_http.specs.Link.{IsAtEnd, followed_by, one_more}
use Rattle.alto_commands.specs.declared.fault.BodyFault.{BodyFault}
use Rattle.alto_commands.specs.declared.fault.BodyFault.TheVariants as fault
use Rattle.alto_commands.specs.Reports.{Report, line_end, says, silent}

-- the most bytes of a body: 4 MiB
abbrev pub most_bytes : ℕ
most_bytes = 4194304

-- these bytes came of those that were left
abbrev pub Came : List ℕ → Option (List ℕ) → Option (List ℕ) → Type 0
Came bytes left left' = left ≡ followed_by bytes left'

-- a body is all that was left, and no more than a body may have
pub record IsBody (body : List ℕ) (left left' : Option (List ℕ)) : Type 0 where
  pub came : Came body left left'
  pub ended : IsAtEnd left'
  pub within : length body ≤ most_bytes

-- why no body is read: a byte more came than it may have, or a read failed before that
abbrev pub IsNoBody : BodyFault → Option (List ℕ) → Option (List ℕ) → Type 0
IsNoBody fault.TooLarge left left' = (bytes : List ℕ) × Came bytes left left' × (length bytes ≡ most_bytes + 1)
IsNoBody fault.ReadFault left left' = (bytes : List ℕ) × Came bytes left left' × (length bytes ≤ most_bytes)
IsNoBody fault.Memory left left' = (bytes : List ℕ) × Came bytes left left'

-- what is told of it
abbrev pub body_report : BodyFault → Report
body_report fault.TooLarge = says 13 (codes "body too large" ++ line_end)
body_report fault.ReadFault = silent 4
body_report fault.Memory = silent 1

-- the count of failed reads then: one more where a read failed
abbrev pub reads_after : {T : Type 0} → Result T BodyFault → ℕ → ℕ
reads_after (Err fault.ReadFault) n = one_more n
reads_after _ n = n
