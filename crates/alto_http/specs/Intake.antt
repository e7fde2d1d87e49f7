-- What reading does to the bytes that were read ahead, and to what is left.
use Rattle.std.specs.Prelude.{◌≡◌, ℕ, List, ◌++◌, Option, Result, Ok, Err}
use Rattle.alto_http.specs.Link.{followed_by, one_more}
use Rattle.alto_http.specs.declared.fault.HeadFault.{HeadFault}
use Rattle.alto_http.specs.declared.fault.HeadFault.TheVariants.{TooLarge, BadHead, Coded, NoLength, BodyTooLarge, Cut}
use Rattle.alto_http.specs.declared.fault.HeadFault.TheVariants.{ReadFault, Memory}

-- a piece came from the link, and stands behind the bytes that were ahead
pub record ReadsAhead (ahead : List ℕ) (left : Option (List ℕ)) (ahead' : List ℕ) (left' : Option (List ℕ))
    : Type 0 where
  pub piece : List ℕ
  pub behind : ahead' ≡ ahead ++ piece
  pub given : left ≡ followed_by piece left'

-- nothing is lost: what was ahead and left is what was taken, and what is ahead and left now
abbrev pub KeepsWhole : List ℕ → Option (List ℕ) → List ℕ → Option (List ℕ) → Type 0
KeepsWhole ahead left ahead' left' = (taken : List ℕ) × (followed_by ahead left ≡ followed_by (taken ++ ahead') left')

-- what was ahead and what the link gave are these bytes, of which this holds
abbrev pub GivesOnly : (List ℕ → Type 0) → List ℕ → Option (List ℕ) → Option (List ℕ) → Type 0
GivesOnly P ahead left left' = (given : List ℕ) × (followed_by ahead left ≡ followed_by given left') × P given

-- the same, where the bytes that were ahead stand first
abbrev pub GivesBehind : (List ℕ → Type 0) → List ℕ → Option (List ℕ) → Option (List ℕ) → Type 0
GivesBehind P ahead left left' = (given : List ℕ) × ReadsAhead ahead left given left' × P given

-- the count of failed reads after a call: one more where it answers a failed read
abbrev pub reads_after : {T : Type 0} → Result T HeadFault → ℕ → ℕ
reads_after (Ok value) n = n
reads_after (Err ReadFault) n = one_more n
reads_after (Err TooLarge) n = n
reads_after (Err BadHead) n = n
reads_after (Err Coded) n = n
reads_after (Err NoLength) n = n
reads_after (Err BodyTooLarge) n = n
reads_after (Err Cut) n = n
reads_after (Err Memory) n = n
