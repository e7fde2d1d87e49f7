-- The records of a body that are still to be read.
use Rattle.std.specs.Prelude.{◌≡◌, ℕ, ◌+◌, Bool, true, List, [], ◌∷◌, length, Option, Some, None, IsSome, if◌then◌else◌}
use Rattle.std.proofs.Common.{Bor}
use Rattle.csv.specs.Reading.{default_config, Ready, records_from, source_of}
use Rattle.csv.specs.declared.parser.State.{State}
use Rattle.csv.specs.declared.reader.Reader.{Reader}
use Rattle.csv.specs.declared.reader.Trim.TheVariants as trim

-- the records of bytes, as a reader in this state reads them
abbrev pub records_of : State → Option (List ℕ) → List (List (List ℕ))
records_of state None = []
records_of state (Some bytes) = records_from default_config (length bytes + 1) state bytes

-- the records that a reader of bytes in memory has yet to give
abbrev pub unread : Reader (Bor (List ℕ)) → List (List (List ℕ))
unread reader = records_of reader.state (source_of (λ bytes. Some bytes.now) reader)

-- a reader of records of any length, none of which is a header, that drops nothing and hasn't failed
pub record IsPlain (reader : Reader (Bor (List ℕ))) : Type 0 where
  pub config : reader.config ≡ default_config
  pub flexible : reader.flexible ≡ true
  pub untrimmed : reader.trim ≡ trim.None
  pub ready : Ready reader
  pub source : IsSome (source_of (λ bytes. Some bytes.now) reader)

-- the record at hand, if there is one, and those that follow
abbrev pub from_here : Bool → List (List ℕ) → List (List (List ℕ)) → List (List (List ℕ))
from_here found fields more = if found then fields ∷ more else []
