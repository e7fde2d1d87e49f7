-- What a command prints, and the status with which it ends then.
use Rattle.std.specs.Prelude.{◌≡◌, ◌⊎◌, ℕ, ◌<◌, List, [], ◌∷◌, length, take, Option}
use Rattle.alto_http.specs.Link.{extended}

-- a status, and the text that is printed before it
pub record Report : Type 0 where
  pub status : ℕ
  pub text : List ℕ

-- the end of a line
abbrev pub line_end : List ℕ
line_end = 10 ∷ []

-- a status behind a text
abbrev pub says : ℕ → List ℕ → Report
says status text = record { status = status; text = text }

-- a status alone
abbrev pub silent : ℕ → Report
silent status = record { status = status; text = [] }

-- a report is made, with this status, on a console with these bytes out before and after: the text is out, and the
-- status is the report's; or a write failed inside the text, 5; or memory for the text ran out, 1
unfoldable pub Tells : Report → ℕ → Option (List ℕ) → Option (List ℕ) → Type 0
Tells report result out out' =
    ((result ≡ report.status) × (out' ≡ extended out report.text))
    ⊎ ((result ≡ 5) × ((size : ℕ) × (size < length report.text) × (out' ≡ extended out (take size report.text))))
    ⊎ ((result ≡ 1) × (out' ≡ out))
