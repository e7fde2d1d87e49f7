-- The path that a request target asks for (RFC 9112, section 3.2), and its segments.
use Rattle.std.specs.Prelude.{ℕ, List, length, drop, unwrap_or, [], if◌then◌else◌, codes, nat_eq, ◌==◌}
use Rattle.std.specs.List.{before_first, position_or_len, starts_with, slice_split, slice_get}
use Rattle.percent_encoding.specs.Percent.{percent_decode}

-- the code of a slash
abbrev pub slash : ℕ
slash = 47

-- the code of a question mark
abbrev pub question_mark : ℕ
question_mark = 63

-- an absolute target begins with this
abbrev pub scheme : List ℕ
scheme = codes "http://"

-- a text from its first slash on
abbrev pub from_slash : List ℕ → List ℕ
from_slash text = drop (position_or_len (λ b. b == slash) text) text

-- an absolute target without its scheme and host
abbrev pub without_host : List ℕ → List ℕ
without_host target = if starts_with nat_eq target scheme then from_slash (drop (length scheme) target) else target

-- the path of a target: what stands before a question mark, without a host
abbrev pub path_of : List ℕ → List ℕ
path_of target = without_host (before_first (λ b. b == question_mark) target)

-- what stands between the slashes of a path, from 0: before its first slash
abbrev pub raw_segment : List ℕ → ℕ → List ℕ
raw_segment path place = unwrap_or (slice_get (slice_split (λ b. b == slash) path) place) []

-- a segment with its escapes read (RFC 3986, section 2.1)
abbrev pub segment : List ℕ → ℕ → List ℕ
segment path place = percent_decode (raw_segment path place)
