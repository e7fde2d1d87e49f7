-- Where the head of a request stands among the bytes (RFC 9112, sections 2.1 and 2.2).
use Rattle.std.specs.Prelude.{◌≡◌, ℕ, ◌<◌, ◌≤◌, Bool, false, ◌||◌, ◌==◌, nat_eq, IsTrue, List, [], ◌∷◌, take, length}
use Rattle.std.specs.Prelude.{count_by}
use Rattle.std.specs.List.{ends_with, prefix_len}
use Rattle.httparse.specs.Ascii.{line_feed, carriage_return, crlf_bytes}

-- a byte of the line breaks that may stand before a request
abbrev pub is_break : ℕ → Bool
is_break b = b == carriage_return || b == line_feed

-- how many such bytes come first
abbrev pub breaks_before : List ℕ → ℕ
breaks_before bytes = prefix_len is_break bytes

-- the bytes end in an empty line: LF LF, or LF CR LF
abbrev pub ends_in_empty_line : List ℕ → Bool
ends_in_empty_line bytes =
    ends_with nat_eq bytes (line_feed ∷ line_feed ∷ []) || ends_with nat_eq bytes (line_feed ∷ crlf_bytes)

-- no prefix of up to n bytes ends in an empty line
abbrev pub HasNoEnd : ℕ → List ℕ → Type 0
HasNoEnd n bytes = (m : ℕ) → m ≤ n → ends_in_empty_line (take m bytes) ≡ false

-- the head is the shortest prefix that ends in an empty line, and has n bytes
pub record IsHeadEnd (bytes : List ℕ) (n : ℕ) : Type 0 where
  pub within : n ≤ length bytes
  pub ends : IsTrue (ends_in_empty_line (take n bytes))
  pub first : (m : ℕ) → m < n → ends_in_empty_line (take m bytes) ≡ false

-- how many lines the bytes end
abbrev pub line_feeds : List ℕ → ℕ
line_feeds bytes = count_by (λ b. b == line_feed) bytes
