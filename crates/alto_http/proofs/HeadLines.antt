-- How many lines a head has, by its fields.
use Rattle.std.proofs.Common.{◌≡◌, ℕ, ◌+◌, ◌≤◌, List, [], ◌∷◌, ◌++◌, length, refl, ap, ◌∙◌, arith}
use Rattle.std.proofs.lemmas.List.Sums.{sum_by-append}
use Rattle.std.specs.List.{flat_map}
use Rattle.httparse.specs.Grammar.{LineEnd, crlf, lf, print_end, Field, print_field, print_blank, print_version}
use Rattle.httparse.specs.Grammar.{print_section, RequestHead, ReadsRequest, HasNoRequest}
use Rattle.httparse.proofs.GrammarLemmas.{print_request-append}
use Rattle.alto_http.specs.Head.{line_feeds}
use Rattle.alto_http.specs.Request.{HasNoRequestWithin}

line_feeds-append : (a b : List ℕ) → line_feeds (a ++ b) ≡ line_feeds a + line_feeds b
line_feeds-append a b = sum_by-append _ a b

line_feeds-end : (e : LineEnd) → line_feeds (print_end e) ≡ 1
line_feeds-end crlf = refl
line_feeds-end lf = refl

one_line : (f : Field) → 1 ≤ line_feeds (print_field f)
one_line f =
    omega (arith, line_feeds-append (f.name ++ 58 ∷ f.raw) (print_end f.end), line_feeds-end f.end)

-- each field is a line
line_each : (fields : List Field) → length fields ≤ line_feeds (flat_map print_field fields)
line_each [] = omega arith
line_each (f ∷ fields) =
    omega (arith, line_feeds-append (print_field f) (flat_map print_field fields), one_line f, line_each fields)

-- a head of few lines has few fields
pub few_fields : (bytes : List ℕ) (h : RequestHead) (rest : List ℕ) → ReadsRequest bytes h rest → line_feeds bytes ≤ 66
    → length h.fields ≤ 64
few_fields bytes h rest reads few =
    let section = print_section h.fields h.last in
    let tail = print_end h.line_end ++ (section ++ rest) in
    let version = print_version h.minor ++ tail in
    let target = h.target ++ 32 ∷ version in
    let whole : line_feeds bytes ≡ line_feeds (print_blank h.blank ++ (h.method ++ 32 ∷ target)) =
    ap line_feeds (reads.1 ∙ print_request-append h rest) in
    let a = line_feeds-append (print_blank h.blank) (h.method ++ 32 ∷ target) in
    let b = line_feeds-append h.method (32 ∷ target) in
    let c : line_feeds (32 ∷ target) ≡ line_feeds target = refl in
    let d = line_feeds-append h.target (32 ∷ version) in
    let e : line_feeds (32 ∷ version) ≡ line_feeds version = refl in
    let f = line_feeds-append (print_version h.minor) tail in
    let g = line_feeds-append (print_end h.line_end) (section ++ rest) in
    let i = line_feeds-append section rest in
    let j = line_feeds-append (flat_map print_field h.fields) (print_end h.last) in
    omega (
      arith,
      whole,
      a,
      b,
      c,
      d,
      e,
      f,
      g,
      i,
      j,
      line_feeds-end h.line_end,
      line_feeds-end h.last,
      line_each h.fields,
    )

-- bytes of few lines begin with no head where they begin with none of few fields
pub no_request : (bytes : List ℕ) (room : ℕ) → 64 ≤ room → line_feeds bytes ≤ 66 → HasNoRequestWithin room bytes
    → HasNoRequest bytes
no_request bytes room enough few none h rest reads =
    none h rest reads (omega (arith, enough, few_fields bytes h rest reads few))
