-- A request stands whole in the bytes before what is cut off behind it.
use Rattle.std.proofs.Common.{◌≡◌, ℕ, ◌+◌, ◌<◌, ◌≤◌, List, [], ◌++◌, length, take, drop, ap, sym, subst, ◌∙◌, ⊎_elim}
use Rattle.std.proofs.Common.{append_assoc, arith, length-append, length-drop}
use Rattle.std.proofs.lemmas.Bool.{cases_lt, false≢true}
use Rattle.std.proofs.lemmas.List.{take-append-le, take-append-drop, drop-append-le, length-take-le}
use Rattle.std.proofs.Math.Seq.{drop-append_seam}
use Rattle.alto_http.specs.Head.{breaks_before, ends_in_empty_line, IsHeadEnd}
use Rattle.alto_http.specs.Laws.{BeginNeedsNoMore}
use Rattle.alto_http.specs.Request.{Passes}
use Rattle.alto_http.specs.Splits.{IsHeadAt}
use Rattle.alto_http.proofs.Heads.{breaks_append, breaks_all}

-- the end of a head is seen in a prefix that holds it
head_end_front : (front more : List ℕ) (n : ℕ) → n ≤ length front → IsHeadEnd (front ++ more) n → IsHeadEnd front n
head_end_front front more n h is = record {
  within = h;
  ends = rw (take-append-le n front more h) at is.ends;
  first = λ m lt. (let le : m ≤ length front = omega arith in
      ap ends_in_empty_line (sym (take-append-le m front more le))) ∙ is.first m lt;
}

-- the shortest prefix that ends in an empty line has some bytes
some_bytes : (bytes : List ℕ) (n : ℕ) → IsHeadEnd bytes n → 0 < n
some_bytes bytes n is =
    ⊎_elim (λ lt. lt)
    (λ ge. let zero : n ≡ 0 = omega arith in absurd (false≢true (rw zero at is.ends)))
    (cases_lt 0 n)

head_at_front : (front more : List ℕ) (start size : ℕ) → start + size ≤ length front
    → IsHeadAt (front ++ more) start size → IsHeadAt front start size
head_at_front front more start size h at =
    let le : start ≤ length front = omega arith in
    let ends : IsHeadEnd (drop start front ++ more) size = rw (drop-append-le start front more le) at at.ends in
    let some = some_bytes _ size ends in
    let short : breaks_before front < length front =
    ⊎_elim (λ lt. lt) (λ ge. absurd (omega (arith, breaks_all front more ge, at.behind_breaks)))
    (cases_lt (breaks_before front) (length front)) in
    record {
      behind_breaks = at.behind_breaks ∙ breaks_append front more short;
      ends = head_end_front (drop start front) more size (omega (arith, length-drop start front)) ends;
      within = at.within;
    }

pub begin_needs_no_more : BeginNeedsNoMore
begin_needs_no_more bytes request rest more a =
    let n = a.start + a.size in
    let head = take n bytes in
    let front = head ++ (request.body ++ rest) in
    let fits : n ≤ length bytes = omega (
      arith,
      a.head.ends.within,
      length-drop a.start bytes,
      some_bytes _ _ a.head.ends,
    ) in
    let long : length head ≡ n = length-take-le n bytes fits in
    let whole : bytes ≡ front ++ more =
    sym (take-append-drop n bytes) ∙ ap (λ behind. head ++ behind) a.body
    ∙ ap (λ behind. head ++ behind) (sym (append_assoc request.body rest more))
    ∙ sym (append_assoc head (request.body ++ rest) more) in
    let within : n ≤ length front = omega (arith, length-append head (request.body ++ rest), long) in
    let P : List ℕ → Type 0 = λ xs. IsHeadAt xs a.start a.size in
    let at = head_at_front front more a.start a.size within (subst P whole a.head) in
    let start : a.start ≤ length front = omega arith in
    let size : a.size ≤ length (drop a.start front) = at.ends.within in
    let same : take a.size (drop a.start bytes) ≡ take a.size (drop a.start front) =
    ap (λ xs. take a.size (drop a.start xs)) whole
    ∙ ap (take a.size) (drop-append-le a.start front more start)
    ∙ take-append-le a.size (drop a.start front) more size in
    let Q : List ℕ → Type 0 = λ xs. Passes xs (record request { body = [] }) (length request.body) in (
      front,
      whole,
      record {
        start = a.start;
        size = a.size;
        head = at;
        passes = subst Q same a.passes;
        body = ap (λ k. drop k front) (sym long) ∙ drop-append_seam head (request.body ++ rest);
      },
    )
