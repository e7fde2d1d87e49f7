-- A head that the grammar reads ends in an empty line, so it is the shortest prefix that does.
use Rattle.std.proofs.Common.{◌≡◌, ℕ, ◌+◌, ◌-◌, ◌≤◌, Bool, true, false, ◌||◌, List, [], ◌∷◌, ◌++◌, length, take, drop}
use Rattle.std.proofs.Common.{refl, ap, sym, ◌∙◌, ⊎_elim, append_assoc, length-append, length-take, arith}
use Rattle.std.specs.List.{flat_map}
use Rattle.std.proofs.lemmas.Bool.{cases_lt, false≢true}
use Rattle.std.proofs.lemmas.List.{nil_from_length, take-append-le, take-append-drop}
use Rattle.std.proofs.Math.Seq.{drop-append_seam, take-append_seam}
use Rattle.httparse.specs.Ascii.{line_feed, carriage_return, colon, space}
use Rattle.httparse.specs.Grammar.{LineEnd, crlf, lf, print_end, Field, print_field, print_blank, print_version}
use Rattle.httparse.specs.Grammar.{print_section, RequestHead, print_request, ReadsRequest}
use Rattle.alto_http.specs.Head.{ends_in_empty_line, IsHeadEnd}
use Rattle.alto_http.specs.Laws.{HeadIsReadWhole}

drop_back : (a s : List ℕ) → drop (length (a ++ s) - length s) (a ++ s) ≡ s
drop_back a s =
    let long : length (a ++ s) - length s ≡ length a = omega (arith, length-append a s) in
    ap (λ n. drop n (a ++ s)) long ∙ drop-append_seam a s

ends_lf_lf : (a : List ℕ) → ends_in_empty_line (a ++ line_feed ∷ line_feed ∷ []) ≡ true
ends_lf_lf a = rw (drop_back a (line_feed ∷ line_feed ∷ [])) refl

or_true : (a : Bool) → (a || true) ≡ true
or_true true = refl
or_true false = refl

ends_lf_crlf : (a : List ℕ) → ends_in_empty_line (a ++ line_feed ∷ carriage_return ∷ line_feed ∷ []) ≡ true
ends_lf_crlf a = rw (drop_back a (line_feed ∷ carriage_return ∷ line_feed ∷ [])) (or_true _)

-- a line end and one more are an empty line
ends_in_two : (a : List ℕ) (line last : LineEnd) → ends_in_empty_line (a ++ (print_end line ++ print_end last)) ≡ true
ends_in_two a lf lf = ends_lf_lf a
ends_in_two a lf crlf = ends_lf_crlf a
ends_in_two a crlf lf =
    ap ends_in_empty_line (sym (append_assoc a (carriage_return ∷ []) (line_feed ∷ line_feed ∷ [])))
    ∙ ends_lf_lf (a ++ carriage_return ∷ [])
ends_in_two a crlf crlf =
    ap ends_in_empty_line (sym (append_assoc a (carriage_return ∷ []) (line_feed ∷ carriage_return ∷ line_feed ∷ [])))
    ∙ ends_lf_crlf (a ++ carriage_return ∷ [])

field_regroup : (line name raw end more last a two : List ℕ) → end ++ (more ++ last) ≡ a ++ two
    → line ++ ((((name ++ colon ∷ raw) ++ end) ++ more) ++ last) ≡ (line ++ (name ++ colon ∷ (raw ++ a))) ++ two
field_regroup line name raw end more last a two e =
    simp append_assoc (ap (λ xs. line ++ (name ++ colon ∷ (raw ++ xs))) e)

-- behind a line end, the fields and the empty line end in two line ends
section_ends : (fields : List Field) (line last : LineEnd)
    → (a : List ℕ) × (end : LineEnd) × (print_end line ++ (flat_map print_field fields ++ print_end last)
    ≡ a ++ (print_end end ++ print_end last))
section_ends [] line last = ([], line, refl)
section_ends (f ∷ fields) line last =
    let rest = section_ends fields f.end last in (
      print_end line ++ (f.name ++ colon ∷ (f.raw ++ rest.0)),
      rest.1,
      field_regroup (print_end line) f.name f.raw (print_end f.end) (flat_map print_field fields)
          (print_end last) rest.0
          (print_end rest.1 ++ print_end last) rest.2,
    )

head_regroup : (blank method target version section a two : List ℕ) → section ≡ a ++ two
    → blank ++ (method ++ space ∷ (target ++ space ∷ (version ++ section)))
    ≡ (blank ++ (method ++ space ∷ (target ++ space ∷ (version ++ a)))) ++ two
head_regroup blank method target version section a two e =
    simp append_assoc (ap (λ xs. blank ++ (method ++ space ∷ (target ++ space ∷ (version ++ xs)))) e)

parts_regroup : (blank method target version end section : List ℕ)
    → ((((blank ++ method) ++ space ∷ target) ++ space ∷ version) ++ end) ++ section
    ≡ blank ++ (method ++ space ∷ (target ++ space ∷ (version ++ (end ++ section))))
parts_regroup blank method target version end section = simp append_assoc

-- the text of a head, part behind part
print_request_parts : (h : RequestHead) → print_request h
    ≡ print_blank h.blank ++ (h.method ++ space
    ∷ (h.target ++ space ∷ (print_version h.minor ++ (print_end h.line_end ++ print_section h.fields h.last))))
unfolding print_request
print_request_parts h =
    parts_regroup (print_blank h.blank) h.method h.target (print_version h.minor) (print_end h.line_end)
    (print_section h.fields h.last)

-- a head ends in an empty line
print_request_ends : (h : RequestHead) → ends_in_empty_line (print_request h) ≡ true
print_request_ends h =
    let section = section_ends h.fields h.line_end h.last in
    let a = print_blank h.blank ++ (h.method ++ space ∷ (h.target ++ space ∷ (print_version h.minor ++ section.0))) in
    ap ends_in_empty_line (print_request_parts h
    ∙ head_regroup (print_blank h.blank) h.method h.target (print_version h.minor)
    (print_end h.line_end ++ print_section h.fields h.last)
    section.0 (print_end section.1 ++ print_end h.last) section.2)
    ∙ ends_in_two a section.1 h.last

take_less : (n m : ℕ) (bytes : List ℕ) → n ≤ m → m ≤ length bytes → take n (take m bytes) ≡ take n bytes
take_less n m bytes le within =
    let long : n ≤ length (take m bytes) = simp length-take (omega arith) in
    sym (take-append-le n (take m bytes) (drop m bytes) long) ∙ ap (take n) (take-append-drop m bytes)

read_whole : (bytes : List ℕ) (size : ℕ) (h : RequestHead) (rest : List ℕ) → IsHeadEnd bytes size
    → ReadsRequest (take size bytes) h rest → rest ≡ []
read_whole bytes size h rest is reads =
    let text = print_request h in
    let n = length text in
    let long : length (take size bytes) ≡ size = simp length-take (omega (arith, is.within)) in
    let sizes : size ≡ n + length rest = sym long ∙ ap length reads.1 ∙ length-append text rest in
    let front : take n (take size bytes) ≡ text = ap (take n) reads.1 ∙ take-append_seam text rest in
    ⊎_elim
    (λ lt. let here : take n bytes ≡ text = sym (take_less n size bytes (omega arith) is.within) ∙ front in
    absurd (false≢true (sym (is.first n lt) ∙ ap ends_in_empty_line here ∙ print_request_ends h)))
    (λ ge. nil_from_length rest (omega (arith, ge, sizes)))
    (cases_lt n size)

pub head_is_read_whole : HeadIsReadWhole
head_is_read_whole bytes start size head rest at reads = read_whole (drop start bytes) size head rest at.ends reads
