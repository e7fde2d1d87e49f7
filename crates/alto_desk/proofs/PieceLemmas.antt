-- Rows that are the pieces of a base, and the first that isn't one in its place.
use Rattle.std.proofs.Common.{◌≡◌, ◌≢◌, ℕ, ℤ, zero, suc, ◌+◌, ◌≤◌, ◌<◌, pos, List, [], ◌∷◌, ◌++◌, length, Some}
use Rattle.std.proofs.Common.{slice_get, refl, ap, sym, ◌∙◌, subst, arith, inl, inr}
use Rattle.std.proofs.Math.Seq.{take-append_seam, take-length}
use Rattle.std.proofs.lemmas.Bool.{cases_lt}
use Rattle.std.proofs.lemmas.List.{append-nil, append_assoc, length-take, take_all, take-take}
use Rattle.std.proofs.lemmas.Option.{same_Some, slice_get_within}
use Rattle.std.specs.Prelude.{min, take}
use Rattle.alto_keeper.specs.Stored.{RowData, numbered}
use Rattle.base_code.specs.Bases.{BaseData, IsBase}
use Rattle.base_code.specs.Faults.{AreInPlace, IsBadPiece}
use Rattle.base_code.specs.Pieces.{base_pieces}
use Rattle.base_code.proofs.BaseLemmas.{base_in_place}
use Rattle.alto_desk.specs.Opening.{AreOf, IsDamagedPiece, texts_of}
use Rattle.alto_desk.specs.Pieces.{IsNumberedFront}
use Rattle.alto_desk.proofs.RecordLemmas.{length-numbered, numbered-append}

-- the bytes of numbered texts are the texts
texts_of-numbered : (k : ℕ) (texts : List (List ℕ)) → texts_of (numbered k texts) ≡ texts
texts_of-numbered k [] = refl
texts_of-numbered k (text ∷ texts) = ap (λ (more : List (List ℕ)). text ∷ more) (texts_of-numbered (k + 1) texts)

-- the first numbered texts are the numbered first texts
take-numbered : (n k : ℕ) (texts : List (List ℕ)) → take n (numbered k texts) ≡ numbered k (take n texts)
take-numbered zero k texts = refl
take-numbered (suc n) k [] = refl
take-numbered (suc n) k (text ∷ texts) = ap (λ (more : List RowData). record { n = pos k; bytes = text } ∷ more)
    (take-numbered n (k + 1) texts)

-- a numbered text has the number of its place
numbered_at : (k n : ℕ) (texts : List (List ℕ)) (row : RowData) → slice_get (numbered k texts) n ≡ Some row
    → row.n ≡ pos (k + n)
numbered_at k n [] row h = cc
numbered_at k zero (text ∷ texts) row h =
    let same : record { n = pos k; bytes = text } ≡ row = cc in
    rw (← same) (ap pos (omega arith))
numbered_at k (suc n) (text ∷ texts) row h = numbered_at (k + 1) n texts row h ∙ ap pos (omega arith)

-- ---- places

-- a row at a place
record HasRow (rows : List RowData) (n : ℕ) : Type 0 where
  row : RowData
  is : slice_get rows n ≡ Some row

has_row : (rows : List RowData) (n : ℕ) → n < length rows → HasRow rows n
has_row [] n within = absurd (omega arith)
has_row (row ∷ rows) zero within = record { row = row; is = refl }
has_row (row ∷ rows) (suc n) within =
    let below : HasRow rows n = has_row rows n (omega arith) in
    record { row = below.row; is = below.is }

-- the first rows have it too
slice_get-take : (n k : ℕ) (rows : List RowData) → k < n → slice_get (take n rows) k ≡ slice_get rows k
slice_get-take zero k rows less = absurd (omega arith)
slice_get-take (suc n) k [] less = refl
slice_get-take (suc n) zero (row ∷ rows) less = refl
slice_get-take (suc n) (suc k) (row ∷ rows) less = slice_get-take n k rows (omega arith)

-- behind a prefix
slice_get-behind : (front : List RowData) (row : RowData) (rest : List RowData)
    → slice_get (front ++ row ∷ rest) (length front) ≡ Some row
slice_get-behind [] row rest = refl
slice_get-behind (first ∷ front) row rest = slice_get-behind front row rest

-- ---- the rows up to the first whose number isn't its place

-- there are no more texts than rows
texts_within : (texts : List (List ℕ)) (rows : List RowData) → IsNumberedFront texts rows → length texts ≤ length rows
texts_within texts rows are =
    let count : min (length texts) (length rows) ≡ length texts = sym (length-take (length texts) rows)
    ∙ (ap length are.front ∙ length-numbered 0 texts) in
    omega (arith, count)

-- no longer prefix has the numbers of its places
numbers_end : (texts : List (List ℕ)) (rows : List RowData) (n : ℕ) → IsNumberedFront texts rows → n ≤ length rows
    → take n rows ≡ numbered 0 (texts_of (take n rows)) → n ≤ length texts
numbers_end texts rows n are within numbers =
    elim (cases_lt (length texts) n) [ inl more ↦ absurd (past more) | inr le ↦ le ]
  where
    past : length texts < n → ⊥
    past more =
        let next : HasRow rows (length texts) = has_row rows (length texts) (omega arith) in
        let here : slice_get (numbered 0 (texts_of (take n rows))) (length texts) ≡ Some next.row =
        ap (λ (all : List RowData). slice_get all (length texts)) (sym numbers)
        ∙ (slice_get-take n (length texts) rows more ∙ next.is) in
        are.next next.row next.is (numbered_at 0 (length texts) (texts_of (take n rows)) next.row here
        ∙ ap pos (omega arith))

-- the first of these rows are the first of these texts
front_at : (texts : List (List ℕ)) (rows : List RowData) (n : ℕ) → IsNumberedFront texts rows → n ≤ length texts
    → take n rows ≡ numbered 0 (take n texts)
front_at texts rows n are le =
    sym (take-take n (length texts) rows le) ∙ (ap (take n) are.front ∙ take-numbered n 0 texts)

-- their texts are those
texts_at : (texts : List (List ℕ)) (rows : List RowData) (n : ℕ) → IsNumberedFront texts rows → n ≤ length texts
    → texts_of (take n rows) ≡ take n texts
texts_at texts rows n are le = ap texts_of (front_at texts rows n are le) ∙ texts_of-numbered 0 (take n texts)

-- a base's rows all have the numbers of their places
base_front : (texts : List (List ℕ)) (rows : List RowData) (base : BaseData) → IsNumberedFront texts rows
    → AreOf rows base → texts ≡ base_pieces base
base_front texts rows base are whole =
    sym (take-length texts)
    ∙ (sym (texts_at texts rows (length texts) are (omega arith))
    ∙ (ap texts_of (take_all (length texts) rows (numbers_end texts rows (length rows) are (omega arith) numbers))
    ∙ pieces))
  where
    pieces : texts_of rows ≡ base_pieces base
    pieces = ap texts_of whole.pieces ∙ texts_of-numbered 0 (base_pieces base)

    numbers : take (length rows) rows ≡ numbered 0 (texts_of (take (length rows) rows))
    numbers = rw (take-length rows) (whole.pieces ∙ ap (numbered 0) (sym pieces))

-- ---- what is told

-- all rows have the numbers of their places, and their texts are a base's
pub whole_base : (texts : List (List ℕ)) (rows : List RowData) (base : BaseData) → IsNumberedFront texts rows
    → length texts ≡ length rows
    → IsBase base → texts ≡ base_pieces base → AreOf rows base
whole_base texts rows base are all is pieces = record {
  is_base = is;
  pieces = sym (take_all (length texts) rows (omega arith)) ∙ (are.front ∙ ap (numbered 0) pieces);
}

-- a base's texts with a row behind them that hasn't the number of its place
pub row_behind : (texts : List (List ℕ)) (rows : List RowData) (base : BaseData) → IsNumberedFront texts rows
    → length texts ≢ length rows
    → IsBase base → texts ≡ base_pieces base → IsDamagedPiece rows (length texts)
row_behind texts rows base are more is pieces = record {
  no_base = none;
  within = texts_within texts rows are;
  before = record {
    numbers = are.front ∙ ap (numbered 0)
        (sym (texts_at texts rows (length texts) are (omega arith) ∙ take-length texts));
    in_place = rw (texts_at texts rows (length texts) are (omega arith), take-length texts)
        (base_in_place texts (base, is, pieces));
  };
  longest = λ n le them. numbers_end texts rows n are le them.numbers;
}
  where
    none : (other : BaseData) → ¬ AreOf rows other
    none other whole =
        let same : length (base_pieces other) ≡ length rows =
        sym (ap length whole.pieces ∙ length-numbered 0 (base_pieces other)) in
        more (ap length (base_front texts rows other are whole) ∙ same)

-- a piece that isn't in its place
pub bad_piece : (texts : List (List ℕ)) (rows : List RowData) (place : ℕ) → IsNumberedFront texts rows
    → IsBadPiece texts place → IsDamagedPiece rows place
bad_piece texts rows place are bad = record {
  no_base = λ base whole. bad.no_base (base, whole.is_base, base_front texts rows base are whole);
  within = omega (arith, bad.within, texts_within texts rows are);
  before = record {
    numbers = front_at texts rows place are bad.within
        ∙ ap (numbered 0) (sym (texts_at texts rows place are bad.within));
    in_place = subst AreInPlace (sym (texts_at texts rows place are bad.within)) bad.before;
  };
  longest = λ n le them.
      let short : n ≤ length texts = numbers_end texts rows n are le them.numbers in
      bad.longest n short (subst AreInPlace (texts_at texts rows n are short) them.in_place);
}

-- ---- the loop over the rows

-- texts that begin the rows, with nothing behind them
pub front_all : (texts : List (List ℕ)) (rows rest : List RowData) → rows ≡ numbered 0 texts ++ rest → rest ≡ []
    → IsNumberedFront texts rows
front_all texts rows rest parts none = record {
  front = rw (whole, ← length-numbered 0 texts) (take-length (numbered 0 texts));
  next = λ row is. absurd (omega (
    arith,
    slice_get_within rows (length texts) row is,
    ap length whole
        ∙ length-numbered 0 texts,
  ));
}
  where
    whole : rows ≡ numbered 0 texts
    whole = parts ∙ (ap (λ (more : List RowData). numbered 0 texts ++ more) none ∙ append-nil (numbered 0 texts))

-- or with a row behind them that hasn't the number of its place
pub front_before : (texts : List (List ℕ)) (rows rest more : List RowData) (row : RowData)
    → rows ≡ numbered 0 texts ++ rest → rest ≡ row ∷ more
    → row.n ≢ pos (length texts) → IsNumberedFront texts rows
front_before texts rows rest more row parts behind other = record {
  front = rw (whole, ← length-numbered 0 texts) (take-append_seam (numbered 0 texts) (row ∷ more));
  next = λ one is.
      let here : Some row ≡ Some one =
      sym (slice_get-behind (numbered 0 texts) row more) ∙ rw (length-numbered 0 texts, ← whole) is in
      rw (← same_Some row one here) other;
}
  where
    whole : rows ≡ numbered 0 texts ++ row ∷ more
    whole = parts ∙ ap (λ (all : List RowData). numbered 0 texts ++ all) behind

-- one text more
pub front_more : (texts : List (List ℕ)) (rows rest more : List RowData) (row : RowData)
    → rows ≡ numbered 0 texts ++ rest → rest ≡ row ∷ more
    → row.n ≡ pos (length texts) → rows ≡ numbered 0 (texts ++ row.bytes ∷ []) ++ more
front_more texts rows rest more row parts behind own =
    parts
    ∙ (ap (λ (all : List RowData). numbered 0 texts ++ all) behind
    ∙ (sym (append_assoc (numbered 0 texts) (row ∷ []) more) ∙ ap (λ (all : List RowData). all ++ more) (sym pushed)))
  where
    place : pos (0 + length texts) ≡ row.n
    place = ap pos (omega arith) ∙ sym own

    pushed : numbered 0 (texts ++ row.bytes ∷ []) ≡ numbered 0 texts ++ row ∷ []
    pushed = numbered-append 0 texts row.bytes
        ∙ ap (λ (n : ℤ). numbered 0 texts ++ record { n = n; bytes = row.bytes } ∷ []) place
