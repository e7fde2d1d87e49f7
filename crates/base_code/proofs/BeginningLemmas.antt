-- Beginnings of bases piece by piece.
use Rattle.std.proofs.Common.{◌≡◌, ℕ, zero, suc, ◌+◌, ◌-◌, ◌^◌, ◌<◌, ◌≤◌, ◌⊎◌, inl, inr, List, [], ◌∷◌, ◌++◌, length}
use Rattle.std.proofs.Common.{map, take, All, refl, sym, ap, subst, ◌∙◌, append_assoc, append-nil, arith}
use Rattle.std.proofs.lemmas.Bool.{cases_lt}
use Rattle.std.proofs.lemmas.List.{length-append, map_push, same_from_push, take-append-le, take_all}
use Rattle.std.proofs.lemmas.List.Elements.{All-append}
use Rattle.alto_rows.specs.Rows.{Rows}
use Rattle.alto_rows.specs.declared.key.Key.{Key}
use Rattle.alto_rows.specs.declared.value.Value.{Value}
use Rattle.batch_code.specs.Storable.{IsStored}
use Rattle.code_bytes.proofs.OnceLemmas.{tail_is, number_apart}
use Rattle.code_bytes.specs.Pieces.{number}
use Rattle.base_code.specs.Bases.{AreStored, IsKept, KeptData, write_of}
use Rattle.base_code.specs.Faults.{AreBeginning, AreInPlace, BeginningData, IsBeginning, beginning_pieces}
use Rattle.base_code.specs.Parts.{next_count}
use Rattle.base_code.specs.Pieces.{first_piece, parts, receipts_piece, rows_piece}
use Rattle.base_code.proofs.PartLemmas.{all_left, all_right, first_less, first_more, parts-nil, parts-push, split_last}
use Rattle.base_code.proofs.PieceLemmas.{receipts_once, rows_once, stored_left}

-- ---- one piece more

-- the next piece holds receipts
pub record AddsReceipts (begun : BeginningData) (piece : List ℕ) (more : BeginningData) : Type 0 where
  pub last : List KeptData
  pub is : more ≡ record begun { receipts = begun.receipts ++ last }
  pub turn : length begun.receipts < begun.b
  pub many : length last ≡ next_count begun.b (length begun.receipts)
  pub all : All IsKept last
  pub spelled : piece ≡ receipts_piece last

-- the next piece holds rows
pub record AddsRows (begun : BeginningData) (piece : List ℕ) (more : BeginningData) : Type 0 where
  pub last : Rows
  pub is : more ≡ record begun { rows = begun.rows ++ last }
  pub turn : length begun.receipts ≡ begun.b
  pub left : length begun.rows < begun.count
  pub many : length last ≡ next_count begun.count (length begun.rows)
  pub all : AreStored (begun.rows ++ last)
  pub spelled : piece ≡ rows_piece last

abbrev pub Adds : BeginningData → List ℕ → BeginningData → Type 0
Adds begun piece more = AddsReceipts begun piece more ⊎ AddsRows begun piece more

next_some : (count done : ℕ) → done < count → 1 ≤ next_count count done
next_some count done lt = omega (arith, lt)

next_short : (count done : ℕ) → next_count count done ≤ 4096
next_short count done = omega arith

receipts_pieces : (begun : BeginningData) (last : List KeptData) → IsBeginning begun → length begun.receipts < begun.b
    → length last ≡ next_count begun.b (length begun.receipts)
    → beginning_pieces (record begun { receipts = begun.receipts ++ last }) ≡ beginning_pieces begun
    ++ (receipts_piece last ∷ [])
unfolding beginning_pieces
receipts_pieces begun last is turn many =
    let nil : begun.rows ≡ [] = is.in_turn turn in
    let no_rows : map rows_piece (parts begun.rows) ≡ [] = ap (λ rows. map rows_piece (parts rows)) nil
    ∙ ap (map rows_piece) parts-nil in
    let push : parts (begun.receipts ++ last) ≡ parts begun.receipts ++ (last ∷ []) =
    parts-push begun.receipts last (is.first_receipts.whole turn)
    (omega (arith, many, next_some begun.b (length begun.receipts) turn))
    (omega (arith, many, next_short begun.b (length begun.receipts))) in
    let front = map receipts_piece (parts begun.receipts) in
    ap (λ t. first_piece begun.b begun.count ∷ t)
    (ap (λ t. map receipts_piece (parts (begun.receipts ++ last)) ++ t) no_rows
    ∙ append-nil (map receipts_piece (parts (begun.receipts ++ last)))
    ∙ ap (map receipts_piece) push ∙ map_push receipts_piece (parts begun.receipts) last
    ∙ ap (λ t. t ++ (receipts_piece last ∷ [])) (sym (ap (λ t. front ++ t) no_rows ∙ append-nil front)))

rows_pieces : (begun : BeginningData) (last : Rows) → IsBeginning begun → length begun.rows < begun.count
    → length last ≡ next_count begun.count (length begun.rows)
    → beginning_pieces (record begun { rows = begun.rows ++ last }) ≡ beginning_pieces begun ++ (rows_piece last ∷ [])
unfolding beginning_pieces
rows_pieces begun last is left many =
    let push : parts (begun.rows ++ last) ≡ parts begun.rows ++ (last ∷ []) =
    parts-push begun.rows last (is.first_rows.whole left)
    (omega (arith, many, next_some begun.count (length begun.rows) left))
    (omega (arith, many, next_short begun.count (length begun.rows))) in
    let front = map receipts_piece (parts begun.receipts) in
    ap (λ t. first_piece begun.b begun.count ∷ t)
    (ap (λ t. front ++ t) (ap (map rows_piece) push ∙ map_push rows_piece (parts begun.rows) last)
    ∙ sym (append_assoc front (map rows_piece (parts begun.rows)) (rows_piece last ∷ [])))

-- a beginning with one piece more
pub record Grown (begun : BeginningData) (piece : List ℕ) (more : BeginningData) : Type 0 where
  pub is : IsBeginning more
  pub pieces : beginning_pieces more ≡ beginning_pieces begun ++ (piece ∷ [])

grown_receipts : (begun : BeginningData) (piece : List ℕ) (more : BeginningData) → IsBeginning begun
    → AddsReceipts begun piece more → Grown begun piece more
grown_receipts begun piece more is adds =
    let next : BeginningData = record begun { receipts = begun.receipts ++ adds.last } in
    subst (Grown begun piece) (sym adds.is) (record {
      is = record {
        some = is.some;
        most = is.most;
        few = is.few;
        first_receipts = first_more begun.b begun.receipts adds.last is.first_receipts adds.turn adds.many;
        receipts = All-append IsKept begun.receipts adds.last is.receipts adds.all;
        first_rows = is.first_rows;
        rows = is.rows;
        in_turn = λ lt. is.in_turn adds.turn;
      };
      pieces = receipts_pieces begun adds.last is adds.turn adds.many
          ∙ ap (λ p. beginning_pieces begun ++ (p ∷ [])) (sym adds.spelled);
    })

grown_rows : (begun : BeginningData) (piece : List ℕ) (more : BeginningData) → IsBeginning begun
    → AddsRows begun piece more → Grown begun piece more
grown_rows begun piece more is adds =
    subst (Grown begun piece) (sym adds.is) (record {
      is = record {
        some = is.some;
        most = is.most;
        few = is.few;
        first_receipts = is.first_receipts;
        receipts = is.receipts;
        first_rows = first_more begun.count begun.rows adds.last is.first_rows adds.left adds.many;
        rows = adds.all;
        in_turn = λ lt. absurd (omega (arith, lt, adds.turn));
      };
      pieces = rows_pieces begun adds.last is adds.left adds.many
          ∙ ap (λ p. beginning_pieces begun ++ (p ∷ [])) (sym adds.spelled);
    })

pub grown : (begun : BeginningData) (piece : List ℕ) (more : BeginningData) → IsBeginning begun → Adds begun piece more
    → Grown begun piece more
grown begun piece more is (inl adds) = grown_receipts begun piece more is adds
grown begun piece more is (inr adds) = grown_rows begun piece more is adds

-- ---- the last piece

-- a beginning is its first piece alone, or one with fewer items and a last piece
pub record Behind (more : BeginningData) : Type 0 where
  pub begun : BeginningData
  pub piece : List ℕ
  pub is : IsBeginning begun
  pub adds : Adds begun piece more
  pub fewer : length begun.receipts + length begun.rows < length more.receipts + length more.rows

behind_rows : (more : BeginningData) → IsBeginning more → 1 ≤ length more.rows → Behind more
behind_rows more is some =
    let s = split_last more.rows some in
    let f = first_less more.count more.rows s is.first_rows in
    let whole : AreStored (s.before ++ s.last) = subst AreStored s.whole is.rows in
    let len : length more.rows ≡ length s.before + length s.last = ap length s.whole ∙ length-append s.before s.last in
    let turn : length more.receipts ≡ more.b = elim (cases_lt (length more.receipts) more.b) [
      | inl lt ↦ absurd (omega (arith, some, ap length (is.in_turn lt)))
      | inr le ↦ omega (arith, le, is.first_receipts.within)
    ] in
    record {
      begun = record more { rows = s.before };
      piece = rows_piece s.last;
      is = record {
        some = is.some;
        most = is.most;
        few = is.few;
        first_receipts = is.first_receipts;
        receipts = is.receipts;
        first_rows = f.first;
        rows = stored_left s.before s.last whole;
        in_turn = λ lt. absurd (omega (arith, lt, turn));
      };
      adds = inr (record {
        last = s.last;
        is = ap (λ (rows : Rows). record more { rows = rows }) s.whole;
        turn = turn;
        left = f.less;
        many = f.next;
        all = whole;
        spelled = refl;
      });
      fewer = omega (arith, len, s.some);
    }

behind_receipts : (more : BeginningData) → IsBeginning more → more.rows ≡ [] → 1 ≤ length more.receipts → Behind more
behind_receipts more is nil some =
    let s = split_last more.receipts some in
    let f = first_less more.b more.receipts s is.first_receipts in
    let whole : All IsKept (s.before ++ s.last) = subst (All IsKept) s.whole is.receipts in
    let len : length more.receipts ≡ length s.before + length s.last = ap length s.whole
    ∙ length-append s.before s.last in
    record {
      begun = record more { receipts = s.before };
      piece = receipts_piece s.last;
      is = record {
        some = is.some;
        most = is.most;
        few = is.few;
        first_receipts = f.first;
        receipts = all_left IsKept s.before s.last whole;
        first_rows = is.first_rows;
        rows = is.rows;
        in_turn = λ lt. nil;
      };
      adds = inl (record {
        last = s.last;
        is = ap (λ (receipts : List KeptData). record more { receipts = receipts }) s.whole;
        turn = f.less;
        many = f.next;
        all = all_right IsKept s.before s.last whole;
        spelled = refl;
      });
      fewer = omega (arith, len, s.some);
    }

-- there is no piece but the first
pub record IsBare (begun : BeginningData) : Type 0 where
  pub receipts : begun.receipts ≡ []
  pub rows : begun.rows ≡ []

pub last_piece : (more : BeginningData) → IsBeginning more → IsBare more ⊎ Behind more
last_piece more is = by more is more.rows more.receipts refl refl
  where
    by : (more : BeginningData) → IsBeginning more → (rows : Rows) (receipts : List KeptData) → more.rows ≡ rows
        → more.receipts ≡ receipts → IsBare more ⊎ Behind more
    by more is [] [] e e2 = inl (record { receipts = e2; rows = e })
    by more is [] (x ∷ xs) e e2 = inr (behind_receipts more is e (omega (arith, ap length e2)))
    by more is (x ∷ xs) receipts e e2 = inr (behind_rows more is (omega (arith, ap length e)))

pub bare_pieces : (begun : BeginningData) → IsBare begun → beginning_pieces begun ≡ first_piece begun.b begun.count ∷ []
unfolding beginning_pieces
bare_pieces begun is =
    ap (λ t. first_piece begun.b begun.count ∷ t)
    (ap (λ t. map receipts_piece t ++ map rows_piece (parts begun.rows)) (ap parts is.receipts ∙ parts-nil)
    ∙ ap (map rows_piece) (ap parts is.rows ∙ parts-nil))

pub some_piece : (begun : BeginningData) → 1 ≤ length (beginning_pieces begun)
unfolding beginning_pieces
some_piece begun = omega arith

-- ---- pieces have one beginning

first_once : (b c n m : ℕ) → b < 2 ^ 64 → c < 2 ^ 64 → n ≤ 400000 → m ≤ 400000 → first_piece b n ≡ first_piece c m
    → (b ≡ c) × (n ≡ m)
first_once b c n m lb lc ln lm e =
    let bs = number_apart 8 (2 ^ 64 - 1) b c (number 4 n) (number 4 m) (omega arith) (omega (arith, lb))
    (omega (arith, lc)) (tail_is _ _ _ _ (tail_is _ _ _ _ e)) in
    let counts = number_apart 4 400000 n m [] [] (omega arith) ln lm (append-nil (number 4 n) ∙ bs.1
    ∙ sym (append-nil (number 4 m))) in
    (bs.0, counts.0)

only_once : (p q : List ℕ) → p ∷ [] ≡ q ∷ [] → p ≡ q
only_once p q e = cc

bare_once : (one other : BeginningData) → IsBeginning one → IsBeginning other → IsBare one → IsBare other
    → beginning_pieces one ≡ beginning_pieces other → one ≡ other
bare_once one other is its bare its_bare e =
    let firsts = only_once _ _ (sym (bare_pieces one bare) ∙ e ∙ bare_pieces other its_bare) in
    let both = first_once one.b other.b one.count other.count is.most its.most is.few its.few firsts in
    let receipts : one.receipts ≡ other.receipts = bare.receipts ∙ sym its_bare.receipts in
    let rows : one.rows ≡ other.rows = bare.rows ∙ sym its_bare.rows in
    (λ i. record { b = both.0 i; count = both.1 i; receipts = receipts i; rows = rows i })

short_piece : {A : Type 0} (count done : ℕ) (last : List A) → length last ≡ next_count count done → length last ≤ 4096
short_piece count done last e = omega (arith, e)

-- one piece adds one thing
adds_once : (begun one other : BeginningData) (piece : List ℕ) → Adds begun piece one
    → Adds begun piece other → one ≡ other
adds_once begun one other piece (inl a) (inl b) =
    let n = length begun.receipts in
    let same = receipts_once a.last b.last a.all b.all (short_piece begun.b n a.last a.many)
    (short_piece begun.b n b.last b.many) (sym a.spelled ∙ b.spelled) in
    a.is ∙ ap (λ (last : List KeptData). record begun { receipts = begun.receipts ++ last }) same ∙ sym b.is
adds_once begun one other piece (inl a) (inr b) = absurd (omega (arith, a.turn, b.turn))
adds_once begun one other piece (inr a) (inl b) = absurd (omega (arith, a.turn, b.turn))
adds_once begun one other piece (inr a) (inr b) =
    let n = length begun.rows in
    let Row : Key × Value → Type 0 = λ row. IsStored (write_of row) in
    let same = rows_once a.last b.last (all_right Row begun.rows a.last a.all.each)
    (all_right Row begun.rows b.last b.all.each)
    (short_piece begun.count n a.last a.many) (short_piece begun.count n b.last b.many) (sym a.spelled ∙ b.spelled) in
    a.is ∙ ap (λ (last : Rows). record begun { rows = begun.rows ++ last }) same ∙ sym b.is

behind_pieces : (more : BeginningData) (last : Behind more)
    → beginning_pieces more ≡ beginning_pieces last.begun ++ (last.piece ∷ [])
behind_pieces more last = (grown last.begun last.piece more last.is last.adds).pieces

behind_long : (more : BeginningData) (last : Behind more) → 2 ≤ length (beginning_pieces more)
behind_long more last =
    omega (
      arith,
      ap length (behind_pieces more last),
      length-append (beginning_pieces last.begun) (last.piece ∷ []),
      some_piece last.begun,
    )

bare_short : (begun : BeginningData) → IsBare begun → length (beginning_pieces begun) ≡ 1
bare_short begun bare = ap length (bare_pieces begun bare)

abbrev size : BeginningData → ℕ
size begun = length begun.receipts + length begun.rows

once_within : (n : ℕ) (one other : BeginningData) → size one ≤ n → IsBeginning one → IsBeginning other
    → IsBare one ⊎ Behind one → IsBare other ⊎ Behind other
    → beginning_pieces one ≡ beginning_pieces other → one ≡ other
once_within n one other small is its (inl a) (inl b) e = bare_once one other is its a b e
once_within n one other small is its (inl a) (inr b) e =
    absurd (omega (arith, bare_short one a, behind_long other b, ap length e))
once_within n one other small is its (inr a) (inl b) e =
    absurd (omega (arith, behind_long one a, bare_short other b, ap length e))
once_within zero one other small is its (inr a) (inr b) e = absurd (omega (arith, a.fewer, small))
once_within (suc n) one other small is its (inr a) (inr b) e =
    let ends = same_from_push (beginning_pieces a.begun) (beginning_pieces b.begun) a.piece
    b.piece (sym (behind_pieces one a) ∙ e ∙ behind_pieces other b) in
    let same : a.begun ≡ b.begun =
    once_within n a.begun b.begun (omega (arith, a.fewer, small)) a.is b.is (last_piece a.begun a.is)
    (last_piece b.begun b.is) ends.0 in
    adds_once a.begun one other a.piece a.adds
    (subst (λ p. Adds a.begun p other) (sym ends.1) (subst (λ begun. Adds begun b.piece other) (sym same) b.adds))

-- pieces have one beginning
pub begun_once : (one other : BeginningData) → IsBeginning one → IsBeginning other
    → beginning_pieces one ≡ beginning_pieces other → one ≡ other
begun_once one other is its e = once_within (size one) one other (omega arith) is its (last_piece one is)
    (last_piece other its) e

-- a beginning with one piece more has added what that piece holds
pub added : (begun : BeginningData) (piece : List ℕ) → IsBeginning begun
    → AreBeginning (beginning_pieces begun ++ (piece ∷ []))
    → (more : BeginningData) × IsBeginning more × Adds begun piece more
added begun piece is (more, its, e) = by (last_piece more its)
  where
    by : IsBare more ⊎ Behind more → (more : BeginningData) × IsBeginning more × Adds begun piece more
    by (inl bare) =
        absurd (omega (
          arith,
          bare_short more bare,
          ap length e,
          length-append (beginning_pieces begun) (piece ∷ []),
          some_piece begun,
        ))
    by (inr last) =
        let ends = same_from_push (beginning_pieces begun) (beginning_pieces last.begun) piece last.piece (e
        ∙ behind_pieces more last) in
        let same : begun ≡ last.begun = begun_once begun last.begun is last.is ends.0 in (
          more,
          its,
          subst (λ p. Adds begun p more) (sym ends.1)
              (subst (λ b. Adds b last.piece more) (sym same) last.adds),
        )

-- ---- the first of them

front_within : (n m : ℕ) (begun : BeginningData) → size begun ≤ n → IsBeginning begun
    → (m < length (beginning_pieces begun)) ⊎ (length (beginning_pieces begun) ≤ m)
    → IsBare begun ⊎ Behind begun → AreInPlace (take m (beginning_pieces begun))
front_within n m begun small is (inr le) last = inr (begun, is, take_all m (beginning_pieces begun) le)
front_within n m begun small is (inl lt) (inl bare) =
    let none : m ≡ 0 = omega (arith, lt, bare_short begun bare) in
    inl (ap (λ k. take k (beginning_pieces begun)) none)
front_within zero m begun small is (inl lt) (inr last) = absurd (omega (arith, last.fewer, small))
front_within (suc n) m begun small is (inl lt) (inr last) =
    let len = ap length (behind_pieces begun last) ∙ length-append (beginning_pieces last.begun) (last.piece ∷ []) in
    let front : take m (beginning_pieces begun) ≡ take m (beginning_pieces last.begun) =
    ap (take m) (behind_pieces begun last) ∙ take-append-le m (beginning_pieces last.begun) (last.piece ∷ [])
    (omega (arith, lt, len)) in
    subst AreInPlace (sym front)
    (front_within n m last.begun (omega (arith, last.fewer, small))
    last.is (cases_lt m (length (beginning_pieces last.begun))) (last_piece last.begun last.is))

take_none : (m : ℕ) → take {A = List ℕ} m [] ≡ []
take_none zero = refl
take_none (suc m) = refl

-- the first of pieces that are in their places are in theirs
pub front_in_place : (m : ℕ) (pieces : List (List ℕ)) → AreInPlace pieces → AreInPlace (take m pieces)
front_in_place m pieces (inl nil) = inl (ap (take m) nil ∙ take_none m)
front_in_place m pieces (inr (begun, is, e)) =
    subst AreInPlace (ap (take m) (sym e))
    (front_within (size begun) m begun (omega arith) is (cases_lt m (length (beginning_pieces begun)))
    (last_piece begun is))
