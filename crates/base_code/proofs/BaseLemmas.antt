-- Bases and their beginnings, and faults.
use Rattle.std.proofs.Common.{◌≡◌, ℕ, suc, ◌+◌, ◌<◌, ◌≤◌, ◌⊎◌, inl, inr, List, [], ◌∷◌, ◌++◌, length, map, take, drop}
use Rattle.std.proofs.Common.{get_or, refl, sym, ap, subst, ◌∙◌, append_assoc, arith}
use Rattle.std.proofs.Math.Seq.{take-append-add}
use Rattle.std.proofs.lemmas.Bool.{cases_eq, cases_lt, eq-eqb, ne_eqb}
use Rattle.std.proofs.lemmas.List.{append-nil, drop_more, length-append, length-map, length-take, length-take-le}
use Rattle.std.proofs.lemmas.List.{map-append, nil_from_length, take-append-drop, take-append-le, take-map, take-take}
use Rattle.std.proofs.lemmas.List.{take_all, take_at}
use Rattle.std.proofs.lemmas.List.Elements.{All-nil}
use Rattle.alto_rows.specs.Rows.{Rows}
use Rattle.code_bytes.proofs.OnceLemmas.{head_is, tail_is}
use Rattle.code_bytes.specs.declared.stop.Stop.{Stop}
use Rattle.code_bytes.specs.declared.stop.Stop.TheVariants as stop
use Rattle.base_code.specs.Bases.{BaseData, IsBase, IsKept, KeptData}
use Rattle.base_code.specs.Faults.{AreBeginning, AreFirst, AreInPlace, AreOfBase, BeginningData, IsBadPiece}
use Rattle.base_code.specs.Faults.{IsBaseFault, IsBeginning, IsFirstOf, beginning_pieces, fault_at}
use Rattle.base_code.specs.Parts.{Denies, IsFirstPiece}
use Rattle.base_code.specs.Pieces.{base_pieces, first_piece, parts, pieces_of, receipts_piece, rows_piece}
use Rattle.base_code.specs.declared.fault.BaseFault.{BaseFault}
use Rattle.base_code.specs.declared.fault.BaseFault.TheVariants as fault
use Rattle.base_code.proofs.BeginningLemmas.{begun_once, front_in_place, some_piece}
use Rattle.base_code.proofs.NextLemmas.{is_first_piece, no_rows}
use Rattle.base_code.proofs.PartLemmas.{parts-front, parts-nil}

-- ---- a base as a whole beginning

abbrev pub whole : BaseData → BeginningData
whole base = record { b = base.b; count = length base.rows; receipts = base.receipts; rows = base.rows }

pub pieces_some : (base : BaseData) → (base.b ≡ 0 → ⊥) → base_pieces base ≡ beginning_pieces (whole base)
unfolding base_pieces beginning_pieces
pieces_some base some = rw (ne_eqb base.b 0 some) refl

pub pieces_none : (base : BaseData) → base.b ≡ 0 → base_pieces base ≡ []
unfolding base_pieces
pieces_none base none = rw (eq-eqb base.b 0 none) refl

pub whole_is : (base : BaseData) → IsBase base → (base.b ≡ 0 → ⊥) → IsBeginning (whole base)
whole_is base is some = record {
  some = elim (cases_lt 0 base.b) [ inl lt ↦ omega (arith, lt) | inr le ↦ absurd (some (omega (arith, le))) ];
  most = is.most;
  few = is.few;
  first_receipts = record { within = omega (arith, is.each); whole = λ lt. absurd (omega (arith, is.each, lt)) };
  receipts = is.receipts;
  first_rows = record { within = omega arith; whole = λ lt. absurd (omega (arith, lt)) };
  rows = is.rows;
  in_turn = λ lt. absurd (omega (arith, is.each, lt));
}

pub pieces_of_base : (base : BaseData) → IsBase base → (base_pieces base ≡ []) ⊎ AreBeginning (base_pieces base)
pieces_of_base base is = elim (cases_eq base.b 0) [
  | inl none ↦ inl (pieces_none base none)
  | inr some ↦ inr (whole base, whole_is base is some, pieces_some base some)
]

-- a base of these parts
abbrev pub base_of : BeginningData → BaseData
base_of begun = record { b = begun.b; receipts = begun.receipts; rows = begun.rows }

-- all that a base begins with is there
pub record IsWhole (begun : BeginningData) : Type 0 where
  pub receipts : length begun.receipts ≡ begun.b
  pub rows : length begun.rows ≡ begun.count

pub is_base : (begun : BeginningData) → IsBeginning begun → IsWhole begun → IsBase (base_of begun)
is_base begun is all = record {
  most = is.most;
  each = all.receipts;
  receipts = is.receipts;
  few = omega (arith, all.rows, is.few);
  rows = is.rows;
  none = λ none. absurd (omega (arith, none, is.some));
}

pub base_is : (begun : BeginningData) → IsBeginning begun → IsWhole begun
    → beginning_pieces begun ≡ base_pieces (base_of begun)
base_is begun is all =
    let same : whole (base_of begun) ≡ begun =
    (λ i. record { b = begun.b; count = all.rows i; receipts = begun.receipts; rows = begun.rows }) in
    ap beginning_pieces (sym same) ∙ sym (pieces_some (base_of begun) (λ none. omega (arith, none, is.some)))

nil_long : (begun : BeginningData) → [] ≡ beginning_pieces begun → ⊥
nil_long begun e = omega (arith, ap length e, some_piece begun)

pub whole_if_base : (begun : BeginningData) → IsBeginning begun → AreOfBase (beginning_pieces begun) → IsWhole begun
whole_if_base begun is (base, its, e) = elim (cases_eq base.b 0) [
  | inl none ↦ absurd (nil_long begun (sym (e ∙ pieces_none base none)))
  | inr some ↦
      let same : whole base ≡ begun =
      begun_once (whole base) begun (whole_is base its some) is (sym (e ∙ pieces_some base some)) in
      subst IsWhole same (record { receipts = its.each; rows = refl })
]

-- ---- bases

pub base_once : (one other : BaseData) → IsBase one → IsBase other → base_pieces one ≡ base_pieces other → one ≡ other
base_once one other is its e = by (cases_eq one.b 0) (cases_eq other.b 0)
  where
    nil_of : {A : Type 0} (xs : List A) → length xs ≡ 0 → xs ≡ []
    nil_of [] e = refl
    nil_of (x ∷ xs) e = absurd (omega (arith, e))

    bare : (base : BaseData) → IsBase base → base.b ≡ 0 → base ≡ record { b = 0; receipts = []; rows = [] }
    bare base is none =
        let receipts : base.receipts ≡ [] = nil_of base.receipts (is.each ∙ none) in
        let rows : base.rows ≡ [] = is.none none in
        (λ i. record { b = none i; receipts = receipts i; rows = rows i })

    by : (one.b ≡ 0) ⊎ (one.b ≡ 0 → ⊥) → (other.b ≡ 0) ⊎ (other.b ≡ 0 → ⊥) → one ≡ other
    by (inl none) (inl nothing) = bare one is none ∙ sym (bare other its nothing)
    by (inl none) (inr some) = absurd (nil_long (whole other) (sym (pieces_none one none) ∙ e ∙ pieces_some other some))
    by (inr some) (inl none) = absurd (nil_long (whole one) (sym (pieces_none other none) ∙ sym e
        ∙ pieces_some one some))
    by (inr some) (inr more) =
        let same : whole one ≡ whole other =
        begun_once (whole one) (whole other) (whole_is one is some) (whole_is other its more)
        (sym (pieces_some one some) ∙ e ∙ pieces_some other more) in
        ap base_of same

pub base_in_place : (pieces : List (List ℕ)) → AreOfBase pieces → AreInPlace pieces
base_in_place pieces (base, is, e) = subst AreInPlace (sym e) (pieces_of_base base is)

pub front_of_base : (base : BaseData) (n : ℕ) → IsBase base → AreInPlace (take n (base_pieces base))
front_of_base base n is = front_in_place n (base_pieces base) (pieces_of_base base is)

pub none_is_base : IsBase (record { b = 0; receipts = []; rows = [] })
none_is_base = record {
  most = omega arith;
  each = refl;
  receipts = All-nil IsKept;
  few = omega arith;
  rows = no_rows;
  none = λ none. refl;
}

pub none_pieces : [] ≡ base_pieces (record { b = 0; receipts = []; rows = [] })
none_pieces = sym (pieces_none (record { b = 0; receipts = []; rows = [] }) refl)

pub joined_pieces : (base : BaseData) (a b c d : List (List ℕ)) → 1 ≤ base.b → a ≡ []
    → b ≡ a ++ (first_piece base.b (length base.rows) ∷ [])
    → c ≡ b ++ map receipts_piece (parts base.receipts) → d ≡ c ++ map rows_piece (parts base.rows)
    → d ≡ base_pieces base
unfolding beginning_pieces
joined_pieces base a b c d some nil first receipts rows =
    let front = first_piece base.b (length base.rows) ∷ [] in
    let begun : b ≡ front = first ∙ ap (λ t. t ++ front) nil in
    rows ∙ ap (λ t. t ++ map rows_piece (parts base.rows)) (receipts
    ∙ ap (λ t. t ++ map receipts_piece (parts base.receipts)) begun)
    ∙ sym (pieces_some base (λ none. omega (arith, none, some)))

-- ---- faults

-- pieces in their places behind which stands one that isn't
pub bad_piece : (front rest : List (List ℕ)) (piece : List ℕ) (place : ℕ) → AreInPlace front → length front ≡ place
    → ¬ (AreBeginning (front ++ (piece ∷ [])))
    → IsBadPiece (front ++ piece ∷ rest) place
bad_piece front rest piece place is len bad =
    let pieces = front ++ piece ∷ rest in
    let next : List (List ℕ) = front ++ (piece ∷ []) in
    let long : length next ≡ suc place = length-append front (piece ∷ []) ∙ omega (arith, len) in
    let at : take (suc place) pieces ≡ next =
    ap (take (suc place)) (sym (append_assoc front (piece ∷ []) rest)) ∙ take_at next rest (suc place) long in
    let no_next : AreInPlace next → ⊥ = λ its. misplaced next its bad (omega (arith, long)) in
    let no_more : (n : ℕ) → AreInPlace (take n pieces) → n ≤ place = λ n its. elim (cases_lt place n) [
      | inr le ↦ le
      | inl lt ↦ absurd (no_next (subst AreInPlace (take-take (suc place) n pieces (omega (arith, lt)) ∙ at)
          (front_in_place (suc place) (take n pieces) its)))
    ] in
    record {
      no_base = λ base. no_next (subst AreInPlace at (front_in_place (suc place) pieces (base_in_place pieces base)));
      within = omega (arith, length-append front (piece ∷ rest), len);
      before = subst AreInPlace (sym (take_at front (piece ∷ rest) place len)) is;
      longest = λ n within its. no_more n its;
    }
  where
    misplaced : (pieces : List (List ℕ)) → AreInPlace pieces → ¬ (AreBeginning pieces) → 1 ≤ length pieces → ⊥
    misplaced pieces (inl nil) never some = omega (arith, ap length nil, some)
    misplaced pieces (inr is) never some = never is

pub not_refused : (base : BaseData) (why : BaseFault) → IsBase base → IsBaseFault (base_pieces base) why
    → why ≡ fault.Memory
not_refused base (fault.BadPiece place) is refused = absurd (refused.no_base (base, is, refl))
not_refused base fault.Memory is refused = refl

-- the first piece isn't in its place
pub first_stops : (piece : List ℕ) (rest : List (List ℕ)) (why : Stop) → Denies (AreBeginning (piece ∷ [])) why
    → IsBaseFault (piece ∷ rest) (fault_at 0 why)
first_stops piece rest (stop.Left left) never = bad_piece [] rest piece 0 (inl refl) refl never
first_stops piece rest stop.Memory never = tt

split_at : {V : Type 0} (f : V → List ℕ) (front : List (List ℕ)) (all : List V) (i : ℕ) (v : V) → i < length all
    → v ≡ get_or all i v
    → front ++ map f all ≡ (front ++ map f (take i all)) ++ f v ∷ map f (drop (suc i) all)
split_at f front all i v lt e =
    let here : drop i all ≡ v ∷ drop (suc i) all = drop_more all i v lt ∙ ap (λ x. x ∷ drop (i + 1) all) (sym e)
    ∙ ap (λ n. v ∷ drop n all) next in
    ap (λ t. front ++ map f t) (sym (take-append-drop i all))
    ∙ ap (λ t. front ++ t) (map-append f (take i all) (drop i all) ∙ ap (λ t. map f (take i all) ++ map f t) here)
    ∙ sym (append_assoc front (map f (take i all)) (f v ∷ map f (drop (suc i) all)))
  where
    next : i + 1 ≡ suc i
    next = omega arith

-- a piece behind the first isn't in its place
pub next_stops : {V : Type 0} (f : V → List ℕ) (front : List (List ℕ)) (all : List V) (i : ℕ) (v : V)
    (begun : BeginningData) (why : Stop) → i < length all
    → v ≡ get_or all i v → IsBeginning begun → length front ≡ 1 → beginning_pieces begun ≡ front ++ map f (take i all)
    → Denies (AreBeginning (beginning_pieces begun ++ (f v ∷ []))) why
    → IsBaseFault (front ++ map f all) (fault_at (i + 1) why)
next_stops f front all i v begun (stop.Left left) lt e is one pieces never =
    let before : List (List ℕ) = front ++ map f (take i all) in
    let len : length before ≡ i + 1 =
    omega (
      arith,
      length-append front (map f (take i all)),
      one,
      length-map (take i all) f,
      length-take-le i all (omega (arith, lt)),
    ) in
    subst (λ t. IsBadPiece t (i + 1)) (sym (split_at f front all i v lt e))
    (bad_piece before (map f (drop (suc i) all)) (f v) (i + 1) (inr (begun, is, sym pieces))
    len (subst (λ t. ¬ (AreBeginning (t ++ (f v ∷ [])))) pieces never))
next_stops f front all i v begun stop.Memory lt e is one pieces never = tt

-- ---- pieces in their places are the first of a base that goes on so

first_of_both : (a b other : List (List ℕ)) (whole : List (List ℕ)) → b ≡ [] → take (length a) whole ≡ a
    → take (length (a ++ b)) (whole ++ other) ≡ a ++ b
first_of_both a b other whole nil e =
    let same : a ++ b ≡ a = ap (λ t. a ++ t) nil ∙ append-nil a in
    let within : length a ≤ length whole = omega (arith, sym (length-take (length a) whole) ∙ ap length e) in
    ap (λ t. take (length t) (whole ++ other)) same ∙ take-append-le (length a) whole other within ∙ e ∙ sym same

second_of_both : (a b whole : List (List ℕ)) → take (length b) whole ≡ b → take (length (a ++ b)) (a ++ whole) ≡ a ++ b
second_of_both a b whole e = ap (λ n. take n (a ++ whole)) (length-append a b) ∙ take-append-add a whole (length b)
    ∙ ap (λ t. a ++ t) e

mapped_front : {A : Type 0} (spell : List A → List ℕ) (items more : List A) → AreFirst (length (items ++ more)) items
    → take (length (map spell (parts items))) (map spell (parts (items ++ more))) ≡ map spell (parts items)
mapped_front spell items more is =
    ap (λ n. take n (map spell (parts (items ++ more)))) (length-map (parts items) spell)
    ∙ take-map spell (length (parts items)) (parts (items ++ more))
    ∙ ap (map spell) (parts-front items more is)

first_pieces : (begun : BeginningData) (receipts : List KeptData) (rows : Rows) → IsBeginning begun
    → length (begun.receipts ++ receipts) ≡ begun.b
    → length (begun.rows ++ rows) ≡ begun.count
    → take (length (pieces_of begun.receipts begun.rows)) (pieces_of (begun.receipts ++ receipts) (begun.rows ++ rows))
    ≡ pieces_of begun.receipts begun.rows
first_pieces begun receipts rows is many count = elim (cases_lt (length begun.receipts) begun.b) [
  | inl lt ↦
      let nil : map rows_piece (parts begun.rows) ≡ [] = ap (λ t. map rows_piece (parts t)) (is.in_turn lt)
      ∙ ap (map rows_piece) parts-nil in
      first_of_both (map receipts_piece (parts begun.receipts)) (map rows_piece (parts begun.rows))
      (map rows_piece (parts (begun.rows ++ rows)))
      (map receipts_piece (parts (begun.receipts ++ receipts))) nil
      (mapped_front receipts_piece begun.receipts receipts (subst (λ n. AreFirst n begun.receipts) (sym many)
      is.first_receipts))
  | inr le ↦
      let none : receipts ≡ [] = nil_from_length
      receipts (omega (arith, le, many, length-append begun.receipts receipts)) in
      let same : begun.receipts ++ receipts ≡ begun.receipts = ap (λ t. begun.receipts ++ t) none
      ∙ append-nil begun.receipts in
      let a = map receipts_piece (parts begun.receipts) in
      let b = map rows_piece (parts begun.rows) in
      ap (λ t. take (length (a ++ b)) (map receipts_piece (parts t) ++ map rows_piece (parts (begun.rows ++ rows))))
      same
      ∙ second_of_both a b (map rows_piece (parts (begun.rows ++ rows)))
      (mapped_front rows_piece begun.rows rows (subst (λ n. AreFirst n begun.rows) (sym count) is.first_rows))
]

whole_pieces : (b count : ℕ) (front all : List (List ℕ)) → take (length front) all ≡ front
    → take (length (first_piece b count ∷ front)) (first_piece b count ∷ all) ≡ first_piece b count ∷ front
whole_pieces b count front all e = ap (λ t. first_piece b count ∷ t) e

pub goes_on : (begun : BeginningData) (base : BaseData) → IsBeginning begun → IsBase base → IsFirstOf begun base
    → take (length (beginning_pieces begun)) (base_pieces base) ≡ beginning_pieces begun
unfolding beginning_pieces
goes_on begun base is its first =
    let some : base.b ≡ 0 → ⊥ = λ none. omega (arith, none, first.same_b, is.some) in
    let parted : pieces_of base.receipts base.rows ≡ pieces_of (begun.receipts ++ first.more_receipts)
    (begun.rows ++ first.more_rows) =
    (λ i. pieces_of (first.all_receipts i) (first.all_rows i)) in
    let heads : first_piece base.b (length base.rows) ≡ first_piece begun.b begun.count =
    (λ i. first_piece (first.same_b i) (first.same_count i)) in
    let all : base_pieces base ≡ first_piece begun.b begun.count ∷ pieces_of (begun.receipts ++ first.more_receipts)
    (begun.rows ++ first.more_rows) =
    pieces_some base some ∙ (λ i. heads i ∷ parted i) in
    let receipts : length (begun.receipts ++ first.more_receipts) ≡ begun.b = ap length (sym first.all_receipts)
    ∙ its.each ∙ first.same_b in
    let rows : length (begun.rows ++ first.more_rows) ≡ begun.count = ap length (sym first.all_rows)
    ∙ first.same_count in
    ap (take (length (beginning_pieces begun))) all
    ∙ whole_pieces begun.b begun.count (pieces_of begun.receipts begun.rows)
    (pieces_of (begun.receipts ++ first.more_receipts) (begun.rows ++ first.more_rows))
    (first_pieces begun first.more_receipts first.more_rows is receipts rows)

-- ---- one fault

pub one_place : (pieces : List (List ℕ)) (one other : ℕ) → IsBadPiece pieces one → IsBadPiece pieces other → one ≡ other
one_place pieces one other is its =
    omega (arith, is.longest other its.within its.before, its.longest one is.within is.before)

pub version_two : IsBadPiece ((0x43 ∷ 0x02 ∷ []) ∷ []) 0
version_two = bad_piece [] [] (0x43 ∷ 0x02 ∷ []) 0 (inl refl)
    refl (λ is. other_version (is_first_piece (0x43 ∷ 0x02 ∷ []) is))
  where
    other_version : (b : ℕ) × (count : ℕ) × IsFirstPiece (0x43 ∷ 0x02 ∷ []) b count → ⊥
    other_version first =
        let seconds : 2 ≡ 1 = head_is _ _ _ _ (tail_is _ _ _ _ first.2.spelled) in
        omega (arith, seconds)
