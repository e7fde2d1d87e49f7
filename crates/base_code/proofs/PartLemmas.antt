-- A list in parts of 4,096.
use Rattle.std.proofs.Common.{◌≡◌, ℕ, zero, suc, ◌+◌, ◌-◌, ◌*◌, ◌/◌, ◌%◌, ◌<◌, ◌≤◌, List, [], ◌∷◌, ◌++◌, length, map}
use Rattle.std.proofs.Common.{take, drop, All, inl, inr, refl, sym, ap, subst, ◌∙◌, append_assoc, arith}
use Rattle.std.proofs.lemmas.Bool.{cases_lt}
use Rattle.std.proofs.lemmas.List.{append-nil, length-append, length-drop, length-take-le, take-append-drop}
use Rattle.std.proofs.lemmas.List.{take-append-le, map_push, take_all, take_at, drop-append-le, drop_at}
use Rattle.std.proofs.lemmas.List.{nil_from_length}
use Rattle.std.proofs.lemmas.List.Elements.{All-drop, All-take}
use Rattle.std.proofs.lemmas.List.FromFn.{length-map-range_with_len, map-range_with_len_more, take-map-range_with_len}
use Rattle.std.specs.Prelude.{min}
use Rattle.std.specs.Fork.{slice_chunk}
use Rattle.std.specs.List.{range_with_len}
use Rattle.std.specs.Slice.Iter.{chunk_count}
use Rattle.base_code.specs.Faults.{AreFirst}
use Rattle.base_code.specs.Parts.{next_count}
use Rattle.base_code.specs.Pieces.{parts}

-- ---- what is true of each

pub all_left : {A : Type 0} (IsA : A → Type 0) (front back : List A) → All IsA (front ++ back) → All IsA front
all_left IsA front back all = subst (All IsA) (take_at front back (length front) refl)
    (All-take IsA (length front) (front ++ back) all)

pub all_right : {A : Type 0} (IsA : A → Type 0) (front back : List A) → All IsA (front ++ back) → All IsA back
all_right IsA front back all =
    subst (All IsA) (drop_at front back (length front) refl) (All-drop IsA (length front) (front ++ back) all)

-- ---- parts

map_range_same : {X : Type 0} (f g : ℕ → X) (a n : ℕ) → ((k : ℕ) → k < a + n → f k ≡ g k)
    → map f (range_with_len a n) ≡ map g (range_with_len a n)
map_range_same f g a zero each = refl
map_range_same f g a (suc n) each =
    let first : f a ≡ g a = each a (omega arith) in
    let more : map f (range_with_len (a + 1) n) ≡ map g (range_with_len (a + 1) n) =
    map_range_same f g (a + 1) n (λ k lt. each k (omega (arith, lt))) in
    (λ i. first i ∷ more i)

whole_count : (n q : ℕ) → n ≡ q * 4096 → chunk_count n 4096 ≡ q
whole_count n q e = omega (arith, e)

next_whole : (n m q : ℕ) → n ≡ q * 4096 → 1 ≤ m → m ≤ 4096 → chunk_count (n + m) 4096 ≡ q + 1
next_whole n m q e some short = omega (arith, e, some, short)

some_count : (n m q : ℕ) → n ≡ q * 4096 → n < m → q ≤ chunk_count m 4096
some_count n m q e lt = omega (arith, e, lt)

pub parts-nil : {A : Type 0} → parts {A = A} [] ≡ []
unfolding parts
parts-nil = refl

-- a part behind whole parts is the next
pub parts-push : {A : Type 0} (items last : List A) → length items % 4096 ≡ 0 → 1 ≤ length last → length last ≤ 4096
    → parts (items ++ last) ≡ parts items ++ (last ∷ [])
unfolding parts
parts-push {A} items last full some short =
    let q = length items / 4096 in
    let whole : length items ≡ q * 4096 = omega (arith, full) in
    let f : ℕ → List A = slice_chunk (items ++ last) 4096 in
    let g : ℕ → List A = slice_chunk items 4096 in
    let count : chunk_count (length (items ++ last)) 4096 ≡ q + 1 =
    ap (λ n. chunk_count n 4096) (length-append items last)
    ∙ next_whole (length items) (length last) q whole some short in
    let before : chunk_count (length items) 4096 ≡ q = whole_count (length items) q whole in
    let same : (k : ℕ) → k < 0 + q → f k ≡ g k = λ k lt.
    let at : k * 4096 + 4096 ≤ length items = omega (arith, whole, lt) in
    ap (take 4096) (drop-append-le (k * 4096) items last (omega (arith, at)))
    ∙ take-append-le 4096 (drop (k * 4096) items) last (omega (arith, at, length-drop (k * 4096) items)) in
    let here : f q ≡ last = ap (take 4096) (drop_at items last (q * 4096) whole) ∙ take_all 4096 last short in
    ap (λ n. map f (range_with_len 0 n)) count
    ∙ map-range_with_len_more f 0 q q (omega arith)
    ∙ ap (λ t. map f (range_with_len 0 q) ++ (t ∷ [])) here
    ∙ ap (λ t. t ++ (last ∷ [])) (map_range_same f g 0 q same ∙ ap (λ n. map g (range_with_len 0 n)) (sym before))

-- the last part, and whole parts before it
pub record Split {A : Type 0} (items : List A) : Type 0 where
  pub before : List A
  pub last : List A
  pub whole : items ≡ before ++ last
  pub full : length before % 4096 ≡ 0
  pub some : 1 ≤ length last
  pub short : length last ≤ 4096

pub split_last : {A : Type 0} (items : List A) → 1 ≤ length items → Split items
split_last items some =
    let q = (length items - 1) / 4096 in
    let n = q * 4096 in
    let within : n ≤ length items = omega (arith, some) in
    let front : length (take n items) ≡ n = length-take-le n items within in
    let back : length (drop n items) ≡ length items - n = length-drop n items in
    record {
      before = take n items;
      last = drop n items;
      whole = sym (take-append-drop n items);
      full = omega (arith, front);
      some = omega (arith, back, some);
      short = omega (arith, back, some);
    }

-- the first parts of a list are those of its front, where this fills them or is all
pub parts-front : {A : Type 0} (items more : List A) → AreFirst (length (items ++ more)) items
    → take (length (parts items)) (parts (items ++ more)) ≡ parts items
unfolding parts
parts-front {A} items more is = elim (cases_lt (length items) (length (items ++ more))) [
  | inl lt ↦
      let q = length items / 4096 in
      let whole : length items ≡ q * 4096 = omega (arith, is.whole lt) in
      let f : ℕ → List A = slice_chunk (items ++ more) 4096 in
      let g : ℕ → List A = slice_chunk items 4096 in
      let before : chunk_count (length items) 4096 ≡ q = whole_count (length items) q whole in
      let within : q ≤ chunk_count (length (items ++ more)) 4096 =
      some_count (length items) (length (items ++ more)) q whole lt in
      let same : (k : ℕ) → k < 0 + q → f k ≡ g k = λ k less.
      let at : k * 4096 + 4096 ≤ length items = omega (arith, whole, less) in
      ap (take 4096) (drop-append-le (k * 4096) items more (omega (arith, at)))
      ∙ take-append-le 4096 (drop (k * 4096) items) more (omega (arith, at, length-drop (k * 4096) items)) in
      ap (λ n. take n (map f (range_with_len 0 (chunk_count (length (items ++ more)) 4096))))
      (length-map-range_with_len g 0 (chunk_count (length items) 4096) ∙ before)
      ∙ take-map-range_with_len f 0 (chunk_count (length (items ++ more)) 4096) q within
      ∙ map_range_same f g 0 q same ∙ ap (λ n. map g (range_with_len 0 n)) (sym before)
  | inr le ↦
      let none : more ≡ [] = nil_from_length more (omega (arith, le, length-append items more)) in
      let same : items ++ more ≡ items = ap (λ t. items ++ t) none ∙ append-nil items in
      ap (λ t. take (length (parts items)) (parts t)) same ∙ take_all (length (parts items)) (parts items) (omega arith)
]

-- ---- the first of `count` items

pub first_none : {A : Type 0} (count : ℕ) → AreFirst {A = A} count []
first_none count = record { within = omega arith; whole = λ lt. refl }

pub first_more : {A : Type 0} (count : ℕ) (items last : List A) → AreFirst count items → length items < count
    → length last ≡ next_count count (length items)
    → AreFirst count (items ++ last)
first_more count items last is lt e =
    let len : length (items ++ last) ≡ length items + length last = length-append items last in
    let full : length items % 4096 ≡ 0 = is.whole lt in
    record {
      within = omega (arith, len, e, is.within);
      whole = λ less. omega (arith, len, e, full, less);
    }

pub record Fewer {A : Type 0} (count : ℕ) (before last : List A) : Type 0 where
  pub less : length before < count
  pub first : AreFirst count before
  pub next : length last ≡ next_count count (length before)

pub first_less : {A : Type 0} (count : ℕ) (items : List A) (s : Split items) → AreFirst count items
    → Fewer count s.before s.last
first_less count items s is =
    let len : length items ≡ length s.before + length s.last = ap length s.whole ∙ length-append s.before s.last in
    record {
      less = omega (arith, len, is.within, s.some);
      first = record { within = omega (arith, len, is.within); whole = λ lt. s.full };
      next = elim (cases_lt (length items) count) [
        | inl lt ↦ omega (arith, len, is.whole lt, s.full, s.some, s.short, lt)
        | inr le ↦ omega (arith, len, is.within, le, s.short)
      ];
    }

-- ---- a loop over parts

-- the pieces of the parts so far stand behind the others
pub record HasPieces {A : Type 0} (spell : List A
    → List ℕ) (all rest : List A) (before now : List (List ℕ)) : Type 0 where
  pub front : List A
  pub whole : all ≡ front ++ rest
  pub first : AreFirst (length all) front
  pub pieces : now ≡ before ++ map spell (parts front)

pub pieces_start : {A : Type 0} (spell : List A → List ℕ) (all : List A) (before : List (List ℕ))
    → HasPieces spell all all before before
pieces_start spell all before = record {
  front = [];
  whole = refl;
  first = first_none (length all);
  pieces = sym (ap (λ t. before ++ map spell t) parts-nil ∙ append-nil before);
}

pub pieces_on : {A : Type 0} (spell : List A → List ℕ) (all rest part after : List A) (before now next : List (List ℕ))
    → HasPieces spell all rest before now
    → rest ≡ part ++ after → length part ≡ min 4096 (length rest) → 0 < length rest → next ≡ now ++ (spell part ∷ [])
    → HasPieces spell all after before next
pieces_on spell all rest part after before now next has e many some made =
    let len : length all ≡ length has.front + length rest = ap length has.whole ∙ length-append has.front rest in
    let lt : length has.front < length all = omega (arith, len, some) in
    let full : length has.front % 4096 ≡ 0 = has.first.whole lt in
    let push : parts (has.front ++ part) ≡ parts has.front ++ (part ∷ []) =
    parts-push has.front part full (omega (arith, many, some)) (omega (arith, many)) in
    record {
      front = has.front ++ part;
      whole = has.whole ∙ ap (λ t. has.front ++ t) e ∙ sym (append_assoc has.front part after);
      first = first_more (length all) has.front part has.first lt (omega (arith, many, len));
      pieces = made ∙ ap (λ t. t ++ (spell part ∷ [])) has.pieces ∙ append_assoc before (map spell (parts has.front))
          (spell part ∷ [])
          ∙ ap (λ t. before ++ t) (sym (ap (map spell) push ∙ map_push spell (parts has.front) part));
    }

pub all_of_part : {A : Type 0} (IsA : A → Type 0) (spell : List A
    → List ℕ) (all rest part after : List A) (before now : List (List ℕ))
    → HasPieces spell all rest before now → All IsA all → rest ≡ part ++ after → All IsA part
all_of_part IsA spell all rest part after before now has each e =
    let right : All IsA (part ++ after) =
    subst (All IsA) e (all_right IsA has.front rest (subst (All IsA) has.whole each)) in
    all_left IsA part after right
