-- How readers of parts stop where a reader of the whole stops.
use Rattle.std.proofs.Common.{◌≡◌, ℕ, suc, ◌<◌, ◌≤◌, ◌⊎◌, inl, inr, List, [], ◌∷◌, ◌++◌, length, Option, Some, None}
use Rattle.std.proofs.Common.{refl, sym, ap, subst, ◌∙◌, append_assoc, append-nil, arith}
use Rattle.std.proofs.lemmas.Bool.{cases_eq, eq-eqb, ne_eqb}
use Rattle.std.proofs.lemmas.List.{append_cancel_left, length-append}
use Rattle.code_bytes.specs.declared.stop.Stop.{Stop}
use Rattle.code_bytes.specs.declared.stop.Stop.TheVariants as stop
use Rattle.code_bytes.specs.Stuck.{left_at, IsOutside, IsStuck, Stops, Chain, Headed}

-- a text of the grammar that stands at the front of bytes is the only one there
abbrev pub IsFree : (List ℕ → Type 0) → Type 0
IsFree Text = (a b r s : List ℕ) → Text a → Text b → a ++ r ≡ b ++ s → a ≡ b

some_is : {A : Type 0} (a b : A) → Some a ≡ Some b → a ≡ b
some_is a b e = cc

none_is : {A : Type 0} (a : A) → None ≡ Some a → ⊥
none_is a e = absurd cc

-- ---- where bytes part from a text

pub same_head : (a : ℕ) (text bytes : List ℕ) → left_at (a ∷ text) (a ∷ bytes) ≡ left_at text bytes
same_head a text bytes = rw (eq-eqb a a refl) refl

pub other_head : (a b : ℕ) (text bytes : List ℕ) → (a ≡ b → ⊥)
    → left_at (a ∷ text) (b ∷ bytes) ≡ Some (suc (length bytes))
other_head a b text bytes ne = rw (ne_eqb a b ne) refl

pub parts_early : (text more bytes : List ℕ) (left : ℕ) → left_at text bytes ≡ Some left
    → left_at (text ++ more) bytes ≡ Some left
parts_early [] more bytes left e = absurd cc
parts_early (a ∷ text) more [] left e = e
parts_early (a ∷ text) more (b ∷ bytes) left e = elim (cases_eq a b) [
  | inl same ↦
      let here : left_at text bytes ≡ Some left = sym (rw (eq-eqb a b same) refl) ∙ e in
      rw (eq-eqb a b same) (parts_early text more bytes left here)
  | inr other ↦
      let here : Some (suc (length bytes)) ≡ Some left = sym (other_head a b text bytes other) ∙ e in
      other_head a b (text ++ more) bytes other ∙ here
]

pub parts_later : (text more bytes : List ℕ) → left_at (text ++ more) (text ++ bytes) ≡ left_at more bytes
parts_later [] more bytes = refl
parts_later (a ∷ text) more bytes = same_head a (text ++ more) (text ++ bytes) ∙ parts_later text more bytes

pub parts_never : (text bytes : List ℕ) → left_at text (text ++ bytes) ≡ None
parts_never [] bytes = refl
parts_never (a ∷ text) bytes = same_head a text (text ++ bytes) ∙ parts_never text bytes

pub begins_whole : (text bytes : List ℕ) → left_at text bytes ≡ None → (rest : List ℕ) × (bytes ≡ text ++ rest)
begins_whole [] bytes e = (bytes, refl)
begins_whole (a ∷ text) [] e = absurd cc
begins_whole (a ∷ text) (b ∷ bytes) e = elim (cases_eq a b) [
  | inl same ↦
      let here : left_at text bytes ≡ None = sym (rw (eq-eqb a b same) refl) ∙ e in
      let rest = begins_whole text bytes here in
      (rest.0, ap (λ x. x ∷ bytes) (sym same) ∙ ap (λ t. a ∷ t) rest.1)
  | inr other ↦ absurd (none_is (suc (length bytes)) (sym e ∙ other_head a b text bytes other))
]

pub left_within : (text bytes : List ℕ) (left : ℕ) → left_at text bytes ≡ Some left → left ≤ length bytes
left_within [] bytes left e = absurd cc
left_within (a ∷ text) [] left e = omega (arith, some_is 0 left e)
left_within (a ∷ text) (b ∷ bytes) left e = elim (cases_eq a b) [
  | inl same ↦
      let here : left_at text bytes ≡ Some left = sym (rw (eq-eqb a b same) refl) ∙ e in
      omega (arith, left_within text bytes left here)
  | inr other ↦ omega (arith, some_is (suc (length bytes)) left (sym (other_head a b text bytes other) ∙ e))
]

-- a text that goes on past the front of bytes begins with it
pub parts_behind : (text front rest : List ℕ) (left : ℕ) → left_at text (front ++ rest) ≡ Some left
    → (length rest ≤ left) ⊎ ((more : List ℕ) × (text ≡ front ++ more))
parts_behind text [] rest left e = inr (text, refl)
parts_behind [] (b ∷ front) rest left e = absurd cc
parts_behind (a ∷ text) (b ∷ front) rest left e = elim (cases_eq a b) [
  | inl same ↦
      let here : left_at text (front ++ rest) ≡ Some left = sym (rw (eq-eqb a b same) refl) ∙ e in
      elim (parts_behind text front rest left here) [
        | inl far ↦ inl far
        | inr on ↦ inr (on.0, ap (λ x. x ∷ text) same ∙ ap (λ t. b ∷ t) on.1)
      ]
  | inr other ↦
      let here : suc (length (front ++ rest)) ≡ left =
      some_is _ _ (sym (other_head a b text (front ++ rest) other) ∙ e) in
      inl (omega (arith, here, length-append front rest))
]

pub stuck_within : (Text : List ℕ → Type 0) (bytes : List ℕ) (left : ℕ) → IsStuck Text bytes left → left ≤ length bytes
stuck_within Text bytes left s = left_within s.text bytes left s.parts

-- ---- grammars with the same texts

pub stuck_same : (One Other : List ℕ → Type 0) (bytes : List ℕ) (left : ℕ) → ((text : List ℕ) → One text → Other text)
    → ((text : List ℕ) → Other text → One text) → IsStuck One bytes left → IsStuck Other bytes left
stuck_same One Other bytes left to from s = record {
  text = s.text;
  is_text = to s.text s.is_text;
  parts = s.parts;
  least = λ other is. s.least other (from other is);
}

pub stops_same : (One Other : List ℕ → Type 0) (bytes : List ℕ) (why : Stop) → ((text : List ℕ) → One text → Other text)
    → ((text : List ℕ) → Other text → One text) → Stops One bytes why → Stops Other bytes why
stops_same One Other bytes (stop.Left left) to from s = stuck_same One Other bytes left to from s
stops_same One Other bytes stop.Memory to from s = tt

-- ---- one after another

first_stuck : (First : List ℕ → Type 0) (Next : List ℕ → List ℕ → Type 0) (bytes : List ℕ) (left : ℕ)
    → ((front : List ℕ) → First front → (back : List ℕ) × Next front back) → IsStuck First bytes left
    → IsStuck (Chain First Next) bytes left
first_stuck First Next bytes left some s =
    let on = some s.text s.is_text in
    record {
      text = s.text ++ on.0;
      is_text = record { front = s.text; back = on.0; split = refl; first = s.is_text; second = on.1 };
      parts = parts_early s.text on.0 bytes left s.parts;
      least = λ other is.
          let here = s.least is.front is.first in
          (here.0, ap (λ t. left_at t bytes) is.split ∙ parts_early is.front is.back bytes here.0 here.1, here.2);
    }

least_next : (First : List ℕ → Type 0) (Next : List ℕ → List ℕ → Type 0) (front rest : List ℕ) (left : ℕ)
    → IsFree First → First front
    → IsStuck (Next front) rest left → (found : Option ℕ) (other : List ℕ) (is : Chain First Next other)
    → left_at is.front (front ++ rest) ≡ found
    → (more : ℕ) × (left_at other (front ++ rest) ≡ Some more) × (left ≤ more)
least_next First Next front rest left free first s None other is e =
    let whole = begins_whole is.front (front ++ rest) e in
    let same : is.front ≡ front = sym (free front is.front rest whole.0 first is.first whole.1) in
    let here = s.least is.back (subst (λ t. Next t is.back) same is.second) in (
      here.0,
      ap (λ t. left_at t (front ++ rest)) is.split ∙ ap (λ t. left_at (t ++ is.back) (front ++ rest)) same
          ∙ parts_later front is.back rest ∙ here.1,
      here.2,
    )
least_next First Next front rest left free first s (Some more) other is e = (
  more,
  ap (λ t. left_at t (front ++ rest)) is.split ∙ parts_early is.front is.back (front ++ rest) more e,
  elim (parts_behind is.front front rest more e) [
    | inl far ↦ omega (arith, far, stuck_within (Next front) rest left s)
    | inr on ↦
        let same : is.front ≡ front = free is.front front [] on.0 is.first first (append-nil is.front ∙ on.1) in
        absurd (none_is more (sym (parts_never front rest) ∙ ap (λ t. left_at t (front ++ rest)) (sym same) ∙ e))
  ],
)

next_stuck : (First : List ℕ → Type 0) (Next : List ℕ → List ℕ → Type 0) (front rest : List ℕ) (left : ℕ)
    → IsFree First → First front
    → IsStuck (Next front) rest left → IsStuck (Chain First Next) (front ++ rest) left
next_stuck First Next front rest left free first s = record {
  text = front ++ s.text;
  is_text = record { front = front; back = s.text; split = refl; first = first; second = s.is_text };
  parts = parts_later front s.text rest ∙ s.parts;
  least = λ other is. least_next First Next front rest left free first s _ other is refl;
}

pub first_stops : (First : List ℕ → Type 0) (Next : List ℕ → List ℕ → Type 0) (bytes : List ℕ) (why : Stop)
    → ((front : List ℕ) → First front → (back : List ℕ) × Next front back) → Stops First bytes why
    → Stops (Chain First Next) bytes why
first_stops First Next bytes (stop.Left left) some s = first_stuck First Next bytes left some s
first_stops First Next bytes stop.Memory some s = tt

pub next_stops : (First : List ℕ → Type 0) (Next : List ℕ → List ℕ → Type 0) (bytes front rest : List ℕ) (why : Stop)
    → IsFree First
    → First front → bytes ≡ front ++ rest → Stops (Next front) rest why → Stops (Chain First Next) bytes why
next_stops First Next bytes front rest (stop.Left left) free first e s =
    subst (λ b. IsStuck (Chain First Next) b left) (sym e) (next_stuck First Next front rest left free first s)
next_stops First Next bytes front rest stop.Memory free first e s = tt

pub chain_free : (First : List ℕ → Type 0) (Next : List ℕ → List ℕ → Type 0) → IsFree First
    → ((front : List ℕ) → First front → IsFree (Next front))
    → IsFree (Chain First Next)
chain_free First Next free later a b r s one other e =
    let apart : one.front ++ (one.back ++ r) ≡ other.front ++ (other.back ++ s) =
    sym (append_assoc one.front one.back r) ∙ ap (λ t. t ++ r) (sym one.split) ∙ e ∙ ap (λ t. t ++ s) other.split
    ∙ append_assoc other.front other.back s in
    let same : one.front ≡ other.front = free one.front other.front _ _ one.first other.first apart in
    let behind : one.back ++ r ≡ other.back ++ s =
    append_cancel_left other.front _ _ (ap (λ t. t ++ (one.back ++ r)) (sym same) ∙ apart) in
    let backs : one.back ≡ other.back =
    later other.front other.first one.back other.back r s (subst (λ t. Next t one.back) same one.second)
    other.second behind in
    one.split ∙ ap (λ t. t ++ one.back) same ∙ ap (λ t. other.front ++ t) backs ∙ sym other.split

-- ---- a byte, and what depends on it

pub headed_none : (Next : ℕ → List ℕ → Type 0) (text : List ℕ) → Headed Next text → IsStuck (Headed Next) [] 0
headed_none Next text is = record {
  text = text;
  is_text = is;
  parts = ap (λ t. left_at t []) is.split;
  least = λ other its. (0, ap (λ t. left_at t []) its.split, omega arith);
}

pub headed_bad : (Next : ℕ → List ℕ → Type 0) (text : List ℕ) (byte : ℕ) (rest : List ℕ) → Headed Next text
    → ((back : List ℕ) → Next byte back → ⊥) → IsStuck (Headed Next) (byte ∷ rest) (suc (length rest))
headed_bad Next text byte rest is none =
    let parts : (other : List ℕ) → Headed Next other → left_at other (byte ∷ rest) ≡ Some (suc (length rest)) =
    λ other its. ap (λ t. left_at t (byte ∷ rest)) its.split
    ∙ other_head its.byte byte its.back rest (λ same. none its.back (subst (λ b. Next b its.back) same its.second)) in
    record {
      text = text;
      is_text = is;
      parts = parts text is;
      least = λ other its. (suc (length rest), parts other its, omega arith);
    }

pub headed_on : (Next : ℕ → List ℕ → Type 0) (byte : ℕ) (rest : List ℕ) (left : ℕ) → IsStuck (Next byte) rest left
    → IsStuck (Headed Next) (byte ∷ rest) left
headed_on Next byte rest left s = record {
  text = byte ∷ s.text;
  is_text = record { byte = byte; back = s.text; split = refl; second = s.is_text };
  parts = same_head byte s.text rest ∙ s.parts;
  least = λ other its. elim (cases_eq its.byte byte) [
    | inl same ↦
        let here = s.least its.back (subst (λ b. Next b its.back) same its.second) in (
          here.0,
          ap (λ t. left_at t (byte ∷ rest)) its.split ∙ ap (λ b. left_at (b ∷ its.back) (byte ∷ rest)) same
              ∙ same_head byte its.back rest ∙ here.1,
          here.2,
        )
    | inr apart ↦ (
      suc (length rest),
      ap (λ t. left_at t (byte ∷ rest)) its.split ∙ other_head its.byte byte its.back rest apart,
      omega (arith, stuck_within (Next byte) rest left s),
    )
  ];
}

pub headed_on_stops : (Next : ℕ → List ℕ → Type 0) (byte : ℕ) (rest : List ℕ) (why : Stop) → Stops (Next byte) rest why
    → Stops (Headed Next) (byte ∷ rest) why
headed_on_stops Next byte rest (stop.Left left) s = headed_on Next byte rest left s
headed_on_stops Next byte rest stop.Memory s = tt

pub headed_free : (Next : ℕ → List ℕ → Type 0) → ((byte : ℕ) → IsFree (Next byte)) → IsFree (Headed Next)
headed_free Next free a b r s one other e =
    let apart : one.byte ∷ (one.back ++ r) ≡ other.byte ∷ (other.back ++ s) = ap (λ t. t ++ r) (sym one.split) ∙ e
    ∙ ap (λ t. t ++ s) other.split in
    let same : one.byte ≡ other.byte = cc in
    let behind : one.back ++ r ≡ other.back ++ s = cc in
    let backs : one.back ≡ other.back =
    free other.byte one.back other.back r s (subst (λ x. Next x one.back) same one.second) other.second behind in
    one.split ∙ ap (λ x. x ∷ one.back) same ∙ ap (λ t. other.byte ∷ t) backs ∙ sym other.split

-- ---- texts that are longer than the bytes

-- bytes that a longer text begins with part from it at their end
pub left_of_short : (bytes more : List ℕ) → 0 < length more → left_at (bytes ++ more) bytes ≡ Some 0
left_of_short [] [] pos = absurd (omega (arith, pos))
left_of_short [] (a ∷ more) pos = refl
left_of_short (b ∷ bytes) more pos = same_head b (bytes ++ more) bytes ∙ left_of_short bytes more pos

-- bytes that are shorter than a text don't begin with it
pub parts_from_longer : (text bytes : List ℕ) → length bytes < length text
    → (more : ℕ) × (left_at text bytes ≡ Some more) × (0 ≤ more)
parts_from_longer [] bytes lt = absurd (omega (arith, lt))
parts_from_longer (a ∷ text) [] lt = (0, refl, omega arith)
parts_from_longer (a ∷ text) (b ∷ bytes) lt = elim (cases_eq a b) [
  | inl same ↦
      let more = parts_from_longer text bytes (omega (arith, lt)) in
      (more.0, ap (λ x. left_at (x ∷ text) (b ∷ bytes)) same ∙ same_head b text bytes ∙ more.1, omega arith)
  | inr other ↦ (suc (length bytes), other_head a b text bytes other, omega arith)
]

-- ---- bytes that begin with no text, one byte after another

outside_none : (Text : List ℕ → Type 0) (bytes : List ℕ) → IsOutside Text bytes → Text [] → ⊥
outside_none Text bytes out is = out [] bytes is refl

least_none : (Text : List ℕ → Type 0) → IsOutside Text [] → (text : List ℕ) → Text text → left_at text [] ≡ Some 0
least_none Text out [] is = absurd (outside_none Text [] out is)
least_none Text out (a ∷ text) is = refl

pub outside_end : (Text : List ℕ → Type 0) (bytes some : List ℕ) → bytes ≡ [] → IsOutside Text bytes → Text some
    → IsStuck Text bytes 0
outside_end Text bytes some nil out is =
    let outside : IsOutside Text [] = subst (IsOutside Text) nil out in
    subst (λ b. IsStuck Text b 0) (sym nil) (record {
      text = some;
      is_text = is;
      parts = least_none Text outside some is;
      least = λ other its. (0, least_none Text outside other its, omega arith);
    })

least_bad : (Text : List ℕ → Type 0) (byte : ℕ) (rest : List ℕ) → IsOutside Text (byte ∷ rest)
    → ((text : List ℕ) → Text (byte ∷ text) → ⊥)
    → (text : List ℕ) → Text text → left_at text (byte ∷ rest) ≡ Some (suc (length rest))
least_bad Text byte rest out not [] is = absurd (outside_none Text (byte ∷ rest) out is)
least_bad Text byte rest out not (a ∷ text) is =
    other_head a byte text rest (λ same. not text (subst (λ x. Text (x ∷ text)) same is))

pub outside_bad : (Text : List ℕ → Type 0) (byte : ℕ) (bytes rest some : List ℕ) → bytes ≡ byte ∷ rest
    → IsOutside Text bytes → Text some
    → ((text : List ℕ) → Text (byte ∷ text) → ⊥) → IsStuck Text bytes (length bytes)
outside_bad Text byte bytes rest some head out is not =
    let outside : IsOutside Text (byte ∷ rest) = subst (IsOutside Text) head out in
    subst (λ b. IsStuck Text b (length b)) (sym head) (record {
      text = some;
      is_text = is;
      parts = least_bad Text byte rest outside not some is;
      least = λ other its. (suc (length rest), least_bad Text byte rest outside not other its, omega arith);
    })

least_on : (Text Next : List ℕ → Type 0) (byte : ℕ) (rest : List ℕ) (left : ℕ) → IsOutside Text (byte ∷ rest)
    → ((text : List ℕ) → Text (byte ∷ text) → Next text) → IsStuck Next rest left → (text : List ℕ) → Text text
    → (more : ℕ) × (left_at text (byte ∷ rest) ≡ Some more) × (left ≤ more)
least_on Text Next byte rest left out to s [] is = absurd (outside_none Text (byte ∷ rest) out is)
least_on Text Next byte rest left out to s (a ∷ text) is = elim (cases_eq a byte) [
  | inl same ↦
      let here = s.least text (to text (subst (λ x. Text (x ∷ text)) same is)) in
      (here.0, ap (λ x. left_at (x ∷ text) (byte ∷ rest)) same ∙ same_head byte text rest ∙ here.1, here.2)
  | inr other ↦ (suc (length rest), other_head a byte text rest other, omega (arith, stuck_within Next rest left s))
]

pub outside_on : (Text Next : List ℕ → Type 0) (byte : ℕ) (bytes rest : List ℕ) (left : ℕ) → bytes ≡ byte ∷ rest
    → IsOutside Text bytes
    → ((text : List ℕ) → Text (byte ∷ text) → Next text) → ((text : List ℕ) → Next text → Text (byte ∷ text))
    → IsStuck Next rest left
    → IsStuck Text bytes left
outside_on Text Next byte bytes rest left head out to from s =
    let outside : IsOutside Text (byte ∷ rest) = subst (IsOutside Text) head out in
    subst (λ b. IsStuck Text b left) (sym head) (record {
      text = byte ∷ s.text;
      is_text = from s.text s.is_text;
      parts = same_head byte s.text rest ∙ s.parts;
      least = least_on Text Next byte rest left outside to s;
    })

pub outside_next : (Text Next : List ℕ → Type 0) (byte : ℕ) (bytes rest : List ℕ) → bytes ≡ byte ∷ rest
    → IsOutside Text bytes
    → ((text : List ℕ) → Next text → Text (byte ∷ text)) → IsOutside Next rest
outside_next Text Next byte bytes rest head out from text behind is e =
    out (byte ∷ text) behind (from text is) (head ∙ ap (λ t. byte ∷ t) e)
