-- The longest front in a token and what may stand behind it.
use Rattle.std.proofs.Common.{◌≡◌, ℕ, suc, ◌+◌, ◌-◌, ◌<◌, ◌≤◌, ◌⊎◌, List, [], ◌∷◌, ◌++◌, length, get_or, take, drop}
use Rattle.std.proofs.Common.{refl, sym, ap, ◌∙◌, subst, inl, inr, arith, append_assoc, length-drop}
use Rattle.std.proofs.lemmas.Bool.{cases_lt}
use Rattle.std.proofs.lemmas.List.{take-append-le, take-take, length-take-le, drop-append-le, drop-take}
use Rattle.std.proofs.Math.Seq.{take-append_seam, drop-append_seam, take-add, take-suc, drop-cons}
use Rattle.alto_addr.specs.Place.{Begins, IsLongestFront}
use Rattle.alto_addr.specs.Languages.{Sequence, IsTokenFront}

-- no token is empty, and a front of a token is one
pub record IsToken (Token : List ℕ → Type 0) : Type 0 where
  pub some : (text : List ℕ) → Token text → 0 < length text
  pub closed : (n : ℕ) (text : List ℕ) → 0 < n → n ≤ length text → Token text → Token (take n text)

-- no token goes on with a byte that the other begins with
abbrev pub IsApart : (List ℕ → Type 0) → (List ℕ → Type 0) → Type 0
IsApart Token Second = (front : List ℕ) (byte : ℕ) (back : List ℕ) → Second (byte ∷ back)
    → Token (front ++ byte ∷ []) → ⊥

-- where a front of m bytes and a rest are two parts, either the first part reaches m, or it ends before
abbrev pub Parted : ℕ → List ℕ → List ℕ → List ℕ → List ℕ → Type 0
Parted m text rest front back = ((m ≤ length front) × (take m text ≡ take m front))
    ⊎ ((length front < m) × (take (length front) text ≡ front)
    × (back ≡ take (m - length front) (drop (length front) text) ++ rest))

pub parted : (m : ℕ) (text rest front back : List ℕ) → m ≤ length text → take m text ++ rest ≡ front ++ back
    → Parted m text rest front back
parted m text rest front back within e = elim (cases_lt (length front) m) [
  | inr reaches ↦
      let whole : take m (take m text ++ rest) ≡ take m text =
      take-append-le m (take m text) rest (omega (arith, length-take-le m text within))
      ∙ take-take m m text (omega arith) in
      inl (reaches, sym whole ∙ ap (take m) e ∙ take-append-le m front back reaches)
  | inl ends ↦
      let l = length front in
      let in_front : l ≤ length (take m text) = omega (arith, length-take-le m text within) in
      let first : take l (take m text ++ rest) ≡ take l text =
      take-append-le l (take m text) rest in_front ∙ take-take l m text (omega arith) in
      let split : l + (m - l) ≡ m = omega arith in
      let later : drop l (take m text ++ rest) ≡ take (m - l) (drop l text) ++ rest =
      drop-append-le l (take m text) rest in_front
      ∙ ap (λ t. t ++ rest) (sym (ap (λ n. drop l (take n text)) split) ∙ drop-take l (m - l) text) in
      inr (
        ends,
        sym first ∙ ap (take l) e ∙ take-append_seam front back,
        sym (drop-append_seam front back)
            ∙ sym (ap (drop l) e) ∙ later,
      )
]

-- the next byte of a text, after a front
pub next_byte : (n m : ℕ) (text rest : List ℕ) → n < m → m ≤ length text
    → (back : List ℕ) × (take (m - n) (drop n text) ++ rest ≡ get_or text n 0 ∷ back)
next_byte n m text rest less within =
    let e : m - n ≡ suc (m - n - 1) = omega arith in (
      take (m - n - 1) (drop (suc n) text) ++ rest,
      ap (λ j. take j (drop n text) ++ rest) e
          ∙ ap (λ t. take (suc (m - n - 1)) t ++ rest) (drop-cons text n 0 (omega arith)),
    )

module _ (Token Second : List ℕ → Type 0) (token : IsToken Token) (apart : IsApart Token Second) where
  longest_part : (text : List ℕ) (g k m : ℕ) → IsTokenFront Token text g → IsLongestFront Second (drop g text) k
      → m ≤ length text
      → Begins (Sequence Token Second) (take m text) → m ≤ g + k
  longest_part text g k m front second within (rest, both) =
      elim (parted m text rest both.front both.back within both.split) [
        | inl reaches ↦ elim (cases_lt 0 m) [
          | inr none ↦ omega arith
          | inl some ↦
              let whole : Token (take m text) =
              subst Token (sym reaches.1) (token.closed m both.front some reaches.0 both.first) in
              let least : m ≤ g = front.longest m within whole in
              omega arith
        ]
        | inr ends ↦
            let l = length both.front in
            let least : l ≤ g = front.longest l (omega (arith, ends.0)) (subst Token (sym ends.1) both.first) in
            elim (cases_lt l g) [
              | inl less ↦
                  let (back, next) = next_byte l m text rest ends.0 within in
                  let byte = get_or text l 0 in
                  let is_second : Second (byte ∷ back) = subst Second (ends.2 ∙ next) both.second in
                  let longer : take (suc l) (take g text) ≡ both.front ++ byte ∷ [] =
                  take-take (suc l) g text less ∙ take-suc text l 0 (omega (arith, front.within))
                  ∙ ap (λ t. t ++ byte ∷ []) ends.1 in
                  let is_token = token.closed (suc l) (take g text) (omega arith)
                  (omega (arith, length-take-le g text front.within)) (front.token (omega arith)) in
                  absurd (apart both.front byte back is_second (subst Token longer is_token))
              | inr more ↦
                  let e : l ≡ g = omega arith in
                  let begins : Begins Second (take (m - g) (drop g text)) = (
                    rest,
                    subst (λ n. Second (take (m - n) (drop n text) ++ rest))
                        e (subst Second ends.2 both.second),
                  ) in
                  let least : m - g ≤ k = second.longest (m - g) (omega (arith, length-drop g text)) begins in
                  omega (arith, ends.0)
            ]
      ]

  -- a token and then a longest front of what stands behind it
  pub IsLongestFront-Sequence : (text : List ℕ) (g k : ℕ) → 0 < g → IsTokenFront Token text g
      → IsLongestFront Second (drop g text) k
      → IsLongestFront (Sequence Token Second) text (g + k)
  IsLongestFront-Sequence text g k some front second = record {
    within = omega (arith, front.within, second.within, length-drop g text);
    begins = (
      second.begins.0,
      record {
        front = take g text;
        back = take k (drop g text) ++ second.begins.0;
        split = ap (λ t. t ++ second.begins.0) (take-add g k text) ∙ append_assoc (take g text) (take k (drop g text))
            second.begins.0;
        first = front.token some;
        second = second.begins.1;
      },
    );
    longest = λ m. longest_part text g k m front second;
  }

  -- where no token stands, nothing goes along
  pub IsLongestFront-no_token : (text : List ℕ) (front back : List ℕ) → Token front → Second back
      → IsTokenFront Token text 0
      → IsLongestFront (Sequence Token Second) text 0
  IsLongestFront-no_token text one_token one_back is_token is_back none = record {
    within = omega arith;
    begins = (
      one_token ++ one_back,
      record {
        front = one_token;
        back = one_back;
        split = refl;
        first = is_token;
        second = is_back;
      },
    );
    longest = no_front;
  }
    where
      no_front : (m : ℕ) → m ≤ length text → Begins (Sequence Token Second) (take m text) → m ≤ 0
      no_front m within (rest, both) = elim (cases_lt 0 m) [
        | inr least ↦ least
        | inl some ↦
            elim (parted m text rest both.front both.back within both.split) [
              | inl reaches ↦ none.longest m
                  within (subst Token (sym reaches.1) (token.closed m both.front some reaches.0 both.first))
              | inr ends ↦
                  let least : length both.front ≤ 0 =
                  none.longest (length both.front) (omega (arith, ends.0)) (subst Token (sym ends.1) both.first) in
                  let more : 0 < length both.front = token.some both.front both.first in
                  omega arith
            ]
      ]
