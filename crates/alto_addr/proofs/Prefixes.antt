-- The longest front of a text that begins a prefix: the address first, and behind a slash the length.
use Rattle.std.proofs.Common.{◌≡◌, ◌≢◌, ℕ, suc, ◌+◌, ◌-◌, ◌<◌, ◌≤◌, ◌⊎◌, List, [], ◌∷◌, ◌++◌, length, get_or, take}
use Rattle.std.proofs.Common.{drop, decimal, sym, ap, ◌∙◌, subst, inl, inr, arith, append_assoc, append-nil}
use Rattle.std.proofs.Common.{length-append, length-drop, lit<, take-append-drop}
use Rattle.std.proofs.lemmas.Bool.{cases_lt}
use Rattle.std.proofs.Math.Seq.{take-add, take-suc, drop-cons, take-append_seam, drop-append_seam}
use Rattle.alto_addr.specs.declared.addr.Addr.{Addr}
use Rattle.alto_addr.specs.Text.{IsAddrText, IsPrefixText}
use Rattle.alto_addr.specs.Tokens.{IsLength}
use Rattle.alto_addr.specs.Place.{Begins, IsLongestFront, IsAnyAddr, IsAnyPrefix}
use Rattle.alto_addr.proofs.Sequences.{parted, next_byte}
use Rattle.alto_addr.proofs.Plain.{IsPlain, plain_slash, plain_address}
use Rattle.alto_addr.proofs.Whole.{address_of}

pub plain_any : (text : List ℕ) → IsAnyAddr text → IsPlain text
plain_any text any = plain_address text (address_of text any.0 any.1)

-- a front that begins a prefix ends in its address, or reaches past the longest address
abbrev Reaches : List ℕ → ℕ → ℕ → List ℕ → Type 0
Reaches text n m rest =
    (m ≤ n) ⊎ ((n < m) × IsAnyAddr (take n text)
    × ((len : ℕ) × (len < 1000) × (47 ∷ decimal len ≡ take (m - n) (drop n text) ++ rest)))

-- a slash stands where the length begins
slash_at : (l m : ℕ) (text rest later : List ℕ) → l < m → m ≤ length text
    → 47 ∷ later ≡ take (m - l) (drop l text) ++ rest → get_or text l 0 ≡ 47
slash_at l m text rest later less within e =
    let (back, next) = next_byte l m text rest less within in
    let whole = e ∙ next in
    cc

no_slash_before : (l n : ℕ) (text rest : List ℕ) → l < n → n ≤ length text → IsPlain (take n text ++ rest)
    → get_or text l 0 ≡ 47 → ⊥
no_slash_before l n text rest less within plain slash =
    let size : suc l + (n - suc l) ≡ n = omega arith in
    let later = take (n - suc l) (drop (suc l) text) in
    let front : take n text ≡ take (suc l) text ++ later = sym (ap (λ k. take k text) size)
    ∙ take-add (suc l) (n - suc l) text in
    let byte : take (suc l) text ≡ take l text ++ 47 ∷ [] = take-suc text l 0 (omega arith)
    ∙ ap (λ b. take l text ++ b ∷ []) slash in
    let whole : take n text ++ rest ≡ take l text ++ 47 ∷ (later ++ rest) =
    ap (λ t. t ++ rest) (front ∙ ap (λ t. t ++ later) byte) ∙ simp append_assoc in
    plain_slash (take l text) (later ++ rest) (subst IsPlain whole plain)

reaches : (text : List ℕ) (n m : ℕ) → IsLongestFront IsAnyAddr text n → m ≤ length text
    → (rest : List ℕ) (addr : Addr) (len : ℕ)
    → IsPrefixText (take m text ++ rest) addr len → Reaches text n m rest
reaches text n m front within rest addr len h =
    let split : take m text ++ rest ≡ h.addr_text ++ 47 ∷ decimal len =
    h.spelled ∙ append_assoc h.addr_text (47 ∷ []) (decimal len) in
    elim (parted m text rest h.addr_text (47 ∷ decimal len) within split) [
      | inl ends ↦
          let whole : h.addr_text ≡ take m text ++ drop m h.addr_text = sym (take-append-drop m h.addr_text)
          ∙ ap (λ t. t ++ drop m h.addr_text) (sym ends.1) in
          inl (front.longest m within (drop m h.addr_text, (addr, subst (λ t. IsAddrText t addr) whole h.writes_addr)))
      | inr goes ↦
          let l = length h.addr_text in
          let whole : h.addr_text ≡ take l text ++ [] = sym goes.1 ∙ sym (append-nil (take l text)) in
          let least : l ≤ n = front.longest l (omega (arith, goes.0))
          ([], (addr, subst (λ t. IsAddrText t addr) whole h.writes_addr)) in
          elim (cases_lt l n) [
            | inl less ↦
                absurd (no_slash_before l n text front.begins.0 less front.within (plain_any _ front.begins.1)
                (slash_at l m text rest (decimal len) goes.0 within goes.2))
            | inr more ↦
                let e : l ≡ n = omega arith in
                inr (
                  omega (arith, goes.0),
                  (addr, subst (λ t. IsAddrText t addr) (sym goes.1 ∙ ap (λ k. take k text) e) h.writes_addr),
                  (len, h.short, subst (λ k. 47 ∷ decimal len ≡ take (m - k) (drop k text) ++ rest) e goes.2),
                )
          ]
    ]

begins_at : (text : List ℕ) (n : ℕ) → IsLongestFront IsAnyAddr text n → Begins IsAnyPrefix (take n text)
begins_at text n front =
    let (rest, (addr, whole)) = front.begins in (
      rest ++ 47 ∷ decimal 0,
      (
        addr,
        0,
        record {
          addr_text = take n text ++ rest;
          spelled = sym (simp append_assoc);
          writes_addr = whole;
          short = lit< tt;
        },
      ),
    )

-- no slash stands behind the longest front
pub IsLongestFront-no_slash : (text : List ℕ) (n : ℕ) → IsLongestFront IsAnyAddr text n
    → ((rest : List ℕ) → drop n text ≢ 47 ∷ rest)
    → IsLongestFront IsAnyPrefix text n
IsLongestFront-no_slash text n front none = record {
  within = front.within;
  begins = begins_at text n front;
  longest = λ m within begins. elim (reaches text n m front within begins.0 begins.1.0 begins.1.1 begins.1.2) [
    | inl least ↦ least
    | inr goes ↦
        let slash = slash_at n m text begins.0 (decimal goes.2.0) goes.0 within goes.2.2 in
        absurd (none (drop (suc n) text) (drop-cons text n 0 (omega (arith, goes.0))
        ∙ ap (λ b. b ∷ drop (suc n) text) slash))
  ];
}

-- the longest front is no whole address
pub IsLongestFront-no_addr : (text : List ℕ) (n : ℕ) → IsLongestFront IsAnyAddr text n → ¬ (IsAnyAddr (take n text))
    → IsLongestFront IsAnyPrefix text n
IsLongestFront-no_addr text n front none = record {
  within = front.within;
  begins = begins_at text n front;
  longest = λ m within begins. elim (reaches text n m front within begins.0 begins.1.0 begins.1.1 begins.1.2) [
    | inl least ↦ least
    | inr goes ↦ absurd (none goes.1)
  ];
}

-- an address, a slash, and the longest front of a length
pub IsLongestFront-slash : (text digits : List ℕ) (n k : ℕ) → IsLongestFront IsAnyAddr text n
    → drop n text ≡ 47 ∷ digits → IsAnyAddr (take n text)
    → IsLongestFront IsLength digits k → IsLongestFront IsAnyPrefix text (n + suc k)
IsLongestFront-slash text digits n k front slash any later = record {
  within = let size = ap length slash in omega (arith, front.within, later.within, length-drop n text);
  begins =
      let front_is : take (n + suc k) text ≡ take n text ++ 47 ∷ take k digits = take-add n (suc k) text
      ∙ ap (λ t. take n text ++ take (suc k) t) slash in (
        later.begins.0,
        (
          any.0,
          later.begins.1.value,
          record {
            addr_text = take n text;
            spelled = ap (λ t. t ++ later.begins.0) front_is
                ∙ append_assoc (take n text) (47 ∷ take k digits) later.begins.0
                ∙ ap (λ t. take n text ++ 47 ∷ t) later.begins.1.spelled
                ∙ sym (append_assoc (take n text) (47 ∷ []) (decimal later.begins.1.value));
            writes_addr = any.1;
            short = later.begins.1.fits;
          },
        ),
      );
  longest = λ m within begins. elim (reaches text n m front within begins.0 begins.1.0 begins.1.1 begins.1.2) [
    | inl least ↦ omega arith
    | inr goes ↦
        let size = ap length slash in
        let j = m - n - 1 in
        let e : m - n ≡ suc j = omega (arith, goes.0) in
        let shown : 47 ∷ decimal goes.2.0 ≡ take (suc j) (47 ∷ digits) ++ begins.0 =
        goes.2.2 ∙ ap (λ i. take i (drop n text) ++ begins.0) e ∙ ap (λ t. take (suc j) t ++ begins.0) slash in
        let digits_are : take j digits ++ begins.0 ≡ decimal goes.2.0 = sym (ap (drop 1) shown) in
        let least : j ≤ k = later.longest j (omega (arith, length-drop n text))
        (begins.0, record { value = goes.2.0; fits = goes.2.1; spelled = digits_are }) in
        omega (arith, goes.0)
  ];
}

-- the whole text of a prefix: its address is the longest front, and a slash stands behind it
pub record IsCut (text : List ℕ) (n : ℕ) (addr : Addr) (len : ℕ) : Type 0 where
  pub any : IsAnyAddr (take n text)
  pub slash : drop n text ≡ 47 ∷ decimal len
  pub short : len < 1000

pub cut : (text : List ℕ) (n : ℕ) (addr : Addr) (len : ℕ) → IsLongestFront IsAnyAddr text n → IsPrefixText text addr len
    → IsCut text n addr len
cut text n addr len front h =
    let l = length h.addr_text in
    let split : text ≡ h.addr_text ++ 47 ∷ decimal len = h.spelled ∙ append_assoc h.addr_text (47 ∷ []) (decimal len) in
    let within : l < length text = omega (arith, ap length split, length-append h.addr_text (47 ∷ decimal len)) in
    let first : take l text ≡ h.addr_text = ap (take l) split ∙ take-append_seam h.addr_text (47 ∷ decimal len) in
    let later : drop l text ≡ 47 ∷ decimal len = ap (drop l) split ∙ drop-append_seam h.addr_text (47 ∷ decimal len) in
    let whole : h.addr_text ≡ take l text ++ [] = sym first ∙ sym (append-nil (take l text)) in
    let least : l ≤ n = front.longest l (omega arith)
    ([], (addr, subst (λ t. IsAddrText t addr) whole h.writes_addr)) in
    let byte : 47 ∷ decimal len ≡ get_or text l 0 ∷ drop (suc l) text = sym later ∙ drop-cons text l 0 within in
    let slash : get_or text l 0 ≡ 47 = cc in
    elim (cases_lt l n) [
      | inl less ↦ absurd (no_slash_before l n text front.begins.0 less front.within (plain_any _ front.begins.1) slash)
      | inr more ↦
          let e : l ≡ n = omega arith in
          record {
            any = (addr, subst (λ t. IsAddrText t addr) (sym first ∙ ap (λ k. take k text) e) h.writes_addr);
            slash = sym (ap (λ k. drop k text) e) ∙ later;
            short = h.short;
          }
    ]

-- an address, a slash and a length are a prefix's text
pub prefix_of : (text digits : List ℕ) (n len : ℕ) (addr : Addr) → IsAddrText (take n text) addr
    → drop n text ≡ 47 ∷ digits → digits ≡ decimal len → len < 1000
    → IsPrefixText text addr len
prefix_of text digits n len addr h slash e short = record {
  addr_text = take n text;
  spelled = sym (take-append-drop n text) ∙ ap (λ t. take n text ++ t) (slash ∙ ap (λ t. 47 ∷ t) e)
      ∙ sym (append_assoc (take n text) (47 ∷ []) (decimal len));
  writes_addr = h;
  short = short;
}
