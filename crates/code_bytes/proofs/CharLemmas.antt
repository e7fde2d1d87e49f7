-- Characters in UTF-8, byte by byte.
use Rattle.std.proofs.Common.{◌≡◌, ℕ, zero, suc, ◌+◌, ◌-◌, ◌*◌, ◌/◌, ◌%◌, ◌<◌, ◌≤◌, inl, inr, true, List, [], ◌∷◌, ◌++◌}
use Rattle.std.proofs.Common.{length, refl, sym, ap, subst, ◌∙◌, arith, le-ltb, lt-ltb}
use Rattle.std.specs.Prelude.{IsUtf8}
use Rattle.std.specs.Str.Lossy.{second_byte_max, second_byte_min}
use Rattle.std.specs.Str.{all_scalars, encode_utf8_all}
use Rattle.std.proofs.lemmas.Bool.{and_parts, cases_eq, cases_lt, eq-eqb, ne_eqb}
use Rattle.std.proofs.lemmas.Str.{IsUtf8-append, IsUtf8-from_ascii, IsUtf8-nil}
use Rattle.std.proofs.lemmas.Str.Ascii.{IsAscii-nil, IsAscii-cons}
use Rattle.std.proofs.lemmas.Bool.{cond-false, cond-true}
use Rattle.std.proofs.lemmas.Bool.Decides.{nat_tests}
use Rattle.std.proofs.lemmas.Str.{IsUtf8-encode, encode_ascii}
use Rattle.std.specs.Char.{InScalarRange, IsScalar, encode_utf8}
use Rattle.code_bytes.specs.Pieces.{Texts}
use Rattle.code_bytes.specs.Chars.{IsLead, Led, Tails}
use Rattle.code_bytes.specs.Inside.{Passes}
use Rattle.code_bytes.specs.declared.inside.Inside.{Inside}

-- ---- the bytes of a character

two : (c : ℕ) → 0x80 ≤ c → c < 0x800 → encode_utf8 c ≡ (192 + c / 64) ∷ (128 + c % 64) ∷ []
unfolding encode_utf8
two c low high = cond-false _ _ _ (le-ltb c 128 low) ∙ cond-true _ _ _ (lt-ltb c 2048 high)

three : (c : ℕ) → 0x800 ≤ c → c < 0x10000
    → encode_utf8 c ≡ (224 + c / 4096) ∷ (128 + (c / 64) % 64) ∷ (128 + c % 64) ∷ []
unfolding encode_utf8
three c low high =
    cond-false _ _ _ (le-ltb c 128 (omega arith)) ∙ cond-false _ _ _ (le-ltb c 2048 low)
    ∙ cond-true _ _ _ (lt-ltb c 65536 high)

four : (c : ℕ) → 0x10000 ≤ c → encode_utf8 c ≡ (240 + c / 262144) ∷ (128 + (c / 4096) % 64) ∷ (128 + (c / 64) % 64)
    ∷ (128 + c % 64) ∷ []
unfolding encode_utf8
four c low =
    cond-false _ _ _ (le-ltb c 128 (omega arith)) ∙ cond-false _ _ _ (le-ltb c 2048 (omega arith))
    ∙ cond-false _ _ _ (le-ltb c 65536 low)

in_range : (c : ℕ) → IsScalar c → InScalarRange c
in_range c is = grind (arith, nat_tests)

is_scalar : (c : ℕ) → InScalarRange c → IsScalar c
is_scalar c is = grind (arith, nat_tests)

spelled : (c : ℕ) (text : List ℕ) → InScalarRange c → text ≡ encode_utf8 c → IsUtf8 text
spelled c text is e = subst IsUtf8 (sym e) (IsUtf8-encode c (is_scalar c is))

of_two : (x y : ℕ) → 0xC2 ≤ x → x < 0xE0 → 0x80 ≤ y → y ≤ 0xBF → IsUtf8 (x ∷ y ∷ [])
of_two x y low high low2 high2 =
    let c = (x - 192) * 64 + (y - 128) in
    let first : x ≡ 192 + c / 64 = omega arith in
    let second : y ≡ 128 + c % 64 = omega arith in
    spelled c (x ∷ y ∷ []) (inl (omega arith)) (ap (λ b. b ∷ y ∷ []) first ∙ ap (λ b. (192 + c / 64) ∷ b ∷ []) second
    ∙ sym (two c (omega arith) (omega arith)))

of_three : (x y z : ℕ) → 0xE0 ≤ x → x < 0xF0 → 0x80 ≤ y → y ≤ 0xBF → 0x80 ≤ z → z ≤ 0xBF
    → let c = (x - 224) * 4096 + (y - 128) * 64 + (z - 128) in 0x800 ≤ c → InScalarRange c → IsUtf8 (x ∷ y ∷ z ∷ [])
of_three x y z low high low2 high2 low3 high3 least is =
    let c = (x - 224) * 4096 + (y - 128) * 64 + (z - 128) in
    let first : x ≡ 224 + c / 4096 = omega arith in
    let second : y ≡ 128 + (c / 64) % 64 = omega arith in
    let third : z ≡ 128 + c % 64 = omega arith in
    spelled c (x ∷ y ∷ z ∷ []) is
    (ap (λ b. b ∷ y ∷ z ∷ []) first ∙ ap (λ b. (224 + c / 4096) ∷ b ∷ z ∷ []) second
    ∙ ap (λ b. (224 + c / 4096) ∷ (128 + (c / 64) % 64) ∷ b ∷ []) third ∙ sym (three c least (omega arith)))

of_four : (x y z w : ℕ) → 0xF0 ≤ x → 0x80 ≤ y → y ≤ 0xBF → 0x80 ≤ z → z ≤ 0xBF → 0x80 ≤ w → w ≤ 0xBF
    → let high = (x - 240) * 64 + (y - 128) in 0x10 ≤ high → high < 0x110 → IsUtf8 (x ∷ y ∷ z ∷ w ∷ [])
of_four x y z w low low2 high2 low3 high3 low4 high4 least most =
    let c = (x - 240) * 262144 + (y - 128) * 4096 + (z - 128) * 64 + (w - 128) in
    let part : c / 64 ≡ (x - 240) * 4096 + (y - 128) * 64 + (z - 128) = omega arith in
    let first : x ≡ 240 + c / 262144 = omega arith in
    let second : y ≡ 128 + (c / 4096) % 64 = omega arith in
    let third : z ≡ 128 + (c / 64) % 64 = rw part (omega arith) in
    let fourth : w ≡ 128 + c % 64 = omega arith in
    spelled c (x ∷ y ∷ z ∷ w ∷ []) (inr (omega arith, omega arith))
    (ap (λ b. b ∷ y ∷ z ∷ w ∷ []) first ∙ ap (λ b. (240 + c / 262144) ∷ b ∷ z ∷ w ∷ []) second
    ∙ ap (λ b. (240 + c / 262144) ∷ (128 + (c / 4096) % 64) ∷ b ∷ w ∷ []) third
    ∙ ap (λ b. (240 + c / 262144) ∷ (128 + (c / 4096) % 64) ∷ (128 + (c / 64) % 64) ∷ b ∷ []) fourth
    ∙ sym (four c (omega arith)))

-- ---- the second byte of a character

at_least : (x y : ℕ) → 0x80 ≤ y → (x ≡ 0xE0 → 0xA0 ≤ y) → (x ≡ 0xF0 → 0x90 ≤ y) → second_byte_min x ≤ y
at_least x y low e0 f0 = elim (cases_eq x 0xE0) [
  | inl same ↦ rw (eq-eqb x 0xE0 same) (e0 same)
  | inr other ↦ elim (cases_eq x 0xF0) [
    | inl same ↦ rw (ne_eqb x 0xE0 other, eq-eqb x 0xF0 same) (f0 same)
    | inr neither ↦ rw (ne_eqb x 0xE0 other, ne_eqb x 0xF0 neither) low
  ]
]

at_most : (x y : ℕ) → y ≤ 0xBF → (x ≡ 0xED → y ≤ 0x9F) → (x ≡ 0xF4 → y ≤ 0x8F) → y ≤ second_byte_max x
at_most x y high ed f4 = elim (cases_eq x 0xED) [
  | inl same ↦ rw (eq-eqb x 0xED same) (ed same)
  | inr other ↦ elim (cases_eq x 0xF4) [
    | inl same ↦ rw (ne_eqb x 0xED other, eq-eqb x 0xF4 same) (f4 same)
    | inr neither ↦ rw (ne_eqb x 0xED other, ne_eqb x 0xF4 neither) high
  ]
]

abbrev IsAbove : ℕ → ℕ → Type 0
IsAbove x y = (0x80 ≤ y) × ((x ≡ 0xE0 → 0xA0 ≤ y) × (x ≡ 0xF0 → 0x90 ≤ y))

above : (x y : ℕ) → second_byte_min x ≤ y → IsAbove x y
above x y le = elim (cases_eq x 0xE0) [
  | inl same ↦
      let least : 0xA0 ≤ y = rw (eq-eqb x 0xE0 same) at le in
      (omega (arith, least), ((λ e. least), (λ e. omega (arith, least))))
  | inr other ↦ elim (cases_eq x 0xF0) [
    | inl same ↦
        let least : 0x90 ≤ y = rw (ne_eqb x 0xE0 other, eq-eqb x 0xF0 same) at le in
        (omega (arith, least), ((λ e. absurd (other e)), (λ e. least)))
    | inr neither ↦
        let least : 0x80 ≤ y = rw (ne_eqb x 0xE0 other, ne_eqb x 0xF0 neither) at le in
        (least, ((λ e. absurd (other e)), (λ e. absurd (neither e))))
  ]
]

abbrev IsBelow : ℕ → ℕ → Type 0
IsBelow x y = (y ≤ 0xBF) × ((x ≡ 0xED → y ≤ 0x9F) × (x ≡ 0xF4 → y ≤ 0x8F))

below : (x y : ℕ) → y ≤ second_byte_max x → IsBelow x y
below x y le = elim (cases_eq x 0xED) [
  | inl same ↦
      let most : y ≤ 0x9F = rw (eq-eqb x 0xED same) at le in
      (omega (arith, most), ((λ e. most), (λ e. omega (arith, same, e))))
  | inr other ↦ elim (cases_eq x 0xF4) [
    | inl same ↦
        let most : y ≤ 0x8F = rw (ne_eqb x 0xED other, eq-eqb x 0xF4 same) at le in
        (omega (arith, most), ((λ e. absurd (other e)), (λ e. most)))
    | inr neither ↦
        let most : y ≤ 0xBF = rw (ne_eqb x 0xED other, ne_eqb x 0xF4 neither) at le in
        (most, ((λ e. absurd (other e)), (λ e. absurd (neither e))))
  ]
]

-- ---- a text begins with a character

-- the first byte of a text, and what is behind it
by_char : (c : ℕ) (cs : List ℕ) (count byte : ℕ) (back : List ℕ) → IsScalar c → all_scalars cs ≡ true
    → encode_utf8 c ++ encode_utf8_all cs ≡ byte ∷ back
    → suc (length back) ≡ count → Led count byte back
by_char c cs count byte back is all e len = elim (cases_lt c 128) [
  | inl small ↦
      let whole : c ∷ encode_utf8_all cs ≡ byte ∷ back =
      ap (λ t. t ++ encode_utf8_all cs) (sym (encode_ascii c small)) ∙ e in
      let head : c ≡ byte = cc in
      let tail : encode_utf8_all cs ≡ back = cc in
      record {
        many = 0;
        is_lead = omega (arith, head, small);
        fits = omega (arith, len);
        tails = ((cs, (all, tail)), omega (arith, len));
      }
  | inr from_two ↦ elim (cases_lt c 2048) [
    | inl small ↦
        let whole : (192 + c / 64) ∷ (128 + c % 64) ∷ encode_utf8_all cs ≡ byte ∷ back =
        ap (λ t. t ++ encode_utf8_all cs) (sym (two c from_two small)) ∙ e in
        let head : 192 + c / 64 ≡ byte = cc in
        let tail : (128 + c % 64) ∷ encode_utf8_all cs ≡ back = cc in
        let size : suc (suc (length (encode_utf8_all cs))) ≡ count = ap (λ t. suc (length t)) tail ∙ len in
        record {
          many = 1;
          is_lead = (omega (arith, head, from_two), omega (arith, head, small));
          fits = omega (arith, size);
          tails = subst (λ t. Tails 1 (second_byte_min byte) (second_byte_max byte) (count - 2) t) tail (
            at_least byte (128 + c % 64) (omega arith) (λ s. absurd (omega (arith, s, head, small)))
                (λ s. absurd (omega (arith, s, head, small))),
            at_most byte (128 + c % 64) (omega arith) (λ s. absurd (omega (arith, s, head, small)))
                (λ s. absurd (omega (arith, s, head, small))),
            ((cs, (all, refl)), omega (arith, size)),
          );
        }
    | inr from_three ↦ elim (cases_lt c 65536) [
      | inl small ↦
          let whole : (224 + c / 4096) ∷ (128 + (c / 64) % 64) ∷ (128 + c % 64) ∷ encode_utf8_all cs ≡ byte ∷ back =
          ap (λ t. t ++ encode_utf8_all cs) (sym (three c from_three small)) ∙ e in
          let head : 224 + c / 4096 ≡ byte = cc in
          let tail : (128 + (c / 64) % 64) ∷ (128 + c % 64) ∷ encode_utf8_all cs ≡ back = cc in
          let size : suc (suc (suc (length (encode_utf8_all cs)))) ≡ count = ap (λ t. suc (length t)) tail ∙ len in
          record {
            many = 2;
            is_lead = (omega (arith, head), omega (arith, head, small));
            fits = omega (arith, size);
            tails = subst (λ t. Tails 2 (second_byte_min byte) (second_byte_max byte) (count - 3) t) tail (
              at_least byte (128 + (c / 64) % 64) (omega arith) (λ s. omega (arith, s, head, from_three))
                  (λ s. absurd (omega (arith, s, head, small))),
              at_most byte (128 + (c / 64) % 64) (omega arith)
                  (λ s. elim (in_range c is) [
                    | inl low ↦ omega (arith, s, head, low)
                    | inr high ↦
                        absurd (omega (arith, s, head, high.0))
                  ])
                  (λ s. absurd (omega (arith, s, head, small))),
              (omega arith, omega arith, ((cs, (all, refl)), omega (arith, size))),
            );
          }
      | inr from_four ↦
          let top : c < 1114112 = elim (in_range c is) [
            | inl low ↦ omega (arith, low)
            | inr high ↦
                omega (arith, high.1)
          ] in
          let whole : (240 + c / 262144) ∷ (128 + (c / 4096) % 64) ∷ (128 + (c / 64) % 64) ∷ (128 + c % 64)
          ∷ encode_utf8_all cs ≡ byte ∷ back =
          ap (λ t. t ++ encode_utf8_all cs) (sym (four c from_four)) ∙ e in
          let head : 240 + c / 262144 ≡ byte = cc in
          let tail : (128 + (c / 4096) % 64) ∷ (128 + (c / 64) % 64) ∷ (128 + c % 64) ∷ encode_utf8_all cs ≡ back =
          cc in
          let size : suc (suc (suc (suc (length (encode_utf8_all cs))))) ≡ count =
          ap (λ t. suc (length t)) tail ∙ len in
          record {
            many = 3;
            is_lead = (omega (arith, head), omega (arith, head, top));
            fits = omega (arith, size);
            tails = subst (λ t. Tails 3 (second_byte_min byte) (second_byte_max byte) (count - 4) t) tail (
              at_least byte (128 + (c / 4096) % 64) (omega arith) (λ s. absurd (omega (arith, s, head)))
                  (λ s. omega (arith, s, head, from_four)),
              at_most byte (128 + (c / 4096) % 64) (omega arith) (λ s. absurd (omega (arith, s, head)))
                  (λ s. omega (arith, s, head, top)),
              (omega arith, omega arith, (omega arith, omega arith, ((cs, (all, refl)), omega (arith, size)))),
            );
          }
    ]
  ]
]

by_chars : (cs : List ℕ) (count byte : ℕ) (back : List ℕ) → all_scalars cs ≡ true → encode_utf8_all cs ≡ byte ∷ back
    → suc (length back) ≡ count → Led count byte back
by_chars [] count byte back all e len = absurd cc
by_chars (c ∷ cs) count byte back all e len =
    let both = and_parts _ _ all in
    by_char c cs count byte back both.0 both.1 e len

pub text_led : (count byte : ℕ) (back : List ℕ) → Texts count (byte ∷ back) → Led count byte back
text_led count byte back ((cs, (all, e)), len) = by_chars cs count byte back all e len

-- ---- what is behind a first byte makes a text with it

pub led_text : (many count byte : ℕ) (back : List ℕ) → IsLead many byte → many < count
    → Tails many (second_byte_min byte) (second_byte_max byte) (count - suc many) back → Texts count (byte ∷ back)
led_text zero count byte back lead fits (utf8, len) = (
  IsUtf8-append (byte ∷ []) back (IsUtf8-from_ascii (byte ∷ []) (IsAscii-cons byte [] lead IsAscii-nil)) utf8,
  omega (arith, len, fits),
)
led_text (suc zero) count byte (y ∷ back) lead fits (low, high, (utf8, len)) =
    let up = above byte y low in
    let down = below byte y high in (
      IsUtf8-append (byte ∷ y ∷ []) back (of_two byte y lead.0 lead.1 up.0 down.0) utf8,
      omega (arith, len, fits),
    )
led_text (suc (suc zero)) count byte (y ∷ z ∷ back) lead fits (low, high, (low2, high2, (utf8, len))) =
    let up = above byte y low in
    let down = below byte y high in (
      IsUtf8-append (byte ∷ y ∷ z ∷ []) back (of_three byte y z lead.0 lead.1 up.0 down.0 low2 high2
          (elim (cases_eq byte 0xE0) [
            | inl same ↦ omega (arith, same, up.1.0 same, lead.0, low2)
            | inr other ↦ omega (arith, other, lead.0, up.0, low2)
          ])
          (elim (cases_lt byte 0xED) [
            | inl less ↦ inl (omega (arith, less, lead.0, up.0, low2, down.0, high2))
            | inr le ↦ elim (cases_eq byte 0xED) [
              | inl same ↦ inl (omega (arith, same, up.0, low2, down.1.0 same, high2))
              | inr other ↦ inr (omega (arith, other, le, up.0, low2), omega (arith, lead.1, down.0, high2))
            ]
          ])) utf8,
      omega (arith, len, fits),
    )
led_text (suc (suc (suc zero))) count byte (y ∷ z ∷ w ∷ back) lead
    fits (low, high, (low2, high2, (low3, high3, (utf8, len)))) =
    let up = above byte y low in
    let down = below byte y high in (
      IsUtf8-append (byte ∷ y ∷ z ∷ w ∷ []) back (of_four byte y z w lead.0 up.0 down.0 low2 high2 low3 high3
          (elim (cases_eq byte 0xF0) [
            | inl same ↦ omega (arith, same, up.1.1 same)
            | inr other ↦ omega (arith, other, lead.0, up.0)
          ])
          (elim (cases_eq byte 0xF4) [
            | inl same ↦ omega (arith, same, down.1.1 same)
            | inr other ↦ omega (arith, other, lead.1, down.0)
          ])) utf8,
      omega (arith, len, fits),
    )
led_text (suc zero) count byte [] lead fits is = absurd is
led_text (suc (suc zero)) count byte [] lead fits is = absurd is
led_text (suc (suc zero)) count byte (y ∷ []) lead fits is = absurd is.2
led_text (suc (suc (suc zero))) count byte [] lead fits is = absurd is
led_text (suc (suc (suc zero))) count byte (y ∷ []) lead fits is = absurd is.2
led_text (suc (suc (suc zero))) count byte (y ∷ z ∷ []) lead fits (low, high, (low2, high2, is)) = absurd is
led_text (suc (suc (suc (suc many)))) count byte back lead fits is = absurd lead

-- ---- what is expected behind a byte

pub some_text : (count : ℕ) → (text : List ℕ) × Texts count text
some_text zero = ([], (IsUtf8-nil, refl))
some_text (suc count) =
    let more = some_text count in (
      0 ∷ more.0,
      (
        IsUtf8-append (0 ∷ [])
            more.0 (IsUtf8-from_ascii (0 ∷ []) (IsAscii-cons 0 [] (omega arith) IsAscii-nil)) more.1.0,
        ap suc more.1.1,
      ),
    )

some_tails : (many least most behind : ℕ) → least ≤ most → (text : List ℕ) × Tails many least most behind text
some_tails zero least most behind le = some_text behind
some_tails (suc many) least most behind le =
    let more = some_tails many 0x80 0xBF behind (omega arith) in
    (least ∷ more.0, (omega arith, le, more.1))

seconds : (byte : ℕ) → second_byte_min byte ≤ second_byte_max byte
seconds byte = elim (cases_eq byte 0xE0) [
  | inl e0 ↦ rw (eq-eqb byte 0xE0 e0) (at_most byte 0xA0 (omega arith) (λ e. absurd (omega (arith, e0, e)))
      (λ e. absurd (omega (arith, e0, e))))
  | inr other ↦ elim (cases_eq byte 0xF0) [
    | inl f0 ↦ rw (ne_eqb byte 0xE0 other, eq-eqb byte 0xF0 f0)
        (at_most byte 0x90 (omega arith) (λ e. absurd (omega (arith, f0, e))) (λ e. absurd (omega (arith, f0, e))))
    | inr neither ↦ rw (ne_eqb byte 0xE0 other, ne_eqb byte 0xF0 neither)
        (at_most byte 0x80 (omega arith) (λ e. omega arith) (λ e. omega arith))
  ]
]

pub lead_once : (one other byte : ℕ) → IsLead one byte → IsLead other byte → one ≡ other
lead_once zero zero byte a b = refl
lead_once (suc zero) (suc zero) byte a b = refl
lead_once (suc (suc zero)) (suc (suc zero)) byte a b = refl
lead_once (suc (suc (suc zero))) (suc (suc (suc zero))) byte a b = refl
lead_once zero (suc zero) byte a b = absurd (omega (arith, a, b.0))
lead_once zero (suc (suc zero)) byte a b = absurd (omega (arith, a, b.0))
lead_once zero (suc (suc (suc zero))) byte a b = absurd (omega (arith, a, b.0))
lead_once (suc zero) zero byte a b = absurd (omega (arith, b, a.0))
lead_once (suc zero) (suc (suc zero)) byte a b = absurd (omega (arith, a.1, b.0))
lead_once (suc zero) (suc (suc (suc zero))) byte a b = absurd (omega (arith, a.1, b.0))
lead_once (suc (suc zero)) zero byte a b = absurd (omega (arith, b, a.0))
lead_once (suc (suc zero)) (suc zero) byte a b = absurd (omega (arith, b.1, a.0))
lead_once (suc (suc zero)) (suc (suc (suc zero))) byte a b = absurd (omega (arith, a.1, b.0))
lead_once (suc (suc (suc zero))) zero byte a b = absurd (omega (arith, b, a.0))
lead_once (suc (suc (suc zero))) (suc zero) byte a b = absurd (omega (arith, b.1, a.0))
lead_once (suc (suc (suc zero))) (suc (suc zero)) byte a b = absurd (omega (arith, b.1, a.0))
lead_once (suc (suc (suc (suc one)))) other byte a b = absurd a
lead_once one (suc (suc (suc (suc other)))) byte a b = absurd b

pub lead_passes : (many count byte : ℕ) (next : Inside) → IsLead many byte → many < count
    → next ≡ record {
      many = many;
      least = second_byte_min byte;
      most = second_byte_max byte;
      behind = count - suc many;
    } → Passes (Texts count) byte next
lead_passes many count byte next lead fits is =
    let some = some_tails many (second_byte_min byte) (second_byte_max byte) (count - suc many) (seconds byte) in
    subst (λ n. Passes (Texts count) byte n) (sym is) (record {
      to = λ text its.
          let led = text_led count byte text its in
          subst (λ n. Tails n (second_byte_min byte) (second_byte_max byte) (count - suc n) text)
          (lead_once led.many many byte led.is_lead lead) led.tails;
      from = λ text its. led_text many count byte text lead fits its;
      some = some.0;
      goes_on = some.1;
    })

pub no_lead : (count byte : ℕ) (text : List ℕ) → ((many : ℕ) → IsLead many byte → ⊥) → Texts count (byte ∷ text) → ⊥
no_lead count byte text not is = let led = text_led count byte text is in not led.many led.is_lead

pub no_room : (many count byte : ℕ) (text : List ℕ) → IsLead many byte → count ≤ many → Texts count (byte ∷ text) → ⊥
no_room many count byte text lead le is =
    let led = text_led count byte text is in
    omega (arith, le, led.fits, lead_once led.many many byte led.is_lead lead)

after_tail : (many least most behind byte : ℕ) → least ≤ byte → byte ≤ most
    → Passes (Tails (suc many) least most behind)
    byte (record { many = many; least = 0x80; most = 0xBF; behind = behind })
after_tail many least most behind byte low high =
    let some = some_tails many 0x80 0xBF behind (omega arith) in
    record { to = λ text its. its.2; from = λ text its. (low, high, its); some = some.0; goes_on = some.1 }

pub tail_passes : (many rest least most behind byte : ℕ) → many ≡ suc rest → least ≤ byte → byte ≤ most
    → Passes (Tails many least most behind) byte (record { many = rest; least = 0x80; most = 0xBF; behind = behind })
tail_passes many rest least most behind byte is low high =
    subst (λ n. Passes (Tails n least most behind)
    byte (record { many = rest; least = 0x80; most = 0xBF; behind = behind })) (sym is)
    (after_tail rest least most behind byte low high)
