-- The addresses of a prefix inside another are the other's.
use Rattle.std.proofs.Common.{◌≡◌, ℕ, ◌+◌, ◌-◌, ◌/◌, ◌^◌, ◌≤◌, sym, ap, ◌∙◌, arith}
use Rattle.std.proofs.lemmas.Nat.{shr-shr}
use Rattle.alto_addr.specs.declared.addr.Addr.{Addr}
use Rattle.alto_addr.specs.declared.addr.Addr.TheVariants.{V4, V6}
use Rattle.alto_addr.specs.Bits.{first_bits, HasLength, Holds, IsInside}

-- the first of the first bits
fewer : (width less more number : ℕ) → less ≤ more → more ≤ width
    → first_bits width less number ≡ first_bits width more number / 2 ^ (more - less)
fewer width less more number low high =
    let e : (width - more) + (more - less) ≡ width - less = omega arith in
    ap (λ k. number / 2 ^ k) (sym e) ∙ sym (shr-shr number (width - more) (more - less))

agree : (width less more a b : ℕ) → less ≤ more → more ≤ width → first_bits width more a ≡ first_bits width more b
    → first_bits width less a ≡ first_bits width less b
agree width less more a b low high e =
    fewer width less more a low high ∙ ap (λ n. n / 2 ^ (more - less)) e ∙ sym (fewer width less more b low high)

pub held_too : (inner outer addr : Addr) (inner_len outer_len : ℕ) → HasLength inner inner_len
    → IsInside inner inner_len outer outer_len
    → Holds inner inner_len addr → Holds outer outer_len addr
held_too (V4 i) (V4 o) (V4 a) inner_len outer_len fits h held = h.1 ∙ agree 32 outer_len inner_len i a h.0 fits held
held_too (V6 i) (V6 o) (V6 a) inner_len outer_len fits h held = h.1 ∙ agree 128 outer_len inner_len i a h.0 fits held
held_too (V4 i) (V4 o) (V6 a) inner_len outer_len fits h held = absurd held
held_too (V6 i) (V6 o) (V4 a) inner_len outer_len fits h held = absurd held
held_too (V4 i) (V6 o) a inner_len outer_len fits h held = absurd h.1
held_too (V6 i) (V4 o) a inner_len outer_len fits h held = absurd h.1
