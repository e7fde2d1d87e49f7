-- Texts whose bytes stand for themselves between quotes.
use Rattle.std.proofs.Common.{◌≡◌, ◌∙◌, ℕ, refl, ap, sym, append-nil, append_assoc, eqb-true}
use Rattle.std.proofs.lemmas.Bool.{and_parts, false≢true}
use Rattle.std.specs.Prelude.{Bool, true, false, not, ◌&&◌, ◌==◌, nat_lt, List, [], ◌∷◌, ◌++◌, codes}
use Rattle.std.specs.List.{flat_map, list_all}
use Rattle.json.specs.Print.{escape_byte, print, print_from, quoted}
use Rattle.json.specs.Token.{key}
use Rattle.json.specs.Tree.{json_tokens}
use Rattle.serde_json.proofs.Texts.{print-outline}
use Rattle.serde_json.specs.Data.{Data}
use Rattle.serde_json.specs.Written.{compact_text, outline}
use Rattle.doc_pieces.specs.Text.{is_plain}

is_not : (b : Bool) → not b ≡ true → b ≡ false
is_not true is = absurd (false≢true is)
is_not false is = refl

-- a byte that isn't below 32 is none of those that are
above : (b k : ℕ) → nat_lt b 32 ≡ false → nat_lt k 32 ≡ true → (b == k) ≡ false
above b k large small = by (b == k) refl
  where
    by : (e : Bool) → (b == k) ≡ e → (b == k) ≡ false
    by true same =
        absurd (false≢true (sym large ∙ (ap (λ n. nat_lt n 32) (eqb-true b k same) ∙ small)))
    by false other = other

pub plain_byte : (b : ℕ) → is_plain b ≡ true → escape_byte b ≡ b ∷ []
unfolding escape_byte
plain_byte b plain =
    let first = and_parts (not (nat_lt b 32) && not (b == 34)) (not (b == 92)) plain in
    let both = and_parts (not (nat_lt b 32)) (not (b == 34)) first.0 in
    let large : nat_lt b 32 ≡ false = is_not (nat_lt b 32) both.0 in
    let quote : (b == 34) ≡ false = is_not (b == 34) both.1 in
    let slash : (b == 92) ≡ false = is_not (b == 92) first.1 in
    rw (
      quote,
      slash,
      above b 8 large refl,
      above b 12 large refl,
      above b 10 large refl,
      above b 13 large refl,
      above b 9 large refl,
      large,
    ) refl

-- a text of such bytes
pub plain_text : (bytes : List ℕ) → list_all is_plain bytes ≡ true → flat_map escape_byte bytes ≡ bytes
plain_text [] plain = refl
plain_text (b ∷ bytes) plain =
    let both = and_parts (is_plain b) (list_all is_plain bytes) plain in
    rw (plain_byte b both.0, plain_text bytes both.1) refl

-- what a writer of tokens prints for the name of a member
pub printed_name : (name : List ℕ) → print (key name ∷ []) ≡ quoted name ++ 58 ∷ []
unfolding print_from
printed_name name = append-nil (quoted name ++ 58 ∷ [])

-- what it prints for a member
pub printed_member : (name : List ℕ) (value : Data)
    → print (key name ∷ json_tokens (outline value)) ≡ quoted name ++ 58 ∷ compact_text value
unfolding print_from
printed_member name value =
    append_assoc (quoted name) (58 ∷ []) (print (json_tokens (outline value)))
    ∙ ap (λ text. quoted name ++ 58 ∷ text) (print-outline value)

-- how the text of a cost map begins
pub section_opened : 123 ∷ (34 ∷ (codes "cost-map" ++ 34 ∷ 58 ∷ [])) ≡ 123 ∷ (quoted (codes "cost-map") ++ 58 ∷ [])
section_opened =
    ap (λ (text : List ℕ). 123 ∷ ((34 ∷ (text ++ 34 ∷ [])) ++ 58 ∷ [])) (sym (plain_text (codes "cost-map") refl))
