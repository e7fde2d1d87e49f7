use Rattle.std.proofs.Common.{◌≡◌, ◌<◌, ◌^◌, ℕ, List, get_or, ◌==◌, false, Option, Some, None, sym, subst}
use Rattle.std.specs.Option.{SomeIff, IfSome}
use Rattle.fast_float.specs.Text.{Parts, IsInteger, digits_of, minus, scan}
use Rattle.serde_json.specs.Data.{unsigned}
use Rattle.serde_json.specs.Read.{number_of}
use Rattle.json_tree.proofs.TokenLemmas.{number_of_digits}
use Rattle.json_tree.proofs.reading.whole_number.Goals as goal

-- what the numeral of a text without a sign gives is the number of the text
read : (text : List ℕ) (n : Option ℕ) → (get_or text 0 0 == minus) ≡ false
    → SomeIff n (IsInteger (scan text) × (digits_of (scan text) < 2 ^ 64)) (digits_of (scan text))
    → IfSome n (λ number. number_of text ≡ Some (unsigned number))
read text None no_sign fits = tt
read text (Some n) no_sign fits = number_of_digits text n no_sign fits.0 fits.1

pub returns : goal.returns
returns c =
    let bytes = c.as_bytes-bytes.result.now in
    let scanned = λ (parts : Parts).
    SomeIff c.to_u64.result (IsInteger parts × (digits_of parts < 2 ^ 64)) (digits_of parts) in
    let of_bytes = read bytes c.to_u64.result (sym c.if-has_minus.ensures)
    (subst scanned c.scan.ensures.parts c.to_u64.ensures) in
    subst (λ text. IfSome c.to_u64.result (λ number. number_of text ≡ Some (unsigned number)))
    c.as_bytes-bytes.ensures.value of_bytes
