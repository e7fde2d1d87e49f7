use Rattle.std.proofs.Common.{◌≡◌, ◌∙◌, ◌==◌, ℕ, List, Option, Some, None, unwrap_or, length, sym, arith}
use Rattle.std.specs.List.{position_or_len}
use Rattle.std.proofs.lemmas.Bool.{false_from_ne_true}
use Rattle.std.proofs.lemmas.List.Sums.{position_or_len_is}
use Rattle.memchr.specs.Find.{IsFirstByte, is_byte}
use Rattle.alto_answers.proofs.bytes.place_of.Goals as goal

first_place : (byte : ℕ) (text : List ℕ) (found : Option ℕ) → IsFirstByte (is_byte byte) text found
    → unwrap_or found (length text) ≡ position_or_len (λ b. b == byte) text
first_place byte text None nowhere =
    sym (position_or_len_is _ text (length text) 0 (omega arith)
    (λ k less. false_from_ne_true _ (nowhere k (omega arith) less)) (λ less. absurd (omega (arith, less))))
first_place byte text (Some at) first =
    sym (position_or_len_is _ text at 0 (omega (arith, first.0.high))
    (λ k less. false_from_ne_true _ (first.0.before k (omega arith) less)) (λ less. first.1))

pub returns-clause-place : goal.returns-clause-place
returns-clause-place c = c.unwrap_or.ensures ∙ first_place c.args.byte c.args.text.now c.memchr.result c.memchr.ensures
