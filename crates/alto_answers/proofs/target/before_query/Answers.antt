-- What stands before a byte that isn't there is the whole text.
use Rattle.std.proofs.Common.{◌≡◌, ◌∙◌, ◌==◌, ℕ, Bool, false, List, length, take, ap, sym, arith}
use Rattle.std.proofs.lemmas.Bool.{false_from_ne_true, false≢true}
use Rattle.std.proofs.lemmas.List.{take_all}
use Rattle.std.proofs.lemmas.List.Folds.{list_any_at}
use Rattle.std.proofs.lemmas.List.Sums.{position_or_len_is}
use Rattle.std.specs.List.{before_first, list_any, position_or_len}
use Rattle.alto_answers.specs.Target.{question_mark}
use Rattle.alto_answers.proofs.target.before_query.Goals as goal

all_before : (p : ℕ → Bool) (text : List ℕ) → list_any p text ≡ false → text ≡ before_first p text
all_before p text none =
    let end : position_or_len p text ≡ length text = position_or_len_is p text (length text) 0 (omega arith)
    (λ k less. false_from_ne_true _ (λ hit. false≢true (sym none ∙ list_any_at p text k 0 less hit)))
    (λ less. absurd (omega (arith, less))) in
    sym (ap (λ n. take n text) end ∙ take_all (length text) text (omega arith))

pub returns-then-not-contains : goal.returns-then-not-contains
returns-then-not-contains c =
    all_before (λ b. b == question_mark) c.args.target.now (sym c.if-not-contains.ensures.value)
