use Rattle.std.proofs.Common.{◌≡◌, ◌∙◌, ◌+◌, ℕ, Bool, false, bytes_eq, sym, arith}
use Rattle.alto_answers.specs.Opening.{tag}
use Rattle.alto_answers.proofs.HeldLemmas.{find_later}
use Rattle.alto_answers.proofs.held.held_number.Goals as goal

pub loop-number-preserved : goal.loop-number-preserved
loop-number-preserved c =
    let test : ℕ → Bool = λ number. bytes_eq c.args.text.now (tag c.args.epoch.now number) in
    let other : test c.loop-number.number ≡ false = sym c.in_ok-is_tag.ensures ∙ c.if-branch.false in
    find_later test c.loop-number.number (c.args.last + 1) (omega arith) other ∙ c.loop-number.invariant
