use Rattle.std.proofs.Common.{◌≡◌, ◌-◌, ◌+◌, bytes_eq}
use Rattle.std.specs.List.{find, range_with_len}
use Rattle.alto_answers.specs.Opening.{tag, held_number}
use Rattle.alto_answers.proofs.held.held_number.Given as goal

-- the first of the numbers that are left is the first of all
abbrev pub invariant-loop-number : goal.invariant-loop-number
invariant-loop-number l =
    find (λ number. bytes_eq l.text (tag l.epoch number)) (range_with_len l.number (l.last + 1 - l.number))
    ≡ held_number l.epoch l.first l.last l.text
