-- The step that adds an import keeps the rule of a history.
use Rattle.std.proofs.Common.{◌≡◌, ℕ, ◌+◌, ◌<◌, ◌==◌, Bool, true, false, List, [], ◌∷◌, ◌++◌, length, refl, ap, sym}
use Rattle.std.proofs.Common.{subst, arith, inl, length-append, None}
use Rattle.std.proofs.lemmas.List.{append-nil}
use Rattle.std.proofs.lemmas.Bool.Decides.{nat_tests}
use mathlib.Core.List.{IsPrefix}
use prog.Atomic.{either}
use Rattle.logbook.specs.Pages.{Cell, cell, keeps, no_nib, step, Moves, Goes}
use Rattle.alto_hub.specs.History.{Submitted}
use Rattle.alto_hub.specs.Rules.{IsKept, Adds}
use Rattle.alto_hub.proofs.PrefixLemmas.{prefix_whole}

-- callers see nothing of a history, and trade nothing
abbrev pub shown : List Submitted → List Submitted
shown log = []

abbrev pub moved : List Submitted → List Submitted → ℕ → Type 0
moved xs ys n = Unit {0}

adds_goes : (log seen : List Submitted) (import : Submitted) (number : ℕ) → length seen ≡ number → IsPrefix seen log
    → (b : Bool) → (length log == number) ≡ b
    → Goes IsKept shown moved 0 (seen, (no_nib, None)) (λ n. either (n == number) (number + 1) n)
    (Adds (step 0 number (number + 1) import) (seen, (no_nib, None))) ((length log, true) ∷ (0, true) ∷ []) log
adds_goes log seen import number len begins true is =
    let here : length log ≡ number = grind (arith, nat_tests) in
    let same : seen ≡ log = prefix_whole seen log begins (omega arith) in
    let longer : either (length log == number) (number + 1) (length log) ≡ length (log ++ import ∷ []) =
    rw is (omega (arith, length-append log (import ∷ []))) in (
      keeps,
      import ∷ [],
      None,
      tt,
      ap (λ (k : ℕ). (k, true) ∷ (0, true) ∷ []) longer,
      inl (refl, refl),
      rw is (ap (λ w. w ++ import ∷ []) (sym same)),
    )
adds_goes log seen import number len begins false is =
    let all : log ++ [] ≡ log = append-nil log in
    let same : either (length log == number) (number + 1) (length log) ≡ length (log ++ []) =
    rw is (ap length (sym all)) in (
      keeps,
      [],
      None,
      tt,
      ap (λ (k : ℕ). (k, true) ∷ (0, true) ∷ []) same,
      inl (refl, refl),
      rw is tt,
    )

-- whatever the history is, the step adds the import to all that was reached, or finds that the history is longer
pub adds_moves : (seen : List Submitted) (import : Submitted) (number : ℕ) → length seen ≡ number
    → Moves IsKept shown moved 0 (seen, (no_nib, None)) (λ n. either (n == number) (number + 1) n)
    (Adds (step 0 number (number + 1) import) (seen, (no_nib, None)))
adds_moves seen import number len cells log kept begins away =
    let P : List Cell → Type 0 = λ cs. (0 < length cs) × ((cell cs 0).1 ≡ true)
    × Goes IsKept shown moved 0 (seen, (no_nib, None)) (λ n. either (n == number) (number + 1) n)
    (Adds (step 0 number (number + 1) import) (seen, (no_nib, None))) cs log in
    subst P (sym kept) (omega arith, refl, adds_goes log seen import number len begins (length log == number) refl)
