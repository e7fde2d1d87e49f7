-- The rule of a history, and what the step that adds an import tells.
use Rattle.std.specs.Prelude.{ℕ, ◌≡◌, ◌==◌, true, List, [], ◌∷◌, ◌++◌, length, MatchBool}
use Rattle.logbook.specs.Pages.{Cell, Step, View, Book as Name, Named}
use Rattle.alto_hub.specs.History.{Submitted}

-- the first word is the length of the history; a history has a second word, which isn't used
abbrev pub IsKept : List Cell → List Submitted → Type 0
IsKept cells log = cells ≡ (length log, true) ∷ (0, true) ∷ []

-- the first word of a history
abbrev pub head_of : Name → Named
head_of name = record { tracked = true; key = 0; book = name }

-- where the length was the one that was expected, the import was added to all that had been reached
abbrev pub Adds : Step Submitted → View Submitted ℕ → ℕ → View Submitted ℕ → Type 0
Adds step before found after = MatchBool (found == step.old) (after.0 ≡ before.0 ++ step.ask ∷ []) (Unit {0})
