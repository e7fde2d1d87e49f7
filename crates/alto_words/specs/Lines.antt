-- Command lines written out.
use Rattle.std.specs.Prelude.{◌≡◌, ℕ, ◌==◌, List, [], ◌∷◌, Some, None, if◌then◌else◌}
use Rattle.alto_words.specs.Words.{task_of}
use Rattle.alto_words.specs.declared.task.Task.{Task}

-- a byte before words begins the first of them; a blank ends an empty word before them
abbrev pub before : ℕ → List (List ℕ) → List (List ℕ)
before byte [] = (byte ∷ []) ∷ []
before byte (word ∷ words) = if byte == 32 then [] ∷ word ∷ words else (byte ∷ word) ∷ words

-- the words of a line, between its blanks
abbrev pub words_of : List ℕ → List (List ℕ)
words_of [] = [] ∷ []
words_of (byte ∷ rest) = before byte (words_of rest)

-- the words of the line ask for the task
abbrev pub AsksFor : List ℕ → Task → Type 0
AsksFor line task = task_of (words_of line) ≡ Some task

-- the words of the line are outside the grammar
abbrev pub IsOutside : List ℕ → Type 0
IsOutside line = task_of (words_of line) ≡ None
