-- Texts that lie one behind another in one piece of memory.
use Rattle.std.specs.Prelude.{◌≤◌, ℕ, List, length, map, slice_range}
use Rattle.std.specs.List.{AllByRecursion}

-- the texts at such places, each from one up to another
abbrev pub texts_at : List ℕ → List (ℕ × ℕ) → List (List ℕ)
texts_at bytes places = map (λ (place : ℕ × ℕ). slice_range bytes place.0 place.1) places

-- the places end within the bytes
abbrev pub AreWithin : List ℕ → List (ℕ × ℕ) → Type 0
AreWithin bytes places = AllByRecursion (λ (place : ℕ × ℕ). place.1 ≤ length bytes) places
