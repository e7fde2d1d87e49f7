-- Costs that stand one after another, by source.
use Rattle.std.specs.Prelude.{ℕ, zero, suc, List, [], ◌∷◌, Option, drop, take}

-- the costs of so many sources, where each has so many
abbrev pub rows_of : ℕ → ℕ → List (Option ℕ) → List (List (Option ℕ))
rows_of zero width costs = []
rows_of (suc sources) width costs = take width costs ∷ rows_of sources width (drop width costs)
