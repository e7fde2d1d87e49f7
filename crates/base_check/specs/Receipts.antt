-- What a look at one receipt after another tells.
use Rattle.std.specs.Prelude.{◌≡◌, ℕ, Bool, true, ◌&&◌, nat_le, List, [], ◌∷◌}
use Rattle.std.specs.BTreeSet.{BTreeSet, contains}
use Rattle.std.specs.List.{list_any}
use Rattle.alto_rows.specs.Order.{name_cmp, same_name}
use Rattle.base_code.specs.Bases.{KeptData}

-- the set has these ids
abbrev pub HasIds : List (List ℕ) → BTreeSet (List ℕ) → Type 0
HasIds ids set = (id : List ℕ) → contains name_cmp set id ≡ list_any (same_name id) ids

-- no moment is below the one before it, the first not below this one
abbrev pub never_fall : ℕ → List KeptData → Bool
never_fall last [] = true
never_fall last (kept ∷ receipts) = nat_le last kept.moment && never_fall kept.moment receipts
