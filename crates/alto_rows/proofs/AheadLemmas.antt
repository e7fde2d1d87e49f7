-- A walk over a span that looks ahead: up to a row of the span all rows are in it, where its rows come first.
use Rattle.std.proofs.Common.{◌≡◌, ℕ, zero, suc, ◌+◌, ◌-◌, ◌<◌, ◌≤◌, refl, ap, arith, get_or}
use Rattle.std.proofs.lemmas.List.Sums.{take_while-cons}
use Rattle.std.specs.Prelude.{Bool, true, false, [], ◌∷◌, ◌++◌, length, take_while}
use Rattle.alto_rows.specs.declared.key.Key.{Key}
use Rattle.alto_rows.specs.declared.span.Span.{Span}
use Rattle.alto_rows.specs.declared.value.Value.{Value}
use Rattle.alto_rows.specs.Rows.{Rows}
use Rattle.alto_rows.specs.Span.{is_in, rows_in}
use Rattle.alto_rows.specs.Within.{AreIn, ComeFirst, IsWithin}

-- behind a row of the span its rows come first
first_behind : (s : Span) (row : Key × Value) (rows : Rows) → is_in s row.0 ≡ true → ComeFirst s (row ∷ rows)
    → ComeFirst s rows
first_behind s row rows e first =
    let both : row ∷ rows_in rows s ≡ row ∷ take_while (λ (next : Key × Value). is_in s next.0) rows =
    rw (take_while-cons (λ (next : Key × Value). is_in s next.0) row rows, e) at first in
    cc

-- behind a row outside there are none
none_outside : (s : Span) (row : Key × Value) (rows : Rows) → is_in s row.0 ≡ false → ComeFirst s (row ∷ rows)
    → rows_in rows s ≡ []
none_outside s row rows e first = rw (take_while-cons (λ (next : Key × Value). is_in s next.0) row rows, e) at first

-- where there are none, they come first
first_of_none : (s : Span) (rows : Rows) → rows_in rows s ≡ [] → ComeFirst s rows
first_of_none s [] none = refl
first_of_none s (row ∷ rows) none = by (is_in s row.0) refl
  where
    by : (b : Bool) → is_in s row.0 ≡ b → ComeFirst s (row ∷ rows)
    by true e = let some : row ∷ rows_in rows s ≡ [] = rw e at none in cc
    by false e =
        let rest : rows_in rows s ≡ [] = rw e at none in
        rw (take_while-cons (λ (next : Key × Value). is_in s next.0) row rows, e) rest

-- rows of which one is in the span aren't without rows of the span
some_inside : (s : Span) (run rest : Rows) (at : ℕ) (d : Key × Value) → at < length run
    → is_in s (get_or run at d).0 ≡ true
    → rows_in (run ++ rest) s ≡ [] → ⊥
some_inside s [] rest at d within inside none = omega (arith, within)
some_inside s (row ∷ run) rest zero d within inside none = let some : row ∷ rows_in (run ++ rest) s ≡ [] =
    rw inside at none in cc
some_inside s (row ∷ run) rest (suc at) d within inside none =
    by (some_inside s run rest at d (omega (arith, within)) inside) (is_in s row.0) refl
  where
    by : (rows_in (run ++ rest) s ≡ [] → ⊥) → (b : Bool) → is_in s row.0 ≡ b → ⊥
    by below true e = let some : row ∷ rows_in (run ++ rest) s ≡ [] = rw e at none in cc
    by below false e = below (rw e at none)

-- none of the rows is known
pub in_none : (s : Span) (rows : Rows) → AreIn s 0 rows
in_none s [] = tt
in_none s (row ∷ rows) = tt

-- of no rows all are in the span
pub none_in : (s : Span) (count : ℕ) → AreIn s count []
none_in s zero = tt
none_in s (suc count) = tt

-- up to a row of the span all are in it
up_to_inside : (s : Span) (run rest : Rows) (at : ℕ) (d : Key × Value) → at < length run → ComeFirst s (run ++ rest)
    → is_in s (get_or run at d).0 ≡ true
    → AreIn s (suc at) (run ++ rest)
up_to_inside s [] rest at d within first inside = absurd (omega (arith, within))
up_to_inside s (row ∷ run) rest zero d within first inside = (inside, in_none s (run ++ rest))
up_to_inside s (row ∷ run) rest (suc at) d within first inside =
    by (λ more. up_to_inside s run rest at d (omega (arith, within)) more inside)
    (some_inside s run rest at d (omega (arith, within)) inside) (is_in s row.0) refl
  where
    by : (ComeFirst s (run ++ rest) → AreIn s (suc at) (run ++ rest)) → (rows_in (run ++ rest) s ≡ [] → ⊥) → (b : Bool)
        → is_in s row.0 ≡ b
        → AreIn s (suc (suc at)) (row ∷ (run ++ rest))
    by below some true e = (e, below (first_behind s row (run ++ rest) e first))
    by below some false e = absurd (some (none_outside s row (run ++ rest) e first))

-- so many rows are known where the last of them is in the span
pub known_up_to : (s : Span) (run rest : Rows) (at most : ℕ) (d : Key × Value) → at < length run → most ≡ at + 1
    → is_in s (get_or run at d).0 ≡ true
    → ComeFirst s (run ++ rest) → AreIn s most (run ++ rest)
known_up_to s run rest at most d within all inside first =
    let next : most ≡ suc at = omega (arith, all) in
    rw next (up_to_inside s run rest at d within first inside)

-- ---- a step of the walk

-- a known row is in the span, and one less is known behind it
pub known_step : (s : Span) (row : Key × Value) (rows : Rows) (known : ℕ) → 0 < known → IsWithin s (row ∷ rows) known
    → is_in s row.0 ≡ true
known_step s row rows zero some w = absurd (omega (arith, some))
known_step s row rows (suc known) some w = w.inside.0

pub known_behind : (s : Span) (row : Key × Value) (rows : Rows) (known : ℕ) → 0 < known → IsWithin s (row ∷ rows) known
    → IsWithin s rows (known - 1)
known_behind s row rows zero some w = absurd (omega (arith, some))
known_behind s row rows (suc known) some w =
    let less : suc known - 1 ≡ known = omega arith in
    rw less (record { first = first_behind s row rows w.inside.0 w.first; inside = w.inside.1 })

-- behind a row of the span so many are known as a look ahead finds
pub looked_behind : (s : Span) (row : Key × Value) (rows : Rows) (known : ℕ) → is_in s row.0 ≡ true
    → ComeFirst s (row ∷ rows)
    → (ComeFirst s rows → AreIn s known rows) → IsWithin s rows known
looked_behind s row rows known e first look =
    let more : ComeFirst s rows = first_behind s row rows e first in
    record { first = more; inside = look more }

-- behind one outside none
pub outside_behind : (s : Span) (row : Key × Value) (rows : Rows) → is_in s row.0 ≡ false → ComeFirst s (row ∷ rows)
    → IsWithin s rows 0
outside_behind s row rows e first =
    record { first = first_of_none s rows (none_outside s row rows e first); inside = in_none s rows }

-- what a step shows of the rows that are left
pub inside_step : (s : Span) (row : Key × Value) (rows : Rows) → is_in s row.0 ≡ true
    → rows_in (row ∷ rows) s ≡ row ∷ rows_in rows s
inside_step s row rows e = rw e refl

pub outside_step : (s : Span) (row : Key × Value) (rows : Rows) → is_in s row.0 ≡ false → ComeFirst s (row ∷ rows)
    → (rows_in (row ∷ rows) s ≡ []) × (rows_in rows s ≡ [])
outside_step s row rows e first =
    let none : rows_in rows s ≡ [] = none_outside s row rows e first in
    (rw e none, none)
