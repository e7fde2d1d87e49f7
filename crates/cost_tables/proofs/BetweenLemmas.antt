-- Costs that stand one after another, by source.
use Rattle.std.proofs.Common.{◌≡◌, ◌∙◌, ◌+◌, ◌*◌, ◌-◌, ◌<◌, ◌≤◌, ◌⊎◌, inl, inr, ◌∷◌, [], List}
use Rattle.std.proofs.Common.{None, Option, Some, ℕ, ap, arith}
use Rattle.std.proofs.Common.{drop, length, map, option_map, refl, slice_get, suc, sym, take, zero}
use Rattle.std.proofs.Math.Nat.{mul-le-mul_right}
use Rattle.std.proofs.Math.Seq.{drop-append_seam, take-append_seam}
use Rattle.std.proofs.lemmas.List.{drop-drop, length-append}
use Rattle.std.proofs.lemmas.Option.{slice_get_past}
use Rattle.std.specs.List.{PartBy, flat_map, slice_range}
use Rattle.cost_tables.specs.Between.{rows_of}

-- lists of one length, put one behind another and cut again
pub rows_joined : {X : Type 0} (f : X → List (Option ℕ)) (width : ℕ) (xs : List X)
    → ((x : X) → length (f x) ≡ width) → rows_of (length xs) width (flat_map f xs) ≡ map f xs
rows_joined f width [] even = refl
rows_joined f width (x ∷ xs) even =
    rw (← even x, take-append_seam (f x) (flat_map f xs), drop-append_seam (f x) (flat_map f xs), even x)
    (ap (λ rows. f x ∷ rows) (rows_joined f width xs even))

pub length_joined : {X : Type 0} (f : X → List (Option ℕ)) (width : ℕ) (xs : List X)
    → ((x : X) → length (f x) ≡ width) → length (flat_map f xs) ≡ length xs * width
length_joined f width [] even = omega arith
length_joined f width (x ∷ xs) even =
    rw (length-append (f x) (flat_map f xs), even x, length_joined f width xs even) (omega arith)

-- how many rows there are
length_rows : (sources width : ℕ) (costs : List (Option ℕ)) → length (rows_of sources width costs) ≡ sources
length_rows zero width costs = refl
length_rows (suc sources) width costs = ap suc (length_rows sources width (drop width costs))

pub row_past : (sources width : ℕ) (costs : List (Option ℕ)) (source : ℕ) → sources ≤ source
    → slice_get (rows_of sources width costs) source ≡ None
row_past sources width costs source past =
    slice_get_past (rows_of sources width costs) source (rw (length_rows sources width costs) past)

-- the row at a place
row_taken : (sources width : ℕ) (costs : List (Option ℕ)) (source : ℕ) → source < sources
    → slice_get (rows_of sources width costs) source ≡ Some (take width (drop (source * width) costs))
row_taken zero width costs source within = elim within [ ]
row_taken (suc sources) width costs zero within =
    let none : zero ≡ zero * width = omega arith in
    ap (λ n. Some (take width (drop n costs))) none
row_taken (suc sources) width costs (suc source) within =
    let next : width + source * width ≡ suc source * width = omega arith in
    row_taken sources width (drop width costs) source (omega (arith, within))
    ∙ (ap (λ left. Some (take width left)) (drop-drop (source * width) width costs)
    ∙ ap (λ n. Some (take width (drop n costs))) next)

-- it lies within them
pub row_within : (sources width source count : ℕ) → count ≡ sources * width → source < sources
    → source * width + width ≤ count
row_within sources width source count all within =
    let most : (source + 1) * width ≤ sources * width = mul-le-mul_right width (omega (arith, within)) in
    omega (arith, most, all)

-- a part that lies within a list is there
pub part_there : {R X : Type 0} (now : R → List X) (xs : List X) (from to : ℕ) (part : Option R)
    → PartBy now xs from to part → from ≤ to → to ≤ length xs → option_map now part ≡ Some (slice_range xs from to)
part_there now xs from to None by rise within = absurd (outside by.0)
  where
    outside : (to < from) ⊎ (length xs < to) → ⊥
    outside (inl h) = omega (arith, h, rise)
    outside (inr h) = omega (arith, h, within)
part_there now xs from to (Some part) by rise within = ap Some by.0.2

pub row_at : (sources width : ℕ) (costs : List (Option ℕ)) (source start end : ℕ) → source < sources
    → start ≡ source * width → end ≡ start + width
    → slice_get (rows_of sources width costs) source ≡ Some (slice_range costs start end)
row_at sources width costs source start end within begins ends =
    let all : width ≡ end - start = omega (arith, ends) in
    row_taken sources width costs source within
    ∙ (ap (λ n. Some (take width (drop n costs))) (sym begins) ∙ ap (λ n. Some (take n (drop start costs))) all)
