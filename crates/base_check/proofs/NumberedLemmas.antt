-- Rows none of which shows a resource without a version, or a version above a number.
use Rattle.std.proofs.Common.{◌≡◌, refl, ap, arith}
use Rattle.std.proofs.lemmas.Bool.{le-ltb, ltb-false, not_from_true, or_from, or_parts}
use Rattle.std.specs.Prelude.{ℕ, ◌≤◌, Bool, true, false, not, Option, Some, None}
use Rattle.std.specs.List.{list_any}
use Rattle.alto_rows.specs.declared.key.Key.{Key}
use Rattle.alto_rows.specs.declared.key.Key.TheVariants as key
use Rattle.alto_rows.specs.declared.resource.Resource.{Resource}
use Rattle.alto_rows.specs.declared.resource.Resource.TheVariants as resource
use Rattle.alto_rows.specs.declared.value.Value.{Value}
use Rattle.alto_rows.specs.Rows.{Rows, AreSorted, value_of, has_row}
use Rattle.alto_rows.specs.Versions.{declaring_key, is_declared, number_in, version_of}
use Rattle.alto_rows.proofs.SoundLemmas.{has_row-some}
use Rattle.alto_edits.specs.Rules.{lacks}
use Rattle.batch_check.proofs.DeclaredLemmas.{all_fail, fails_at}
use Rattle.batch_check.proofs.NumberLemmas.{HasValue, has_value}
use Rattle.base_check.specs.Numbered.{is_misnumbered}

-- each declared resource has a version, and none is above the number
pub record AreNumbered (rows : Rows) (number : ℕ) : Type 0 where
  pub there : (of : Resource) → is_declared rows of ≡ true → has_row rows (key.Seq of) ≡ true
  pub low : (of : Resource) → version_of rows of ≤ number

-- a key that isn't lacking has a row
lacks_not : (rows : Rows) (at : Key) → lacks rows at ≡ false → has_row rows at ≡ true
lacks_not rows at h = by (has_row rows at) h
  where
    by : (b : Bool) → not b ≡ false → b ≡ true
    by true e = refl
    by false e = cc

-- no row shows one
abbrev NoneMisnumbered : Rows → ℕ → Type 0
NoneMisnumbered rows number = list_any (is_misnumbered rows number) rows ≡ false

-- the row of a key doesn't
passes : (rows : Rows) (number : ℕ) (at : Key) (there : HasValue rows at) → NoneMisnumbered rows number
    → is_misnumbered rows number (at, there.v) ≡ false
passes rows number at there none = fails_at (is_misnumbered rows number) rows at there.v none there.is

-- so a declared resource has a version
there_from : (rows : Rows) (number : ℕ) (of : Resource) → NoneMisnumbered rows number → is_declared rows of ≡ true
    → has_row rows (key.Seq of) ≡ true
there_from rows number (resource.Net net) none h =
    lacks_not rows (key.Seq (resource.Net net))
    (or_parts _ _ (passes rows number (key.Net net) (has_value rows (key.Net net) h) none)).0
there_from rows number (resource.Prop net) none h =
    lacks_not rows (key.Seq (resource.Prop net))
    (or_parts _ _ (passes rows number (key.Net net) (has_value rows (key.Net net) h) none)).1
there_from rows number (resource.Cost net metric) none h =
    lacks_not rows (key.Seq (resource.Cost net metric))
    (passes rows number (key.Metric net metric) (has_value rows (key.Metric net metric) h) none)

-- and none is above the number
low_from : (rows : Rows) (number : ℕ) (of : Resource) → NoneMisnumbered rows number → version_of rows of ≤ number
low_from rows number of none = by (value_of rows (key.Seq of)) refl
  where
    by : (o : Option Value) → value_of rows (key.Seq of) ≡ o → number_in o ≤ number
    by None e = omega arith
    by (Some v) e = ltb-false number (number_in (Some v))
        (fails_at (is_misnumbered rows number) rows (key.Seq of) v none e)

pub numbered_from : (rows : Rows) (number : ℕ) → NoneMisnumbered rows number → AreNumbered rows number
numbered_from rows number none =
    record { there = λ of h. there_from rows number of none h; low = λ of. low_from rows number of none }

-- and the other way
has : (rows : Rows) (number : ℕ) (of : Resource) (v : Value) → AreNumbered rows number
    → value_of rows (declaring_key of) ≡ Some v → lacks rows (key.Seq of) ≡ false
has rows number of v are is = not_from_true (has_row rows (key.Seq of))
    (are.there of (has_row-some rows (declaring_key of) v is))

misnumbered_not : (rows : Rows) (number : ℕ) (at : Key) (v : Value) → AreNumbered rows number
    → value_of rows at ≡ Some v → is_misnumbered rows number (at, v) ≡ false
misnumbered_not rows number (key.Net net) v are is =
    or_from _ _ (has rows number (resource.Net net) v are is) (has rows number (resource.Prop net) v are is)
misnumbered_not rows number (key.Metric net metric) v are is = has rows number (resource.Cost net metric) v are is
misnumbered_not rows number (key.Seq of) v are is =
    le-ltb number (number_in (Some v)) (rw (← ap number_in is) (are.low of))
misnumbered_not rows number _ v are is = refl

pub none_from : (rows : Rows) (number : ℕ) → AreSorted rows → AreNumbered rows number → NoneMisnumbered rows number
none_from rows number s are = all_fail (is_misnumbered rows number) rows
    s (λ at v is. misnumbered_not rows number at v are is)
