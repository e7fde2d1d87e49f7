-- What is looked up of a cost map is what the map shows.
use Rattle.std.proofs.Common.{◌≡◌, ℕ, Bor, refl, ap, sym, ◌∙◌, subst}
use Rattle.std.specs.Prelude.{Bool, true, false, [], ◌∷◌, Option, Some, None, is_some, map, option_map}
use Rattle.std.specs.Iterator.{YieldsFirstRef}
use Rattle.json_tree.specs.Document.{object_of}
use Rattle.alto_names.specs.Name.{IsPidName}
use Rattle.alto_rows.specs.declared.key.Key.{Key}
use Rattle.alto_rows.specs.declared.key.Key.TheVariants as key
use Rattle.alto_rows.specs.declared.span.Span.TheVariants as span
use Rattle.alto_rows.specs.declared.value.Value.{Value}
use Rattle.alto_rows.specs.Good.{AreGood, Fits}
use Rattle.alto_rows.specs.Order.{same_name}
use Rattle.alto_rows.specs.Rows.{Rows}
use Rattle.alto_rows.specs.Span.{rows_in}
use Rattle.alto_rows.proofs.TouchesLemmas.{one_name}
use Rattle.alto_maps.specs.Shape.{Name, group_object, section_object, stands}
use Rattle.alto_rows.specs.Costs.{cost_of}
use Rattle.cost_docs.specs.CostMap.{cost_face, destinations_of, number_data, sources_of}
use Rattle.cost_docs.specs.Costs.{group_shown, groups_shown, shown}
pub use Rattle.cost_docs.specs.Costs.{has_rows}
use Rattle.cost_docs.proofs.CostLemmas.{AreTold, all_told}
use Rattle.cost_docs.proofs.StandsLemmas.{has_any, stands_where}

rows_from : (net metric src : Name) (rows : Rows)
    → has_rows (rows_in rows (span.CostsFrom net metric src)) ≡ has_any (destinations_of rows net metric src)
rows_from net metric src [] = refl
rows_from net metric src ((key.Cost of kind from to, v) ∷ rows) =
    by (same_name net of) (same_name metric kind) (same_name src from) refl refl refl (rows_from net metric src rows)
  where
    by : (a b c : Bool) → same_name net of ≡ a → same_name metric kind ≡ b → same_name src from ≡ c
        → has_rows (rows_in rows (span.CostsFrom net metric src)) ≡ has_any (destinations_of rows net metric src)
        → has_rows (rows_in ((key.Cost of kind from to, v) ∷ rows) (span.CostsFrom net metric src))
        ≡ has_any (destinations_of ((key.Cost of kind from to, v) ∷ rows) net metric src)
    by true true true e f h below = rw (e, f, h) refl
    by true true false e f h below = rw (e, f, h) below
    by true false c e f h below = rw (e, f) below
    by false b c e f h below = rw e below
rows_from net metric src (_ ∷ rows) = rows_from net metric src rows

-- a group stands where its source has a row
pub standing : (net metric src : Name) (rows : Rows)
    → has_rows (rows_in rows (span.CostsFrom net metric src)) ≡ stands (cost_face net metric rows) src
standing net metric src rows = rows_from net metric src rows ∙ sym (stands_where net metric src rows)

-- a walk gives a first row where there is one
pub given_where : (all left : Rows) (first : Option (Bor (Key × Value)))
    → YieldsFirstRef (λ (rows : Rows). rows) all first left → is_some first ≡ has_rows all
given_where all left None gives = sym (ap has_rows gives.0)
given_where all left (Some row) gives = sym (ap has_rows gives)

-- ---- names

-- of good rows a source is a PID's name
source_named : (net metric src : Name) (all rows : Rows) → AreGood all → AreTold all rows
    → has_any (destinations_of rows net metric src) ≡ true → IsPidName src
source_named net metric src all [] good told some = cc
source_named net metric src all ((key.Cost of kind from to, v) ∷ rows) good told some =
    by (same_name net of) (same_name metric kind) (same_name src from) refl refl
    refl (source_named net metric src all rows good told.1)
  where
    by : (a b c : Bool) → same_name net of ≡ a → same_name metric kind ≡ b → same_name src from ≡ c
        → (has_any (destinations_of rows net metric src) ≡ true → IsPidName src) → IsPidName src
    by true true true e f h below =
        let fits : Fits (key.Cost of kind from to) v = rw told.0 at (good.fit (key.Cost of kind from to)) in
        subst IsPidName (sym (one_name src from h)) fits.0.2
    by true true false e f h below = below (rw (e, f, h) at some)
    by true false c e f h below = below (rw (e, f) at some)
    by false b c e f h below = below (rw e at some)
source_named net metric src all (_ ∷ rows) good told some = source_named net metric src all rows good told.1 some

-- so no group of another name stands
pub standing_named : (net metric src : Name) (rows : Rows) → AreGood rows
    → stands (cost_face net metric rows) src ≡ true → IsPidName src
standing_named net metric src rows good stood = source_named net metric src rows rows good (all_told rows good.sorted)
    (sym (stands_where net metric src rows) ∙ stood)

pub none_unnamed : (net metric src : Name) (rows : Rows) → AreGood rows → (IsPidName src → ⊥)
    → false ≡ stands (cost_face net metric rows) src
none_unnamed net metric src rows good other = by (stands (cost_face net metric rows) src) refl
  where
    by : (b : Bool) → stands (cost_face net metric rows) src ≡ b → false ≡ b
    by true e = absurd (other (standing_named net metric src rows good e))
    by false e = refl

-- ---- costs as they are

shown_as_is : (cost : Option ℕ) → number_data (option_map (shown None) cost) ≡ number_data cost
shown_as_is None = refl
shown_as_is (Some n) = refl

-- with no ranks the groups are those of the map
pub groups_as_are : (net metric : Name) (rows : Rows)
    → groups_shown None rows net metric ≡ section_object (cost_face net metric rows)
groups_as_are net metric rows =
    λ i. object_of
    (map (λ src. (
      src,
      object_of (map (λ dst. (dst, shown_as_is (cost_of rows net metric src dst) i))
          (destinations_of rows net metric src)),
    ))
    (sources_of rows net metric))

pub group_as_is : (net metric src : Name) (rows : Rows)
    → group_shown None rows net metric src ≡ group_object (cost_face net metric rows) src
group_as_is net metric src rows =
    λ i. object_of (map (λ dst. (dst, shown_as_is (cost_of rows net metric src dst) i))
    (destinations_of rows net metric src))
