-- The destinations that the rows of a source hold.
use Rattle.std.proofs.Common.{◌≡◌, refl, ap}
use Rattle.std.specs.Prelude.{Bool, true, false, List, [], ◌∷◌}
use Rattle.std.specs.List.{filter_map}
use Rattle.alto_rows.specs.declared.key.Key.TheVariants as key
use Rattle.alto_rows.specs.declared.span.Span.TheVariants as span
use Rattle.alto_rows.specs.Order.{same_name}
use Rattle.alto_rows.specs.Rows.{Rows}
use Rattle.alto_rows.specs.Span.{rows_in}
use Rattle.alto_maps.specs.Shape.{Name}
use Rattle.cost_docs.specs.CostMap.{destinations_of}
use Rattle.cost_filters.specs.Columns.{destination}

-- the rows of a source in a metric hold its destinations
pub destinations_in_span : (rows : Rows) (net metric src : Name)
    → filter_map destination (rows_in rows (span.CostsFrom net metric src)) ≡ destinations_of rows net metric src
destinations_in_span [] net metric src = refl
destinations_in_span ((key.Cost of kind from dst, v) ∷ rows) net metric src =
    by (same_name net of) (same_name metric kind) (same_name src from) refl refl
    refl (destinations_in_span rows net metric src)
  where
    by : (a b c : Bool) → same_name net of ≡ a → same_name metric kind ≡ b → same_name src from ≡ c
        → filter_map destination (rows_in rows (span.CostsFrom net metric src)) ≡ destinations_of rows net metric src
        → filter_map destination (rows_in ((key.Cost of kind from dst, v) ∷ rows) (span.CostsFrom net metric src))
        ≡ destinations_of ((key.Cost of kind from dst, v) ∷ rows) net metric src
    by true true true e f h below = rw (e, f, h) (ap (λ (more : List Name). dst ∷ more) below)
    by true true false e f h below = rw (e, f, h) below
    by true false c e f h below = rw (e, f) below
    by false b c e f h below = rw e below
destinations_in_span (_ ∷ rows) net metric src = destinations_in_span rows net metric src
