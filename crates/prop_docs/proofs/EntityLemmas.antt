-- The texts of the entities of a network, gathered row by row.
use Rattle.std.proofs.Common.{◌≡◌, refl, ap, sym}
use Rattle.std.specs.Prelude.{false, List, fold, None}
use Rattle.std.specs.BTreeSet.{insert_key}
use Rattle.std.specs.Cmp.Lexicographic.{slice_cmp}
use Rattle.std.specs.List.{filter_map}
use Rattle.std.specs.Ordering.{nat_cmp}
use Rattle.alto_rows.specs.declared.key.Key.{Key}
use Rattle.alto_rows.specs.declared.key.Key.TheVariants as key
use Rattle.alto_rows.specs.declared.span.Span.TheVariants as span
use Rattle.alto_rows.specs.declared.value.Value.{Value}
use Rattle.alto_rows.specs.Rows.{Rows}
use Rattle.alto_rows.specs.Span.{is_in, rows_in}
use Rattle.alto_rows.proofs.WithinLemmas.{filter_map-rows_in}
use Rattle.alto_maps.specs.Places.{set_of}
use Rattle.alto_maps.specs.Shape.{Name}
use Rattle.prop_docs.specs.PropertyMap.{entities_of, entity_in}

-- texts with more of them
abbrev pub with_texts : List Name → List Name → List Name
with_texts texts more = fold (λ set text. insert_key (slice_cmp nat_cmp) set text) texts more

-- only rows of a network's properties give a text
outside : (net : Name) (row : Key × Value) → is_in (span.Props net) row.0 ≡ false → entity_in net row ≡ None
outside net (key.Prop of entity name, v) out = rw out refl
outside net _ out = refl

-- all rows of a network's properties give all texts
pub all_texts : (net : Name) (rows : Rows)
    → set_of (filter_map (entity_in net) (rows_in rows (span.Props net))) ≡ entities_of rows net
all_texts net rows = ap set_of (sym (filter_map-rows_in (entity_in net) (span.Props net) (outside net) rows))
