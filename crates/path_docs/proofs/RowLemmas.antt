-- What rows hold of the paths of a source, and that both PIDs of a pair with a path are declared.
use Rattle.std.proofs.Common.{◌≡◌, ◌∙◌, refl, ap, sym}
use Rattle.std.proofs.lemmas.List.Elements.{recursion_from_All}
use Rattle.std.specs.Prelude.{Bool, true, false, ◌&&◌, [], ◌∷◌, Option, Some, None, is_some, option_map}
use Rattle.std.specs.BTreeMap.{is_at}
use Rattle.std.specs.List.{AllByRecursion, cons_option, filter_map, list_any}
use Rattle.std.specs.Map.{lookup}
use Rattle.std.specs.Ordering.{is_eq}
use Rattle.alto_rows.specs.declared.key.Key.{Key}
use Rattle.alto_rows.specs.declared.key.Key.TheVariants as key
use Rattle.alto_rows.specs.declared.span.Span.TheVariants as span
use Rattle.alto_rows.specs.declared.value.Value.{Value}
use Rattle.alto_rows.specs.Good.{AreGood, needs}
use Rattle.alto_rows.specs.Order.{key_cmp, name_cmp, same_name}
use Rattle.alto_rows.specs.Rows.{Rows, AreSorted, has_row, value_of}
use Rattle.alto_rows.specs.Span.{rows_in}
use Rattle.alto_rows.proofs.OrderLemmas.{key_cmp_itself}
use Rattle.alto_rows.proofs.RowsLemmas.{ArePast, less_back, past_first, sorted_rest, value_of-first, value_of-other}
use Rattle.alto_rows.proofs.TouchesLemmas.{both_ties, one_name, same_name_ties}
use Rattle.alto_maps.specs.Shape.{Name}
use Rattle.net_docs.specs.NetworkMap.{pids_of}
use Rattle.net_docs.proofs.StandsLemmas.{stands_where}
use Rattle.path_docs.specs.Found.{destinations_of, pair_in, pairs_among}
use Rattle.path_docs.specs.PathCosts.{anes_at, path_of}

-- ---- the walk over a source's rows

-- each of these rows holds what all rows have at its key
abbrev AreTold : Rows → Rows → Type 0
AreTold all rows = AllByRecursion (λ row. value_of all row.0 ≡ Some row.1) rows

told_more : (row : Key × Value) (rows more : Rows) → ArePast row.0 more → AreTold rows more → AreTold (row ∷ rows) more
told_more row rows [] past told = tt
told_more row rows (next ∷ more) past told = (
  value_of-other next.0 row rows (ap is_eq (less_back row.0 next.0 past.0))
      ∙ told.0,
  told_more row rows more past.1 told.1,
)

-- sorted rows do
all_told : (rows : Rows) → AreSorted rows → AreTold rows rows
all_told [] sorted = tt
all_told (row ∷ rows) sorted = (
  value_of-first row.0 row rows (key_cmp_itself row.0),
  told_more row rows rows (past_first row rows sorted)
      (all_told rows (sorted_rest row rows sorted)),
)

pairs_told : (net src : Name) (all rows : Rows) → AreTold all rows
    → filter_map pair_in (rows_in rows (span.PathsFrom net src))
    ≡ pairs_among all net src (destinations_of rows net src)
pairs_told net src all [] told = refl
pairs_told net src all ((key.Path of from dst, v) ∷ rows) told =
    by (same_name net of) (same_name src from) refl refl told.0 (pairs_told net src all rows told.1)
  where
    by : (a b : Bool) → same_name net of ≡ a → same_name src from ≡ b → value_of all (key.Path of from dst) ≡ Some v
        → filter_map pair_in (rows_in rows (span.PathsFrom net src))
        ≡ pairs_among all net src (destinations_of rows net src)
        → filter_map pair_in (rows_in ((key.Path of from dst, v) ∷ rows) (span.PathsFrom net src))
        ≡ pairs_among all net src (destinations_of ((key.Path of from dst, v) ∷ rows) net src)
    by true true e f is below =
        let here : value_of all (key.Path net src dst) ≡ Some v =
        ap (value_of all) (λ i. key.Path (one_name net of e i) (one_name src from f i) dst) ∙ is in
        let path : path_of all net src dst ≡ anes_at (Some v) = ap anes_at here in
        rw (e, f) (rw path (ap (cons_option (option_map (λ anes. (dst, anes)) (anes_at (Some v)))) below))
    by true false e f is below = rw (e, f) below
    by false b e f is below = rw e below
pairs_told net src all (_ ∷ rows) told = pairs_told net src all rows told.1

-- the rows of a source hold the pairs that searches find
pub pairs_walked : (net src : Name) (rows : Rows) → AreSorted rows
    → filter_map pair_in (rows_in rows (span.PathsFrom net src))
    ≡ pairs_among rows net src (destinations_of rows net src)
pairs_walked net src rows sorted = pairs_told net src rows rows (all_told rows sorted)

-- ---- which destinations the rows of a source hold

-- the key of a pair's path
abbrev is_path_key : Name → Name → Name → Key → Bool
is_path_key net src dst (key.Path of from to) = same_name net of && (same_name src from && same_name dst to)
is_path_key net src dst _ = false

-- it is the one that is looked for
path_key : (net src dst : Name) (at : Key) → is_at (key_cmp (key.Path net src dst)) at ≡ is_path_key net src dst at
unfolding key_cmp
path_key net src dst (key.Path of from to) =
    both_ties (name_cmp net of) _
    ∙ rw (
      both_ties (name_cmp src from) (name_cmp dst to),
      same_name_ties net of,
      same_name_ties src from,
      same_name_ties dst to,
    ) refl
path_key net src dst _ = refl

-- a destination is among those of a source where the pair has a row
reached_where : (net src dst : Name) (rows : Rows)
    → list_any (same_name dst) (destinations_of rows net src) ≡ has_row rows (key.Path net src dst)
reached_where net src dst rows =
    among rows ∙ ap (λ test. is_some (lookup test rows)) (λ i at. sym (path_key net src dst at) i)
  where
    among : (rows : Rows) → list_any (same_name dst) (destinations_of rows net src)
        ≡ is_some (lookup (is_path_key net src dst) rows)
    among [] = refl
    among ((key.Path of from to, v) ∷ rows) = by (same_name net of) (same_name src from) (same_name dst to) refl refl
        refl (among rows)
      where
        by : (a b c : Bool) → same_name net of ≡ a → same_name src from ≡ b → same_name dst to ≡ c
            → list_any (same_name dst) (destinations_of rows net src) ≡ is_some (lookup (is_path_key net src dst) rows)
            → list_any (same_name dst) (destinations_of ((key.Path of from to, v) ∷ rows) net src)
            ≡ is_some (lookup (is_path_key net src dst) ((key.Path of from to, v) ∷ rows))
        by true true true e f g below = rw (e, f, g) refl
        by true true false e f g below = rw (e, f, g) below
        by true false c e f g below = rw (e, f) below
        by false b c e f g below = rw e below
    among (_ ∷ rows) = among rows

-- ---- a pair with a path

-- a path has its row
path_row : (found : Option Value) → is_some (anes_at found) ≡ true → is_some found ≡ true
path_row (Some v) h = refl
path_row None h = cc

-- the walk comes to its destination
pub pair_reached : (rows : Rows) (net src dst : Name) → is_some (path_of rows net src dst) ≡ true
    → list_any (same_name dst) (destinations_of rows net src) ≡ true
pair_reached rows net src dst h = reached_where net src dst rows ∙ path_row (value_of rows (key.Path net src dst)) h

-- both PIDs of a pair are declared
pub record Stand (rows : Rows) (net src dst : Name) : Type 0 where
  pub source : list_any (same_name src) (pids_of rows net) ≡ true
  pub destination : list_any (same_name dst) (pids_of rows net) ≡ true

pub pair_stands : (rows : Rows) (net src dst : Name) → AreGood rows → is_some (path_of rows net src dst) ≡ true
    → Stand rows net src dst
pair_stands rows net src dst good h = by (value_of rows (key.Path net src dst)) refl
  where
    by : (found : Option Value) → value_of rows (key.Path net src dst) ≡ found → Stand rows net src dst
    by None e = absurd (let none : false ≡ true = sym (ap is_some e)
        ∙ path_row (value_of rows (key.Path net src dst)) h in cc)
    by (Some v) e =
        let all = recursion_from_All (λ (need : Key). has_row rows need ≡ true) (needs (key.Path net src dst) v)
        (good.declared (key.Path net src dst) v e) in
        record { source = stands_where net src rows ∙ all.1.0; destination = stands_where net dst rows ∙ all.1.1.0 }
