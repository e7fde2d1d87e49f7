-- Which groups stand in a cost map: those of the sources that have destinations; and which members: those of pairs that
-- have costs.
use Rattle.std.proofs.Common.{◌≡◌, refl, ap, sym, ◌∙◌}
use Rattle.std.specs.Prelude.{Bool, true, false, ◌&&◌, List, [], ◌∷◌, Option, Some, None, is_some, option_map}
use Rattle.std.specs.BTreeMap.{is_at}
use Rattle.std.specs.List.{filter_map, list_any}
use Rattle.std.specs.Map.{lookup}
use Rattle.serde_json.specs.Data.{number, unsigned}
use Rattle.alto_rows.specs.declared.key.Key.{Key}
use Rattle.alto_rows.specs.declared.key.Key.TheVariants as key
use Rattle.alto_rows.specs.declared.value.Value.{Value}
use Rattle.alto_rows.specs.declared.value.Value.TheVariants as value
use Rattle.alto_rows.specs.Good.{AreGood, Fits, Takes}
use Rattle.alto_rows.specs.Order.{key_cmp, name_cmp, same_name}
use Rattle.alto_rows.specs.Rows.{Rows, has_row, value_of}
use Rattle.alto_rows.proofs.TouchesLemmas.{both_ties, same_name_ties}
use Rattle.alto_maps.specs.Shape.{Name, member_in, stands}
use Rattle.alto_maps.proofs.SetLemmas.{any-set_of}
use Rattle.alto_rows.specs.Costs.{cost_of, number_at}
use Rattle.cost_docs.specs.CostMap.{cost_face, destinations_of, number_data, source_in}

-- ---- the groups that stand

-- a name is listed
abbrev pub has_any : List Name → Bool
has_any [] = false
has_any (name ∷ names) = true

-- a source has a cost where it has a destination
sources_where : (net metric src : Name) (rows : Rows)
    → list_any (same_name src) (filter_map (source_in net metric) rows) ≡ has_any (destinations_of rows net metric src)
sources_where net metric src [] = refl
sources_where net metric src ((key.Cost of kind from dst, v) ∷ rows) =
    by (same_name net of) (same_name metric kind) (same_name src from) refl refl
    refl (sources_where net metric src rows)
  where
    by : (a b c : Bool) → same_name net of ≡ a → same_name metric kind ≡ b → same_name src from ≡ c
        → list_any (same_name src) (filter_map (source_in net metric) rows)
        ≡ has_any (destinations_of rows net metric src)
        → list_any (same_name src) (filter_map (source_in net metric) ((key.Cost of kind from dst, v) ∷ rows))
        ≡ has_any (destinations_of ((key.Cost of kind from dst, v) ∷ rows) net metric src)
    by true true true e f h below = rw (e, f, h) refl
    by true true false e f h below = rw (e, f, h) below
    by true false c e f h below = rw (e, f) below
    by false b c e f h below = rw e below
sources_where net metric src (_ ∷ rows) = sources_where net metric src rows

-- a group stands where its source has a destination
pub stands_where : (net metric src : Name) (rows : Rows)
    → stands (cost_face net metric rows) src ≡ has_any (destinations_of rows net metric src)
stands_where net metric src rows = any-set_of src (filter_map (source_in net metric) rows)
    ∙ sources_where net metric src rows

-- ---- the members of a group

-- the key of the cost of a pair
abbrev is_cost_key : Name → Name → Name → Name → Key → Bool
is_cost_key net metric src dst (key.Cost of kind from to) =
    same_name net of && (same_name metric kind && (same_name src from && same_name dst to))
is_cost_key net metric src dst _ = false

-- it is the one that is looked for
cost_key : (net metric src dst : Name) (at : Key)
    → is_at (key_cmp (key.Cost net metric src dst)) at ≡ is_cost_key net metric src dst at
unfolding key_cmp
cost_key net metric src dst (key.Cost of kind from to) =
    both_ties (name_cmp net of) _
    ∙ rw (
      both_ties (name_cmp metric kind) _,
      both_ties (name_cmp src from) (name_cmp dst to),
      same_name_ties net of,
      same_name_ties metric kind,
      same_name_ties src from,
      same_name_ties dst to,
    ) refl
cost_key net metric src dst _ = refl

-- a destination is listed where the pair has a row
pub listed_where : (net metric src dst : Name) (rows : Rows)
    → list_any (same_name dst) (destinations_of rows net metric src) ≡ has_row rows (key.Cost net metric src dst)
listed_where net metric src dst rows =
    among rows ∙ ap (λ test. is_some (lookup test rows)) (λ i at. sym (cost_key net metric src dst at) i)
  where
    among : (rows : Rows) → list_any (same_name dst) (destinations_of rows net metric src)
        ≡ is_some (lookup (is_cost_key net metric src dst) rows)
    among [] = refl
    among ((key.Cost of kind from to, v) ∷ rows) =
        by (same_name net of) (same_name metric kind) (same_name src from) (same_name dst to) refl refl refl
        refl (among rows)
      where
        by : (a b c d : Bool) → same_name net of ≡ a → same_name metric kind ≡ b → same_name src from ≡ c
            → same_name dst to ≡ d
            → list_any (same_name dst) (destinations_of rows net metric src)
            ≡ is_some (lookup (is_cost_key net metric src dst) rows)
            → list_any (same_name dst) (destinations_of ((key.Cost of kind from to, v) ∷ rows) net metric src)
            ≡ is_some (lookup (is_cost_key net metric src dst) ((key.Cost of kind from to, v) ∷ rows))
        by true true true true e f h k below = rw (e, f, h, k) refl
        by true true true false e f h k below = rw (e, f, h, k) below
        by true true false d e f h k below = rw (e, f, h) below
        by true false c d e f h k below = rw (e, f) below
        by false b c d e f h k below = rw e below
    among (_ ∷ rows) = among rows

-- where one is listed, the list has a name
any_listed : (test : Name → Bool) (names : List Name) → list_any test names ≡ true → has_any names ≡ true
any_listed test [] some = cc
any_listed test (name ∷ names) some = refl

-- a pair's row holds a number
pub a_number : (net metric src dst : Name) (v : Value) → Takes (key.Cost net metric src dst) v
    → Some (number_data (number_at (Some v))) ≡ option_map (λ n. number (unsigned n)) (number_at (Some v))
a_number net metric src dst (value.Num n) takes = refl
a_number net metric src dst value.Unit takes = absurd takes
a_number net metric src dst (value.Text text) takes = absurd takes
a_number net metric src dst (value.Names names) takes = absurd takes

-- a member of the map is the cost of its pair
pub member_is : (net metric : Name) (rows : Rows) (src dst : Name) → AreGood rows
    → member_in (cost_face net metric rows) src dst
    ≡ option_map (λ n. number (unsigned n)) (cost_of rows net metric src dst)
member_is net metric rows src dst good =
    by (value_of rows (key.Cost net metric src dst)) refl (stands (cost_face net metric rows) src) refl
  where
    listed : list_any (same_name dst) (destinations_of rows net metric src) ≡ has_row rows (key.Cost net metric src dst)
    listed = listed_where net metric src dst rows

    by : (o : Option Value) → value_of rows (key.Cost net metric src dst) ≡ o → (s : Bool)
        → stands (cost_face net metric rows) src ≡ s
        → member_in (cost_face net metric rows) src dst
        ≡ option_map (λ n. number (unsigned n)) (cost_of rows net metric src dst)
    by None e true h = rw (h, listed, e) refl
    by None e false h = rw (h, e) refl
    by (Some v) e true h =
        let fits : Fits (key.Cost net metric src dst) v = rw e at (good.fit (key.Cost net metric src dst)) in
        rw (h, listed, e) (a_number net metric src dst v fits.1)
    by (Some v) e false h =
        let some : list_any (same_name dst) (destinations_of rows net metric src) ≡ true = listed ∙ ap is_some e in
        let stood : stands (cost_face net metric rows) src ≡ true = stands_where net metric src rows
        ∙ any_listed (same_name dst) (destinations_of rows net metric src) some in
        cc
