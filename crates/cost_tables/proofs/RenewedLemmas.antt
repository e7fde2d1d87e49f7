-- Changes of a table's sources make it tell the new costs of those, the old of others.
use Rattle.std.proofs.Common.{◌≡◌, refl, ap, ap₂, subst, sym, ◌∙◌}
use Rattle.std.proofs.lemmas.List.{map-append}
use Rattle.std.proofs.lemmas.Map.Text.{is_eq-slice_cmp}
use Rattle.std.specs.Prelude.{ℕ, Bool, true, false, cond, List, [], ◌∷◌, ◌++◌, Option, Some, None, option_and_then}
use Rattle.std.specs.Prelude.{IfSome, option_map, unwrap_or}
use Rattle.std.specs.BTreeMap.{is_at}
use Rattle.std.specs.List.{AllByRecursion, list_any}
use Rattle.std.specs.List.Sorted.{IsStrictlySortedBy}
use Rattle.std.specs.Map.{keys_of, lookup}
use Rattle.alto_rows.specs.declared.write.Write.{Write}
use Rattle.alto_rows.specs.Costs.{cost_of}
use Rattle.alto_rows.specs.Order.{name_cmp, same_name}
use Rattle.alto_rows.specs.Rows.{AreSorted, Rows, after}
use Rattle.alto_rows.proofs.TouchesLemmas.{one_name}
use Rattle.cost_tables.specs.Lists.{Listed, Sources, table_of}
use Rattle.cost_tables.specs.Renewed.{AreChanges, CameFrom, Changes, IsRenewed, TellCosts, costs_in, name_of}
use Rattle.cost_tables.specs.Tables.{Costs, HasCostsOf, Name, TellsCosts, cost_to, cost_told}
use Rattle.cost_tables.proofs.ListLemmas.{lookup-table_of}
use Rattle.shared_list.proofs.ChangedLemmas.{item_of-changed}
use Rattle.shared_list.specs.Changed.{Change, changed}
use Rattle.shared_list.specs.Order.{item_of}

-- what a source tells, if it is there
abbrev told_of : Option (Name × Listed) → Name → Option ℕ
told_of own dst = option_and_then (λ from. cost_to from.1.costs dst) own

-- it is found as a look-up finds it
pub item_of-sources : (q : Name) (sources : Sources)
    → option_map (λ from. from.1) (item_of name_of sources q) ≡ lookup (is_at (name_cmp q)) sources
item_of-sources q [] = refl
item_of-sources q (from ∷ sources) = by (is_at (name_cmp q) from.0) (item_of-sources q sources)
  where
    by : (b : Bool) → option_map (λ from. from.1) (item_of name_of sources q) ≡ lookup (is_at (name_cmp q)) sources
        → option_map (λ (from : Name × Listed). from.1) (cond b (Some from) (item_of name_of sources q))
        ≡ cond b (Some from.1) (lookup (is_at (name_cmp q)) sources)
    by true rest = refl
    by false rest = rest

cost_told-item : (src dst : Name) (sources : Sources)
    → cost_told (table_of sources) src dst ≡ told_of (item_of name_of sources src) dst
cost_told-item src dst sources =
    ap (option_and_then (λ (costs : Costs). cost_to costs dst))
    (lookup-table_of (is_at (name_cmp src)) sources
    ∙ ap (option_map (λ (from : Listed). from.costs)) (sym (item_of-sources src sources)))
    ∙ by (item_of name_of sources src)
  where
    by : (own : Option (Name × Listed))
        → option_and_then (λ (costs : Costs). cost_to costs dst)
        (option_map (λ (from : Listed). from.costs) (option_map (λ from. from.1) own))
        ≡ told_of own dst
    by None = refl
    by (Some from) = refl

-- the costs that a change leads to, or those that there are without one
told_changed : (rows : Rows) (net metric src dst : Name) (own : Option (Name × Listed)) (changes : Changes)
    → TellCosts rows net metric changes
    → told_of (unwrap_or (lookup (is_at (name_cmp src)) changes) own) dst
    ≡ cond (list_any (same_name src) (keys_of changes)) (cost_of rows net metric src dst) (told_of own dst)
told_changed rows net metric src dst own [] told = refl
told_changed rows net metric src dst own (change ∷ changes) told =
    by (same_name src change.0) refl (told_changed rows net metric src dst own changes told.1)
  where
    told_in : (item : Option (Name × Listed)) → told_of item dst ≡ cost_to (costs_in item) dst
    told_in None = refl
    told_in (Some from) = refl

    by : (b : Bool) → same_name src change.0 ≡ b
        → told_of (unwrap_or (lookup (is_at (name_cmp src)) changes) own) dst
        ≡ cond (list_any (same_name src) (keys_of changes)) (cost_of rows net metric src dst) (told_of own dst)
        → told_of (unwrap_or (lookup (is_at (name_cmp src)) (change ∷ changes)) own) dst
        ≡ cond (list_any (same_name src) (keys_of (change ∷ changes))) (cost_of rows net metric src dst)
        (told_of own dst)
    by true e rest =
        let at : is_at (name_cmp src) change.0 ≡ true = is_eq-slice_cmp src change.0 ∙ e in
        rw (at, e)
        (told_in change.1
        ∙ (told.0 dst ∙ ap (λ name. cost_of rows net metric name dst) (sym (one_name src change.0 e))))
    by false e rest =
        let at : is_at (name_cmp src) change.0 ≡ false = is_eq-slice_cmp src change.0 ∙ e in
        rw (at, e) rest

-- ---- one change more

all_push : (P : Change (Name × Listed) → Type 0) (xs : Changes) (x : Change (Name × Listed)) → AllByRecursion P xs
    → P x → AllByRecursion P (xs ++ x ∷ [])
all_push P [] x all own = (own, tt)
all_push P (first ∷ xs) x all own = (all.0, all_push P xs x all.1 own)

pub changes_more : (names : List Name) (changes : Changes) (name : Name) (change : Change (Name × Listed))
    → AreChanges names changes → change.0 ≡ name → IfSome change.1 (λ from. from.0 ≡ name)
    → AreChanges (names ++ name ∷ []) (changes ++ change ∷ [])
changes_more names changes name change made is named = record {
  names = map-append (λ (change : Change (Name × Listed)). change.0) changes (change ∷ [])
      ∙ ap₂ (λ (front : List Name) (last : Name). front ++ last ∷ []) made.names is;
  named = all_push (λ change. IfSome change.1 (λ from. from.0 ≡ change.0)) changes change made.named (rw is named);
}

pub costs_more : (rows : Rows) (net metric : Name) (changes : Changes) (name : Name) (change : Change (Name × Listed))
    → TellCosts rows net metric changes → change.0 ≡ name → HasCostsOf rows net metric name (costs_in change.1)
    → TellCosts rows net metric (changes ++ change ∷ [])
costs_more rows net metric changes name change told is own =
    all_push (λ change. HasCostsOf rows net metric change.0 (costs_in change.1)) changes change told
    (subst (λ name. HasCostsOf rows net metric name (costs_in change.1)) (sym is) own)

pub is_renewed : (rows : Rows) (net metric : Name) (names : List Name) (sources : Sources) (changes : Changes)
    → IsStrictlySortedBy name_cmp names → AreChanges names changes → TellCosts rows net metric changes
    → IsRenewed rows net metric names (table_of sources) (table_of (changed name_of sources changes))
is_renewed rows net metric names sources changes rise made told src dst =
    cost_told-item src dst (changed name_of sources changes)
    ∙ (ap (λ own. told_of own dst) (item_of-changed name_of src sources changes made.named (rw made.names rise))
    ∙ (told_changed rows net metric src dst (item_of name_of sources src) changes told
    ∙ rw (made.names, cost_told-item src dst sources) refl))

-- ---- the rows that writes came from

-- none had other costs than those of no sources
pub from_none : (net metric : Name) (sources : Sources) (rows : Rows) → AreSorted rows → sources ≡ []
    → CameFrom net metric sources [] rows rows
from_none net metric sources rows sorted none = record {
  sorted = sorted;
  led = refl;
  had = λ src.
      subst (λ sources. IfSome (lookup (is_at (name_cmp src)) sources)
      (λ from. HasCostsOf rows net metric src from.costs)) (sym none) tt;
}

-- those whose costs a table tells
pub from_told : (net metric : Name) (sources : Sources) (writes : List Write) (rows before : Rows) → AreSorted before
    → rows ≡ after before writes → TellsCosts before net metric (table_of sources)
    → CameFrom net metric sources writes rows before
from_told net metric sources writes rows before sorted led told = record {
  sorted = sorted;
  led = led;
  had = λ src. by src (lookup (is_at (name_cmp src)) sources) refl;
}
  where
    by : (src : Name) (found : Option Listed) → lookup (is_at (name_cmp src)) sources ≡ found
        → IfSome found (λ from. HasCostsOf before net metric src from.costs)
    by src None is = tt
    by src (Some from) is = λ dst.
        sym (ap (option_and_then (λ (costs : Costs). cost_to costs dst))
        (lookup-table_of (is_at (name_cmp src)) sources ∙ ap (option_map (λ (from : Listed). from.costs)) is))
        ∙ told src dst

-- ---- a source that is found

pub item_named : (q : Name) (sources : Sources) (own : Name × Listed) → item_of name_of sources q ≡ Some own
    → own.0 ≡ q
item_named q [] own found = cc
item_named q (from ∷ sources) own found =
    by (is_at (name_cmp q) from.0) refl found (λ later. item_named q sources own later)
  where
    by : (b : Bool) → is_at (name_cmp q) from.0 ≡ b → cond b (Some from) (item_of name_of sources q) ≡ Some own
        → (item_of name_of sources q ≡ Some own → own.0 ≡ q) → own.0 ≡ q
    by true e found rest =
        let same : from ≡ own = cc in
        sym (ap (λ (from : Name × Listed). from.0) same) ∙ sym (one_name q from.0 (sym (is_eq-slice_cmp q from.0) ∙ e))
    by false e found rest = rest found

-- it is looked up
pub item_looked_up : (q : Name) (sources : Sources) (own : Name × Listed) → item_of name_of sources q ≡ Some own
    → lookup (is_at (name_cmp q)) sources ≡ Some own.1
item_looked_up q sources own found =
    sym (item_of-sources q sources) ∙ ap (option_map (λ (from : Name × Listed). from.1)) found
