-- A table made from rows tells their costs, and so does one that was renewed after writes.
use Rattle.std.proofs.Common.{◌≡◌, refl, ap, sym, ◌∙◌}
use Rattle.std.specs.Prelude.{Bool, true, false, ◌||◌, cond, List, [], ◌∷◌, Option, Some, None, map}
use Rattle.std.specs.List.{AllByRecursion, cons_option, list_any}
use Rattle.std.specs.Map.{keys_of}
use Rattle.std.specs.Ordering.{is_eq}
use Rattle.alto_rows.specs.declared.key.Key.{Key}
use Rattle.alto_rows.specs.declared.key.Key.TheVariants as key
use Rattle.alto_rows.specs.declared.write.Write.{Write}
use Rattle.alto_rows.specs.Costs.{cost_of, number_at}
use Rattle.alto_rows.specs.Order.{key_cmp, same_name}
use Rattle.alto_rows.specs.Rows.{AreSorted, Rows, after, value_of}
use Rattle.alto_rows.proofs.OrderLemmas.{one_key}
use Rattle.alto_rows.proofs.TouchesLemmas.{same_name_itself}
use Rattle.alto_rows.proofs.WriteLemmas.{NoneWrites, value_of-after-none}
use Rattle.cost_tables.specs.Renewed.{IsRenewed}
use Rattle.cost_tables.specs.Tables.{IsSetOf, Name, Table, TellsCosts, cost_told, source_of}
use Rattle.cost_tables.specs.Tables.{sources_of}

-- ---- sources that keys aren't of

-- the key of a cost is of its source
source_of-cost : (net metric src dst : Name) → source_of net metric (key.Cost net metric src dst) ≡ Some src
source_of-cost net metric src dst = rw (same_name_itself net, same_name_itself metric) refl

right_false : (a b : Bool) → (a || b) ≡ false → b ≡ false
right_false true b h = cc
right_false false b h = h

none_later : (src : Name) (first : Option Name) (names : List Name)
    → list_any (same_name src) (cons_option first names) ≡ false → list_any (same_name src) names ≡ false
none_later src None names h = h
none_later src (Some name) names h = right_false (same_name src name) (list_any (same_name src) names) h

-- a source that no key is of has no key among them
unnamed : (net metric src dst : Name) (keys : List Key) → list_any (same_name src) (sources_of net metric keys) ≡ false
    → AllByRecursion (λ k. is_eq (key_cmp (key.Cost net metric src dst) k) ≡ false) keys
unnamed net metric src dst [] none = tt
unnamed net metric src dst (k ∷ keys) none = (
  apart (is_eq (key_cmp (key.Cost net metric src dst) k)) refl,
  unnamed net metric src dst keys (none_later src (source_of net metric k) (sources_of net metric keys) none),
)
  where
    apart : (b : Bool) → is_eq (key_cmp (key.Cost net metric src dst) k) ≡ b
        → is_eq (key_cmp (key.Cost net metric src dst) k) ≡ false
    apart false e = e
    apart true e =
        let one : key.Cost net metric src dst ≡ k = one_key (key.Cost net metric src dst) k e in
        let here : source_of net metric k ≡ Some src = rw (← one) (source_of-cost net metric src dst) in
        let bad : true ≡ false = rw (here, same_name_itself src) at none in
        cc

-- so it has no cost among rows
none_given : (at : Key) (rows : Rows) → AllByRecursion (λ k. is_eq (key_cmp at k) ≡ false) (keys_of rows)
    → value_of rows at ≡ None
none_given at [] none = refl
none_given at (row ∷ rows) none = rw none.0 (none_given at rows none.1)

-- and no write is of it
none_written : (at : Key) (writes : List Write)
    → AllByRecursion (λ k. is_eq (key_cmp at k) ≡ false) (map (λ write. write.key) writes) → NoneWrites at writes
none_written at [] none = tt
none_written at (write ∷ writes) none = (none.0, none_written at writes none.1)

-- ---- tables

-- a table with the sources of rows made anew tells their costs
pub table_of_rows : (rows : Rows) (net metric : Name) (sources : List Name) (table : Table)
    → IsSetOf sources (sources_of net metric (keys_of rows)) → IsRenewed rows net metric sources [] table
    → TellsCosts rows net metric table
table_of_rows rows net metric sources table set made src dst =
    made src dst ∙ by (list_any (same_name src) sources) refl
  where
    by : (b : Bool) → list_any (same_name src) sources ≡ b
        → cond b (cost_of rows net metric src dst) (cost_told [] src dst) ≡ cost_of rows net metric src dst
    by true e = refl
    by false e =
        let none : list_any (same_name src) (sources_of net metric (keys_of rows)) ≡ false = sym (set.same src) ∙ e in
        sym (ap number_at (none_given (key.Cost net metric src dst)
        rows (unnamed net metric src dst (keys_of rows) none)))

-- a source of which no write is keeps its costs
cost_of-unwritten : (before : Rows) (writes : List Write) (net metric src dst : Name) → AreSorted before
    → list_any (same_name src) (sources_of net metric (map (λ write. write.key) writes)) ≡ false
    → cost_of (after before writes) net metric src dst ≡ cost_of before net metric src dst
cost_of-unwritten before writes net metric src dst sorted none =
    ap number_at
    (value_of-after-none before writes (key.Cost net metric src dst) sorted
    (none_written (key.Cost net metric src dst)
    writes (unnamed net metric src dst (map (λ (write : Write). write.key) writes) none)))

-- a table before writes, with the sources written made anew, tells the costs after them
pub table_after_writes : (rows before : Rows) (writes : List Write) (net metric : Name) (sources : List Name)
    (table later : Table) → IsSetOf sources (sources_of net metric (map (λ write. write.key) writes))
    → IsRenewed rows net metric sources table later → AreSorted before → rows ≡ after before writes
    → TellsCosts before net metric table → TellsCosts rows net metric later
table_after_writes rows before writes net metric sources table later set made sorted_before is told src dst =
    made src dst ∙ by (list_any (same_name src) sources) refl
  where
    by : (b : Bool) → list_any (same_name src) sources ≡ b
        → cond b (cost_of rows net metric src dst) (cost_told table src dst) ≡ cost_of rows net metric src dst
    by true e = refl
    by false e = told src dst ∙ rw is
        (sym (cost_of-unwritten before writes net metric src dst sorted_before (sym (set.same src) ∙ e)))

-- where no cost of the metric was written, the table before the writes tells the costs after them
pub table_unwritten : (rows before : Rows) (writes : List Write) (net metric : Name)
    (sources : List Name) (table : Table)
    → IsSetOf sources (sources_of net metric (map (λ write. write.key) writes)) → sources ≡ [] → AreSorted before
    → rows ≡ after before writes
    → TellsCosts before net metric table → TellsCosts rows net metric table
table_unwritten rows before writes net metric sources table set none sorted_before is told src dst =
    told src dst
    ∙ rw is (sym (cost_of-unwritten before writes net metric src dst sorted_before (sym (set.same src)
    ∙ ap (λ names. list_any (same_name src) names) none)))
