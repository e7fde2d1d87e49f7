-- The sizes of a draft stay true under a write.
use Rattle.std.proofs.Common.{◌≡◌, refl, ap, sym, ◌∙◌, arith, suc}
use Rattle.std.proofs.lemmas.Cmp.{eq_by_cmp_equiv}
use Rattle.std.specs.Prelude.{ℕ, ◌+◌, Bool, true, false, cond, ◌&&◌, [], ◌∷◌, filter, length, Option, Some, None}
use Rattle.std.specs.Prelude.{is_some}
use Rattle.std.specs.BTreeMap as map
use Rattle.std.specs.BTreeMap.{BTreeMap}
use Rattle.std.specs.Option.{unwrap_or}
use Rattle.std.specs.Ordering.{is_eq}
use Rattle.std.specs.declared.cmp.Ordering.{Ordering}
use Rattle.std.specs.declared.cmp.Ordering.TheVariants.{Less, Equal, Greater}
use Rattle.alto_rows.specs.declared.key.Key.{Key}
use Rattle.alto_rows.specs.declared.key.Key.TheVariants as key
use Rattle.alto_rows.specs.declared.value.Value.{Value}
use Rattle.alto_rows.specs.Order.{key_cmp, name_cmp}
use Rattle.alto_rows.specs.Rows.{Rows, AreSorted, has_row, with_value}
use Rattle.alto_rows.specs.Span.{is_in, count_in}
use Rattle.alto_rows.proofs.OrderLemmas.{one_key}
use Rattle.alto_rows.proofs.RowsLemmas.{past_first, past_lesser, sorted_rest, value_of-past}
use Rattle.alto_rows.proofs.TouchesLemmas.{both_ties, same_name_ties}
use Rattle.alto_rules.specs.declared.counted.Counted.{Counted}
use Rattle.alto_rules.specs.declared.counted.Counted.TheVariants as counted
use Rattle.alto_rules.specs.Sizes.{AreSizes, HasRecounted, count_from, counted_cmp, counted_of, recounted, span_of}
use Rattle.alto_rules.proofs.Orders.{counted_cmp_total, one_counted}

-- ---- how many rows pass a test after a write

-- how many rows have keys that pass a test
abbrev pub count : (Key → Bool) → Rows → ℕ
count test rows = length (filter (λ row. test row.0) rows)

-- one where a test holds
abbrev bit : Bool → ℕ
bit true = 1
bit false = 0

-- one row more than some, where no row passes that is taken away
first_put : (row : Key × Value) (t : Bool) (rest : Rows)
    → length (cond t (row ∷ rest) rest) + bit (t && false) ≡ length rest + bit t
first_put row true rest = omega arith
first_put row false rest = refl

-- a row in place of another of its key
same_put : (new old : Key × Value) (t u : Bool) (rest : Rows)
    → length (cond t (new ∷ rest) rest) + bit (u && true) ≡ length (cond t (old ∷ rest) rest) + bit u
same_put new old true true rest = refl
same_put new old true false rest = refl
same_put new old false true rest = refl
same_put new old false false rest = refl

-- what holds of the rows behind a row holds with it
more_put : (row : Key × Value) (t : Bool) (new old : Rows) (m n : ℕ) → length new + m ≡ length old + n
    → length (cond t (row ∷ new) new) + m ≡ length (cond t (row ∷ old) old) + n
more_put row true new old m n h = omega (arith, h)
more_put row false new old m n h = h

-- a put adds one where its key passes, but for a row that the key had
count_put : (test : Key → Bool) (rows : Rows) (at : Key) (v : Value) → AreSorted rows
    → count test (with_value rows at (Some v)) + bit (test at && has_row rows at) ≡ count test rows + bit (test at)
count_put test [] at v s = first_put (at, v) (test at) []
count_put test (row ∷ rows) at v s = by (count_put test rows at v (sorted_rest row rows s)) (key_cmp at row.0) refl
  where
    by : count test (with_value rows at (Some v)) + bit (test at && has_row rows at) ≡ count test rows + bit (test at)
        → (o : Ordering) → key_cmp at row.0 ≡ o
        → count test (with_value (row ∷ rows) at (Some v)) + bit (test at && has_row (row ∷ rows) at)
        ≡ count test (row ∷ rows) + bit (test at)
    by below Less e =
        rw (e, value_of-past at rows (past_lesser at row.0 e rows (past_first row rows s)))
        (first_put (at, v) (test at) (filter (λ r. test r.0) (row ∷ rows)))
    by below Equal e = rw e (same_put (row.0, v) row (test row.0) (test at) (filter (λ r. test r.0) rows))
    by below Greater e =
        rw e (more_put row (test row.0) (filter (λ r. test r.0) (with_value rows at (Some v)))
        (filter (λ r. test r.0) rows) (bit (test at && has_row rows at)) (bit (test at)) below)

-- a row that is taken away
gone_first : (row : Key × Value) (t : Bool) (rest : Rows)
    → length rest + bit (t && true) ≡ length (cond t (row ∷ rest) rest)
gone_first row true rest = omega arith
gone_first row false rest = omega arith

-- what holds of the rows behind a row holds with it
more_gone : (row : Key × Value) (t : Bool) (new old : Rows) (m : ℕ) → length new + m ≡ length old
    → length (cond t (row ∷ new) new) + m ≡ length (cond t (row ∷ old) old)
more_gone row true new old m h = omega (arith, h)
more_gone row false new old m h = h

-- a deletion takes one away where its key passes and had a row
count_delete : (test : Key → Bool) (rows : Rows) (at : Key)
    → count test (with_value rows at None) + bit (test at && has_row rows at) ≡ count test rows
count_delete test [] at = by (test at)
  where
    by : (t : Bool) → 0 + bit (t && false) ≡ 0
    by true = refl
    by false = refl
count_delete test (row ∷ rows) at = by (count_delete test rows at) (is_eq (key_cmp at row.0)) refl
  where
    by : count test (with_value rows at None) + bit (test at && has_row rows at) ≡ count test rows
        → (b : Bool) → is_eq (key_cmp at row.0) ≡ b
        → count test (with_value (row ∷ rows) at None) + bit (test at && has_row (row ∷ rows) at)
        ≡ count test (row ∷ rows)
    by below true e = rw (e, one_key at row.0 e) (gone_first row (test row.0) (filter (λ r. test r.0) rows))
    by below false e =
        rw e (more_gone row (test row.0) (filter (λ r. test r.0) (with_value rows at None))
        (filter (λ r. test r.0) rows) (bit (test at && has_row rows at)) below)

-- a count that gains what came and loses what went
gained : (had : Bool) (m n : ℕ) → m + bit had ≡ n + 1 → m ≡ recounted had true n
gained true m n h = omega (arith, h)
gained false m n h = omega (arith, h)

lost : (had : Bool) (m n : ℕ) → m + bit had ≡ n → m ≡ recounted had false n
lost true m n h = omega (arith, h)
lost false m n h = omega (arith, h)

-- how many rows pass a test after a write
pub count_after : (test : Key → Bool) (rows : Rows) (at : Key) (v : Option Value) → AreSorted rows
    → count test (with_value rows at v) ≡ cond (test at) (recounted (has_row rows at) (is_some v) (count test rows))
    (count test rows)
count_after test rows at (Some v) s = by (test at) (has_row rows at) (count_put test rows at v s)
  where
    by : (t had : Bool) → count test (with_value rows at (Some v)) + bit (t && had) ≡ count test rows + bit t
        → count test (with_value rows at (Some v)) ≡ cond t (recounted had true (count test rows)) (count test rows)
    by true had h = gained had (count test (with_value rows at (Some v))) (count test rows) h
    by false had h = omega (arith, h)
count_after test rows at None s = by (test at) (has_row rows at) (count_delete test rows at)
  where
    by : (t had : Bool) → count test (with_value rows at None) + bit (t && had) ≡ count test rows
        → count test (with_value rows at None) ≡ cond t (recounted had false (count test rows)) (count test rows)
    by true had h = lost had (count test (with_value rows at None)) (count test rows) h
    by false had h = omega (arith, h)

-- all rows pass where the test always holds
count_all : (rows : Rows) → count (λ at. true) rows ≡ length rows
count_all [] = refl
count_all (row ∷ rows) = ap (λ n. suc n) (count_all rows)

-- ---- what keys count for

-- something is what is counted, if anything is
abbrev counts_for : Counted → Option Counted → Bool
counts_for one None = false
counts_for one (Some other) = is_eq (counted_cmp one other)

-- a key is in the span of what it counts for, and in no other of these spans
in_counted : (one : Counted) (at : Key) → is_in (span_of one) at ≡ counts_for one (counted_of at)
unfolding counted_cmp
in_counted counted.Nets (key.Net net) = refl
in_counted (counted.Pids net) (key.Pid of pid) = same_name_ties net of
in_counted (counted.Prefixes net) (key.Prefix of pid prefix) = same_name_ties net of
in_counted (counted.Metrics net) (key.Metric of metric) = same_name_ties net of
in_counted (counted.Costs net metric) (key.Cost of other source destination) =
    rw (same_name_ties net of, same_name_ties metric other) (sym (both_ties (name_cmp net of) (name_cmp metric other)))
in_counted _ _ = refl

-- ---- the sizes after a write

-- the sizes of the rows of a store
pub sizes_opened : (rows : Rows) (total : ℕ) (counts : BTreeMap Counted ℕ) → total ≡ length rows → counts.entries ≡ []
    → AreSizes rows rows total counts
sizes_opened rows total counts e f = record {
  all = sym e;
  each = λ one. rw f refl;
}

-- the sizes stay true under a write, where they have gained it
pub sizes_more : (rows later : Rows) (at : Key) (v : Option Value) (had : Bool) (total total' : ℕ)
    (counts counts' : BTreeMap Counted ℕ)
    → AreSorted later → had ≡ has_row later at → AreSizes rows later total counts
    → total' ≡ recounted had (is_some v) total
    → HasRecounted rows (counted_of at) had (is_some v) counts counts'
    → AreSizes rows (with_value later at v) total' counts'
sizes_more rows later at v had total total' counts counts' s is_had old whole one_more = record {
  all =
      sym (count_all (with_value later at v))
      ∙ (count_after (λ q. true) later at v s
      ∙ rw (count_all later, old.all, whole, is_had) refl);
  each = λ one.
      count_after (is_in (span_of one)) later at v s
      ∙ rw (in_counted one at, ← is_had, old.each one) (by one (counted_of at) one_more);
}
  where
    tie : (one other : Counted) → (b : Bool) → is_eq (counted_cmp one other) ≡ b
        → cond b (recounted had (is_some v) (count_from rows counts one)) (count_from rows counts one)
        ≡ unwrap_or (cond b (Some (recounted had (is_some v) (count_from rows counts other)))
        (map.get counted_cmp counts one)) (count_in rows (span_of one))
    tie one other true e = rw (one_counted one other e) refl
    tie one other false e = refl

    by : (one : Counted) (for : Option Counted) → HasRecounted rows for had (is_some v) counts counts'
        → cond (counts_for one for) (recounted had (is_some v) (count_from rows counts one))
        (count_from rows counts one) ≡ count_from rows counts' one
    by one None same = rw same refl
    by one (Some other) put =
        rw (put.0 one, (eq_by_cmp_equiv counted_cmp_total).symm other one)
        (tie one other (is_eq (counted_cmp one other)) refl)
