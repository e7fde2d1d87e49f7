-- The rows of a span: where they begin and end among sorted rows, and what they hold.
use Rattle.std.proofs.Common.{◌≡◌, refl, ap, sym, ◌∙◌}
use Rattle.std.proofs.lemmas.List.Kept.{IsStrictlySortedBy-filter}
use Rattle.std.proofs.lemmas.List.Sums.{take_while-cons}
use Rattle.std.proofs.lemmas.Map.Entries.{lookup-filter-keys}
use Rattle.std.specs.Prelude.{Bool, true, false, cond, [], ◌∷◌, ◌++◌, filter, filter_map, List, Option, None}
use Rattle.std.specs.BTreeMap.{is_at}
use Rattle.std.specs.List.{AllByRecursion, cons_option}
use Rattle.std.specs.Map.{keys_of}
use Rattle.std.specs.Ordering.{is_eq, is_gt}
use Rattle.std.specs.declared.cmp.Ordering.{Ordering}
use Rattle.std.specs.declared.cmp.Ordering.TheVariants.{Less, Equal, Greater}
use Rattle.alto_rows.specs.declared.key.Key.{Key}
use Rattle.alto_rows.specs.declared.span.Span.{Span}
use Rattle.alto_rows.specs.declared.value.Value.{Value}
use Rattle.alto_rows.specs.Order.{key_cmp}
use Rattle.alto_rows.specs.Rows.{Rows, AreSorted, value_of}
use Rattle.alto_rows.specs.Span.{is_in, rows_in, rows_from_span, span_cmp}
use Rattle.alto_rows.specs.Within.{ComeFirst}
use Rattle.alto_rows.proofs.OrderLemmas.{one_key}
use Rattle.alto_rows.proofs.RowsLemmas.{ArePast, past_first, sorted_rest}
use Rattle.alto_rows.proofs.RunLemmas.{IsTail, tail_more, sorted_tail_rows}
use Rattle.alto_rows.proofs.SpanLemmas.{Falls, in_span, span_falls}

-- ---- where a span begins

-- each row is before the span
abbrev pub AreBeforeSpan : Span → Rows → Type 0
AreBeforeSpan s rows = AllByRecursion (λ row. is_gt (span_cmp s row.0) ≡ true) rows

-- no row is before the span
abbrev pub AreFromSpan : Span → Rows → Type 0
AreFromSpan s rows = AllByRecursion (λ row. is_gt (span_cmp s row.0) ≡ false) rows

-- the rows before a span aren't from it on
pub rows_from_span-before : (s : Span) (before rest : Rows) → AreBeforeSpan s before
    → rows_from_span (before ++ rest) s ≡ rows_from_span rest s
rows_from_span-before s [] rest h = refl
rows_from_span-before s (row ∷ before) rest h = rw h.0 (rows_from_span-before s before rest h.1)

-- rows that aren't before it all are
pub rows_from_span-past : (s : Span) (rows : Rows) → AreFromSpan s rows → rows_from_span rows s ≡ rows
rows_from_span-past s [] h = refl
rows_from_span-past s (row ∷ rows) h = rw h.0 (ap (λ (more : Rows). row ∷ more) (rows_from_span-past s rows h.1))

-- a later key isn't before the span where an earlier one isn't
pub later_from_span : (s : Span) (a b : Key) → key_cmp a b ≡ Less → is_gt (span_cmp s a) ≡ false
    → is_gt (span_cmp s b) ≡ false
later_from_span s a b less from = by (span_cmp s b) refl
  where
    by : (o : Ordering) → span_cmp s b ≡ o → is_gt (span_cmp s b) ≡ false
    by Less e = rw e refl
    by Equal e = rw e refl
    by Greater e =
        let falls : Falls (span_cmp s a) (span_cmp s b) = span_falls s a b less in
        let earlier : span_cmp s a ≡ Greater = falls.greater e in
        let both : is_gt Greater ≡ false = rw earlier at from in
        cc

-- nor are the rows after it
past_from_span : (s : Span) (at : Key) (rows : Rows) → is_gt (span_cmp s at) ≡ false → ArePast at rows
    → AreFromSpan s rows
past_from_span s at [] from past = tt
past_from_span s at (row ∷ rows) from past =
    (later_from_span s at row.0 past.0 from, past_from_span s at rows from past.1)

-- the rows that aren't before a span are the last rows
pub rows_from_span_tail : (rows : Rows) (s : Span) → AreSorted rows → IsTail rows (rows_from_span rows s)
rows_from_span_tail [] s sorted = record { front = []; whole = refl }
rows_from_span_tail (row ∷ rows) s sorted =
    by (rows_from_span_tail rows s (sorted_rest row rows sorted)) (is_gt (span_cmp s row.0)) refl
  where
    by : IsTail rows (rows_from_span rows s) → (b : Bool) → is_gt (span_cmp s row.0) ≡ b
        → IsTail (row ∷ rows) (rows_from_span (row ∷ rows) s)
    by below true e = rw e (tail_more row rows (rows_from_span rows s) below)
    by below false e =
        rw (rows_from_span-past s (row ∷ rows) (e, past_from_span s row.0 rows e (past_first row rows sorted)))
        (record { front = []; whole = refl })

-- none of them is before it
pub from_rows_from_span : (rows : Rows) (s : Span) → AreFromSpan s (rows_from_span rows s)
from_rows_from_span [] s = tt
from_rows_from_span (row ∷ rows) s = by (from_rows_from_span rows s) (is_gt (span_cmp s row.0)) refl
  where
    by : AreFromSpan s (rows_from_span rows s) → (b : Bool) → is_gt (span_cmp s row.0) ≡ b
        → AreFromSpan s (rows_from_span (row ∷ rows) s)
    by below true e = rw e below
    by below false e = rw e (e, below)

-- a key that is before a span isn't in it
before_span_outside : (s : Span) (at : Key) → is_gt (span_cmp s at) ≡ true → is_in s at ≡ false
before_span_outside s at before = in_span s at ∙ by (span_cmp s at) before
  where
    by : (o : Ordering) → is_gt o ≡ true → is_eq o ≡ false
    by Less h = refl
    by Equal h = cc
    by Greater h = refl

-- the rows of a span are among those that aren't before it
pub rows_in-rows_from_span : (rows : Rows) (s : Span) → rows_in (rows_from_span rows s) s ≡ rows_in rows s
rows_in-rows_from_span [] s = refl
rows_in-rows_from_span (row ∷ rows) s =
    by (rows_in-rows_from_span rows s) (is_gt (span_cmp s row.0)) (is_in s row.0) refl refl
  where
    by : rows_in (rows_from_span rows s) s ≡ rows_in rows s → (g b : Bool) → is_gt (span_cmp s row.0) ≡ g
        → is_in s row.0 ≡ b
        → rows_in (rows_from_span (row ∷ rows) s) s ≡ rows_in (row ∷ rows) s
    by below true b e f = let outside : is_in s row.0 ≡ false = before_span_outside s row.0 e in rw (e, outside) below
    by below false true e f = rw (e, f) (ap (λ (more : Rows). row ∷ more) below)
    by below false false e f = rw (e, f) below

-- ---- where it ends

-- a key that is neither before a span nor in it is behind it
behind_span : (s : Span) (at : Key) → is_gt (span_cmp s at) ≡ false → is_in s at ≡ false → span_cmp s at ≡ Less
behind_span s at from outside = by (span_cmp s at) from (sym (in_span s at) ∙ outside)
  where
    by : (o : Ordering) → is_gt o ≡ false → is_eq o ≡ false → o ≡ Less
    by Less g h = refl
    by Equal g h = cc
    by Greater g h = cc

-- behind a key behind a span there are no rows of it
none_behind : (s : Span) (at : Key) (rows : Rows) → span_cmp s at ≡ Less → ArePast at rows → rows_in rows s ≡ []
none_behind s at [] behind past = refl
none_behind s at (row ∷ rows) behind past =
    let falls : Falls (span_cmp s at) (span_cmp s row.0) = span_falls s at row.0 past.0 in
    let outside : is_in s row.0 ≡ false = in_span s row.0 ∙ ap is_eq (falls.less behind) in
    rw outside (none_behind s at rows behind past.1)

-- of sorted rows none of which is before a span, those of the span come first
pub come_first : (s : Span) (rows : Rows) → AreSorted rows → AreFromSpan s rows → ComeFirst s rows
come_first s [] sorted from = refl
come_first s (row ∷ rows) sorted from = by (come_first s rows (sorted_rest row rows sorted) from.1) (is_in s row.0) refl
  where
    by : ComeFirst s rows → (b : Bool) → is_in s row.0 ≡ b → ComeFirst s (row ∷ rows)
    by below true e = rw (take_while-cons (λ (next : Key × Value). is_in s next.0) row rows, e)
        (ap (λ (more : Rows). row ∷ more) below)
    by below false e =
        rw (take_while-cons (λ (next : Key × Value). is_in s next.0) row rows, e)
        (none_behind s row.0 rows (behind_span s row.0 from.0 e) (past_first row rows sorted))

-- of the rows that aren't before a span, those of the span come first
pub come_first_from_span : (rows : Rows) (s : Span) → AreSorted rows → ComeFirst s (rows_from_span rows s)
come_first_from_span rows s sorted =
    come_first s (rows_from_span rows s)
    (sorted_tail_rows rows (rows_from_span rows s) sorted (rows_from_span_tail rows s sorted))
    (from_rows_from_span rows s)

-- ---- what the rows of a span hold

-- the rows of a span have the values of the keys in it
pub value_of-rows_in : (rows : Rows) (s : Span) (at : Key)
    → value_of (rows_in rows s) at ≡ cond (is_in s at) (value_of rows at) None
value_of-rows_in rows s at =
    lookup-filter-keys (is_at (key_cmp at)) (λ other. is_in s other) (is_in s at) (λ other e. let same : at
    ≡ other = one_key at other e in rw same refl) rows

-- their keys are those in the span
keys_of-rows_in : (rows : Rows) (s : Span) → keys_of (rows_in rows s) ≡ filter (λ at. is_in s at) (keys_of rows)
keys_of-rows_in [] s = refl
keys_of-rows_in (row ∷ rows) s = by (keys_of-rows_in rows s) (is_in s row.0) refl
  where
    by : keys_of (rows_in rows s) ≡ filter (λ at. is_in s at) (keys_of rows) → (b : Bool) → is_in s row.0 ≡ b
        → keys_of (rows_in (row ∷ rows) s) ≡ filter (λ at. is_in s at) (keys_of (row ∷ rows))
    by below true e = rw e (ap (λ (more : List Key). row.0 ∷ more) below)
    by below false e = rw e below

-- they are sorted
pub sorted_rows_in : (rows : Rows) (s : Span) → AreSorted rows → AreSorted (rows_in rows s)
sorted_rows_in rows s sorted =
    rw (keys_of-rows_in rows s) (IsStrictlySortedBy-filter key_cmp (λ at. is_in s at) (keys_of rows) sorted)

-- what picks from rows and gives nothing outside a span picks from the rows of the span
pub filter_map-rows_in : {A : Type 0} (f : Key × Value → Option A) (s : Span)
    → ((row : Key × Value) → is_in s row.0 ≡ false → f row ≡ None)
    → (rows : Rows) → filter_map f rows ≡ filter_map f (rows_in rows s)
filter_map-rows_in f s outside [] = refl
filter_map-rows_in f s outside (row ∷ rows) = by (filter_map-rows_in f s outside rows) (is_in s row.0) refl
  where
    by : filter_map f rows ≡ filter_map f (rows_in rows s) → (b : Bool) → is_in s row.0 ≡ b
        → filter_map f (row ∷ rows) ≡ filter_map f (rows_in (row ∷ rows) s)
    by below true e = rw e (ap (λ more. cons_option (f row) more) below)
    by below false e = rw (e, outside row e) below
