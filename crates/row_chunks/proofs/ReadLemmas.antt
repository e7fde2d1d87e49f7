-- What a run from a key on tells of the key's value, and how many rows of a span there are.
use Rattle.std.proofs.Common.{◌≡◌, ◌+◌, refl, ap, sym, ◌∙◌, arith}
use Rattle.std.specs.Prelude.{true, false, [], ◌∷◌, filter, length, Some, None, slice_get}
use Rattle.std.specs.Ordering.{is_eq, is_gt, is_lt}
use Rattle.std.specs.declared.cmp.Ordering.{Ordering}
use Rattle.std.specs.declared.cmp.Ordering.TheVariants.{Less, Equal, Greater}
use Rattle.alto_rows.specs.declared.key.Key.{Key}
use Rattle.alto_rows.specs.declared.span.Span.{Span}
use Rattle.alto_rows.specs.declared.value.Value.{Value}
use Rattle.alto_rows.specs.Order.{key_cmp}
use Rattle.alto_rows.specs.Rows.{Rows, AreSorted, IsRunOf, rows_from, value_of}
use Rattle.alto_rows.specs.Span.{count_in, is_in, rows_from_span, span_cmp}
use Rattle.alto_rows.proofs.OrderLemmas.{equal_tests, key_cmp_itself}
use Rattle.alto_rows.proofs.RowsLemmas.{past_first, past_lesser, value_of-first, value_of-past}
use Rattle.alto_rows.proofs.RunLemmas.{AreFrom, from_rows_from, sorted_rows_from, value_of-rows_from}
use Rattle.alto_rows.proofs.SpanLemmas.{in_span}

-- a key's value stands among the rows from it on
value_from : (rows : Rows) (key : Key) → value_of (rows_from rows key) key ≡ value_of rows key
value_from rows key = value_of-rows_from rows key key ∙ rw (key_cmp_itself key) refl

-- the first row of a run is the first of all
first_in_run : (all run : Rows) (row : Key × Value) → IsRunOf all run → slice_get run 0 ≡ Some row
    → slice_get all 0 ≡ Some row
first_in_run all [] row r is = cc
first_in_run all (first ∷ run) row r is = rw r.whole is

-- rows by the first
record Begins (rows : Rows) (row : Key × Value) : Type 0 where
  rest : Rows
  whole : rows ≡ row ∷ rest

begins : (rows : Rows) (row : Key × Value) → slice_get rows 0 ≡ Some row → Begins rows row
begins [] row is = cc
begins (first ∷ rows) row is = let same : first ≡ row = cc in
    record { rest = rows; whole = ap (λ (one : Key × Value). one ∷ rows) same }

-- where the run is empty, the key has no value
pub value_of-no_run : (rows : Rows) (key : Key) (run : Rows) → IsRunOf (rows_from rows key) run → slice_get run 0 ≡ None
    → value_of rows key ≡ None
value_of-no_run rows key [] r is = sym (value_from rows key) ∙ rw (r.some refl) refl
value_of-no_run rows key (row ∷ run) r is = cc

-- where its first row is the key's, its value
pub value_of-run : (rows : Rows) (key : Key) (run : Rows) (row : Key × Value) → IsRunOf (rows_from rows key) run
    → slice_get run 0 ≡ Some row
    → is_eq (key_cmp key row.0) ≡ true → value_of rows key ≡ Some row.1
value_of-run rows key run row r is same =
    let b : Begins (rows_from rows key) row =
    begins (rows_from rows key) row (first_in_run (rows_from rows key) run row r is) in
    sym (value_from rows key) ∙ rw b.whole (value_of-first key row b.rest (equal_tests (key_cmp key row.0) same))

-- what is neither equal nor greater is less
less_left : (o : Ordering) → is_eq o ≡ false → is_gt o ≡ false → o ≡ Less
less_left Less e g = refl
less_left Equal e g = cc
less_left Greater e g = cc

-- where it is another's, none
pub value_of-other_run : (rows : Rows) (key : Key) (run : Rows) (row : Key × Value) → AreSorted rows
    → IsRunOf (rows_from rows key) run
    → slice_get run 0 ≡ Some row → is_eq (key_cmp key row.0) ≡ false → value_of rows key ≡ None
value_of-other_run rows key run row s r is apart =
    let b : Begins (rows_from rows key) row =
    begins (rows_from rows key) row (first_in_run (rows_from rows key) run row r is) in
    let from : AreFrom key (row ∷ b.rest) = rw b.whole at (from_rows_from rows key) in
    let sorted : AreSorted (row ∷ b.rest) = rw b.whole at (sorted_rows_from rows key s) in
    let less : key_cmp key row.0 ≡ Less = less_left (key_cmp key row.0) apart from.0 in
    sym (value_from rows key)
    ∙ rw b.whole (value_of-past key (row ∷ b.rest)
    (less, past_lesser key row.0 less b.rest (past_first row b.rest sorted)))

-- the rows that aren't before a span are in it or behind it
pub span_counts : (s : Span) (rows : Rows)
    → length (rows_from_span rows s) ≡ count_in rows s + length (filter (λ row. is_lt (span_cmp s row.0)) rows)
span_counts s [] = refl
span_counts s (row ∷ rows) = by (span_counts s rows) (span_cmp s row.0) refl
  where
    by : length (rows_from_span rows s) ≡ count_in rows s + length (filter (λ row. is_lt (span_cmp s row.0)) rows)
        → (o : Ordering) → span_cmp s row.0 ≡ o
        → length (rows_from_span (row ∷ rows) s)
        ≡ count_in (row ∷ rows) s + length (filter (λ row. is_lt (span_cmp s row.0)) (row ∷ rows))
    by below Less e = let out : is_in s row.0 ≡ false = in_span s row.0 ∙ ap is_eq e in
        rw (out, e) (omega (arith, below))
    by below Equal e = let in_it : is_in s row.0 ≡ true = in_span s row.0 ∙ ap is_eq e in
        rw (in_it, e) (omega (arith, below))
    by below Greater e = let out : is_in s row.0 ≡ false = in_span s row.0 ∙ ap is_eq e in rw (out, e) below
