-- What a binary search among sorted rows answers: the place of the key.
use Rattle.std.proofs.Common.{◌≡◌, ◌≢◌, ℕ, zero, suc, ◌+◌, ◌<◌, ◌≤◌, refl, ap, sym, ◌∙◌, arith, get_or, length-append}
use Rattle.std.proofs.Common.{drop, inl, inr}
use Rattle.std.proofs.Math.Seq.{drop-append_seam, get_or-append_seam}
use Rattle.std.proofs.Math.ListN.{get_or-map}
use Rattle.std.proofs.lemmas.Bool.{cases_eq}
use Rattle.std.proofs.lemmas.Map.Keys.{Less-from_sorted}
use Rattle.std.proofs.lemmas.Map.Entries.{length-keys_of}
use Rattle.std.specs.Prelude.{Bool, true, false, not, [], ◌∷◌, ◌++◌, length, Result, Ok, Err, ◌⊎◌}
use Rattle.std.specs.List.{AllByRecursion, AllWithin, HoldsAt}
use Rattle.std.specs.List.Sorted.{IsBinarySearchResult, IsSearchInRange, IsNonDecreasingBy, IsPartitionedBy}
use Rattle.std.specs.List.Sorted.{IsPartitionPoint}
use Rattle.std.specs.Map.{keys_of}
use Rattle.std.specs.Ordering.{is_eq, is_gt, is_lt, ordering_index}
use Rattle.std.specs.declared.cmp.Ordering.{Ordering}
use Rattle.std.specs.declared.cmp.Ordering.TheVariants.{Less, Equal, Greater}
use Rattle.alto_rows.specs.declared.key.Key.{Key}
use Rattle.alto_rows.specs.declared.span.Span.{Span}
use Rattle.alto_rows.specs.declared.value.Value.{Value}
use Rattle.alto_rows.specs.Order.{key_cmp}
use Rattle.alto_rows.specs.Rows.{Rows, AreSorted}
use Rattle.alto_rows.specs.Place.{place_of}
use Rattle.alto_rows.specs.Span.{count_in, is_in, rows_from_span, rows_in, span_cmp}
use Rattle.alto_rows.proofs.SpanLemmas.{Falls, in_span, span_falls}
use Rattle.alto_rows.proofs.OrderLemmas.{key_cmp_total, key_cmp_exact}
use Rattle.alto_rows.proofs.RowsLemmas.{AreBefore, ArePast, less_back, greater_back}
use Rattle.alto_rows.proofs.PlaceLemmas.{IsFound, IsMissing, place_of-found, place_of-missing}
use Rattle.alto_rows.proofs.WithinLemmas.{AreBeforeSpan, AreFromSpan, rows_from_span-before, rows_from_span-past}
use Rattle.alto_rows.proofs.WithinLemmas.{later_from_span, from_rows_from_span, rows_in-rows_from_span}

-- rows cut at a place
record IsCut (rows : Rows) (at : ℕ) : Type 0 where
  front : Rows
  back : Rows
  whole : rows ≡ front ++ back
  place : at ≡ length front

-- rows can be cut at each place up to their end
cut : (rows : Rows) (at : ℕ) → at ≤ length rows → IsCut rows at
cut rows zero h = record { front = []; back = rows; whole = refl; place = refl }
cut [] (suc at) h = absurd (omega arith)
cut (row ∷ rows) (suc at) h =
    let below : at ≤ length rows = omega arith in
    let c : IsCut rows at = cut rows at below in
    record {
      front = row ∷ c.front;
      back = c.back;
      whole = ap (λ (more : Rows). row ∷ more) c.whole;
      place = ap suc c.place;
    }

-- what holds below the length of the first rows holds of them
all_front : (P : Key × Value → Type 0) (front back : Rows) → AllWithin P (front ++ back) 0 (length front)
    → AllByRecursion P front
all_front P [] back h = tt
all_front P (row ∷ front) back h = (
  h 0 row (omega arith) (omega arith),
  all_front P front back (λ k d low high. h (suc k) d (omega arith) (omega arith)),
)

-- and what holds from there on holds of the last
all_back : (P : Key × Value → Type 0) (front back : Rows)
    → AllWithin P (front ++ back) (length front) (length (front ++ back)) → AllByRecursion P back
all_back P [] [] h = tt
all_back P [] (row ∷ back) h =
    (h 0 row (omega arith) (omega arith), all_back P [] back (λ k d low high. h (suc k) d (omega arith) (omega arith)))
all_back P (row ∷ front) back h = all_back P front back (λ k d low high. h (suc k) d (omega arith) (omega arith))

-- along sorted rows the comparison with a key doesn't fall
index_le : (low high key : Key) → key_cmp low high ≡ Less → (o : Ordering) → key_cmp high key ≡ o
    → ordering_index (key_cmp low key) ≤ ordering_index o
index_le low high key less Less e = rw (key_cmp_total.trans low high key less e) (omega arith)
index_le low high key less Equal e = let same : high ≡ key = key_cmp_exact high key e in rw (← same, less) (omega arith)
index_le low high key less Greater e = by (key_cmp low key)
  where
    by : (o : Ordering) → ordering_index o ≤ 2
    by Less = omega arith
    by Equal = omega arith
    by Greater = omega arith

-- of two places in sorted rows the first has the lesser key
rising : (rows : Rows) (i j : ℕ) (d : Key × Value) → AreSorted rows → i < j → j < length rows
    → key_cmp (get_or rows i d).0 (get_or rows j d).0 ≡ Less
rising rows i j d s less within =
    let in_keys : j < length (keys_of rows) = rw (length-keys_of rows) within in
    rw (← get_or-map (λ (row : Key × Value). row.0) rows i d, ← get_or-map (λ (row : Key × Value). row.0) rows j d)
    (Less-from_sorted key_cmp (keys_of rows) i j d.0 s less in_keys)

-- sorted rows can be searched for a key
pub searchable : (rows : Rows) (key : Key) → AreSorted rows
    → IsNonDecreasingBy (λ row. ordering_index (key_cmp row.0 key)) rows
searchable rows key s i j d below within = by (cases_eq i j)
  where
    by : (i ≡ j) ⊎ (i ≢ j) → ordering_index (key_cmp (get_or rows i d).0 key)
        ≤ ordering_index (key_cmp (get_or rows j d).0 key)
    by (inl same) = rw same (omega arith)
    by (inr apart) =
        let less : i < j = omega arith in
        let keys : key_cmp (get_or rows i d).0 (get_or rows j d).0 ≡ Less = rising rows i j d s less within in
        index_le (get_or rows i d).0 (get_or rows j d).0 key keys (key_cmp (get_or rows j d).0 key) refl

-- rows that compare as less are before the key
before_by_cmp : (key : Key) (rows : Rows) → AllByRecursion (λ row. key_cmp row.0 key ≡ Less) rows → AreBefore key rows
before_by_cmp key [] h = tt
before_by_cmp key (row ∷ rows) h = (less_back row.0 key h.0, before_by_cmp key rows h.1)

-- rows that compare as greater are after it
past_by_cmp : (key : Key) (rows : Rows) → AllByRecursion (λ row. key_cmp row.0 key ≡ Greater) rows → ArePast key rows
past_by_cmp key [] h = tt
past_by_cmp key (row ∷ rows) h = (greater_back row.0 key h.0, past_by_cmp key rows h.1)

-- where a search misses, the key is missing
missing_from_search : (rows : Rows) (key : Key) (at : ℕ) → at ≤ length rows
    → IsPartitionPoint (λ (row : Key × Value). key_cmp row.0 key ≡ Less) (λ (row : Key × Value). key_cmp row.0 key
    ≡ Greater) rows at → IsMissing rows key at
missing_from_search rows key at within point = by (cut rows at within)
  where
    by : IsCut rows at → IsMissing rows key at
    by c =
        let less : AllWithin (λ (row : Key × Value). key_cmp row.0 key ≡ Less) (c.front ++ c.back) 0 (length c.front) =
        rw (c.whole, c.place) at point.0 in
        let greater : AllWithin (λ (row : Key × Value). key_cmp row.0 key ≡ Greater) (c.front ++ c.back)
        (length c.front) (length (c.front ++ c.back)) = rw (c.whole, c.place) at point.1 in
        record {
          front = c.front;
          back = c.back;
          whole = c.whole;
          place = c.place;
          before = before_by_cmp key c.front (all_front (λ row. key_cmp row.0 key ≡ Less) c.front c.back less);
          past = past_by_cmp key c.back (all_back (λ row. key_cmp row.0 key ≡ Greater) c.front c.back greater);
        }

-- where it hits, the row is the key's
found_from_search : (rows : Rows) (key : Key) (at : ℕ) → at < length rows
    → HoldsAt (λ (row : Key × Value). key_cmp row.0 key ≡ Equal) rows at → IsFound rows key at
found_from_search rows key at within tie = by (cut rows at (omega arith))
  where
    by : IsCut rows at → IsFound rows key at
    by c = row_of c.front c.back c.whole c.place
      where
        row_of : (front back : Rows) → rows ≡ front ++ back → at ≡ length front → IsFound rows key at
        row_of front [] whole place = absurd (let long : length rows ≡ length front + 0 = ap length whole
            ∙ length-append front [] in omega arith)
        row_of front (row ∷ back) whole place =
            let here : get_or rows at row ≡ row = rw (whole, place) (get_or-append_seam front row back row) in
            let one : row.0 ≡ key = key_cmp_exact row.0 key (rw here at (tie row)) in
            record { front = front; value = row.1; back = back; whole = rw (← one) whole; place = place }

-- a search of sorted rows answers the place of the key
pub place_from_search : (rows : Rows) (key : Key) (r : Result ℕ ℕ) → AreSorted rows → IsSearchInRange r (length rows)
    → IsBinarySearchResult (λ (row : Key × Value). key_cmp row.0 key) rows r → r ≡ place_of rows key
place_from_search rows key (Ok at) s within search_result =
    sym (place_of-found rows key at s (found_from_search rows key at within search_result))
place_from_search rows key (Err at) s within search_result =
    sym (place_of-missing rows key at (missing_from_search rows key at within (search_result (searchable rows key s))))

-- ---- a search for the first row of a span

-- sorted rows before a span come before the others
pub span_partitioned : (rows : Rows) (s : Span) → AreSorted rows
    → IsPartitionedBy (λ row. is_gt (span_cmp s row.0)) rows
span_partitioned rows s sorted i j d below within later = by (cases_eq i j)
  where
    by : (i ≡ j) ⊎ (i ≢ j) → is_gt (span_cmp s (get_or rows i d).0) ≡ true
    by (inl same) = rw same later
    by (inr apart) = passes (is_gt (span_cmp s (get_or rows i d).0)) refl
      where
        passes : (b : Bool) → is_gt (span_cmp s (get_or rows i d).0) ≡ b → is_gt (span_cmp s (get_or rows i d).0) ≡ true
        passes true e = e
        passes false e =
            let less : i < j = omega arith in
            let keys : key_cmp (get_or rows i d).0 (get_or rows j d).0 ≡ Less = rising rows i j d sorted less within in
            let from : is_gt (span_cmp s (get_or rows j d).0) ≡ false =
            later_from_span s (get_or rows i d).0 (get_or rows j d).0 keys e in
            cc

-- from where the rows before a span end, there are the others
pub drop_at_span : (rows : Rows) (s : Span) (at : ℕ) → at ≤ length rows
    → IsPartitionPoint (λ (row : Key × Value). is_gt (span_cmp s row.0) ≡ true)
    (λ (row : Key × Value). is_gt (span_cmp s row.0) ≡ false) rows at
    → drop at rows ≡ rows_from_span rows s
drop_at_span rows s at within point = by (cut rows at within)
  where
    by : IsCut rows at → drop at rows ≡ rows_from_span rows s
    by c =
        let before : AllWithin (λ (row : Key × Value). is_gt (span_cmp s row.0) ≡ true) (c.front ++ c.back)
        0 (length c.front) = rw (c.whole, c.place) at point.0 in
        let from : AllWithin (λ (row : Key × Value). is_gt (span_cmp s row.0) ≡ false) (c.front ++ c.back)
        (length c.front) (length (c.front ++ c.back)) = rw (c.whole, c.place) at point.1 in
        let are_before : AreBeforeSpan s c.front =
        all_front (λ row. is_gt (span_cmp s row.0) ≡ true) c.front c.back before in
        let are_from : AreFromSpan s c.back = all_back (λ row. is_gt (span_cmp s row.0) ≡ false) c.front c.back from in
        rw (c.whole, c.place) (drop-append_seam c.front c.back
        ∙ sym (rows_from_span-before s c.front c.back are_before ∙ rows_from_span-past s c.back are_from))

-- ---- how many rows of a span there are

-- sorted rows that aren't behind a span come before the others
pub span_reaches : (rows : Rows) (s : Span) → AreSorted rows
    → IsPartitionedBy (λ row. not (is_lt (span_cmp s row.0))) rows
span_reaches rows s sorted i j d below within later = by (cases_eq i j)
  where
    by : (i ≡ j) ⊎ (i ≢ j) → not (is_lt (span_cmp s (get_or rows i d).0)) ≡ true
    by (inl same) = rw same later
    by (inr apart) = passes (span_cmp s (get_or rows i d).0) refl
      where
        passes : (o : Ordering) → span_cmp s (get_or rows i d).0 ≡ o
            → not (is_lt (span_cmp s (get_or rows i d).0)) ≡ true
        passes Equal e = rw e refl
        passes Greater e = rw e refl
        passes Less e =
            let less : i < j = omega arith in
            let keys : key_cmp (get_or rows i d).0 (get_or rows j d).0 ≡ Less = rising rows i j d sorted less within in
            let falls : Falls (span_cmp s (get_or rows i d).0) (span_cmp s (get_or rows j d).0) =
            span_falls s (get_or rows i d).0 (get_or rows j d).0 keys in
            let behind : span_cmp s (get_or rows j d).0 ≡ Less = falls.less e in
            let both : not (is_lt Less) ≡ true = rw behind at later in
            cc

-- where the rows that aren't behind a span end, so many are in it, of rows that aren't before it
count_at_point : (rows : Rows) (s : Span) (at : ℕ) → AreFromSpan s rows → at ≤ length rows
    → IsPartitionPoint (λ (row : Key × Value). not (is_lt (span_cmp s row.0)) ≡ true)
    (λ (row : Key × Value). not (is_lt (span_cmp s row.0)) ≡ false) rows at
    → at ≡ count_in rows s
count_at_point rows s at from within point = by (cut rows at within)
  where
    tied : (o : Ordering) → is_gt o ≡ false → not (is_lt o) ≡ true → is_eq o ≡ true
    tied Less g l = cc
    tied Equal g l = refl
    tied Greater g l = cc

    apart : (o : Ordering) → not (is_lt o) ≡ false → is_eq o ≡ false
    apart Less l = refl
    apart Equal l = cc
    apart Greater l = cc

    outside : (back : Rows) → AllByRecursion (λ row. not (is_lt (span_cmp s row.0)) ≡ false) back → rows_in back s ≡ []
    outside [] b = refl
    outside (row ∷ back) b =
        let out : is_in s row.0 ≡ false = in_span s row.0 ∙ apart (span_cmp s row.0) b.0 in
        rw out (outside back b.1)

    inside : (front back : Rows) → AreFromSpan s (front ++ back)
        → AllByRecursion (λ row. not (is_lt (span_cmp s row.0)) ≡ true) front
        → AllByRecursion (λ row. not (is_lt (span_cmp s row.0)) ≡ false) back → rows_in (front ++ back) s ≡ front
    inside [] back f a b = outside back b
    inside (row ∷ front) back f a b =
        let in_it : is_in s row.0 ≡ true = in_span s row.0 ∙ tied (span_cmp s row.0) f.0 a.0 in
        rw in_it (ap (λ (more : Rows). row ∷ more) (inside front back f.1 a.1 b))

    by : IsCut rows at → at ≡ count_in rows s
    by c =
        let first : AllWithin (λ (row : Key × Value). not (is_lt (span_cmp s row.0)) ≡ true) (c.front ++ c.back)
        0 (length c.front) = rw (c.whole, c.place) at point.0 in
        let last : AllWithin (λ (row : Key × Value). not (is_lt (span_cmp s row.0)) ≡ false) (c.front ++ c.back)
        (length c.front) (length (c.front ++ c.back)) = rw (c.whole, c.place) at point.1 in
        let all_from : AreFromSpan s (c.front ++ c.back) = rw c.whole at from in
        c.place ∙ sym
        (rw c.whole (ap length (inside c.front c.back
        all_from (all_front (λ row. not (is_lt (span_cmp s row.0)) ≡ true) c.front c.back first)
        (all_back (λ row. not (is_lt (span_cmp s row.0)) ≡ false) c.front c.back last))))

-- so many rows of a span there are among sorted rows, by a search in those that aren't before it
pub count_from_span : (rows : Rows) (s : Span) (at : ℕ) → AreSorted rows → at ≤ length (rows_from_span rows s)
    → IsPartitionPoint (λ (row : Key × Value). not (is_lt (span_cmp s row.0)) ≡ true)
    (λ (row : Key × Value). not (is_lt (span_cmp s row.0)) ≡ false) (rows_from_span rows s) at
    → at ≡ count_in rows s
count_from_span rows s at sorted within point =
    count_at_point (rows_from_span rows s) s at (from_rows_from_span rows s) within point
    ∙ ap length (rows_in-rows_from_span rows s)
