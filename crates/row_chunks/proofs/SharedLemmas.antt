-- What two keys have in common with a third, those between them have, and the rest orders them.
use Rattle.std.proofs.Common.{◌≡◌, ℕ, zero, suc, ◌+◌, ◌-◌, ◌<◌, ◌≤◌, refl, ap, sym, ◌∙◌, subst, arith, get_or, drop}
use Rattle.std.proofs.Common.{map}
use Rattle.std.proofs.lemmas.Bool.{and_parts}
use Rattle.std.proofs.lemmas.List.{drop_more}
use Rattle.std.proofs.lemmas.Option.{get_or_from_slice_get}
use Rattle.std.specs.Prelude.{true, false, not, ◌&&◌, List, [], ◌∷◌, ◌++◌, length, Some, slice_get}
use Rattle.std.specs.List.{AllByRecursion}
use Rattle.std.specs.List.Sorted.{IsPartitionedBy, IsPartitionPoint, IsStrictlySortedBy}
use Rattle.std.specs.Ordering.{is_eq, is_gt, is_lt}
use Rattle.std.specs.declared.cmp.Ordering.{Ordering}
use Rattle.std.specs.declared.cmp.Ordering.TheVariants.{Less, Equal, Greater}
use Rattle.alto_rows.specs.declared.key.Key.{Key}
use Rattle.alto_rows.specs.declared.key.Key.TheVariants as key
use Rattle.alto_rows.specs.declared.span.Span.{Span}
use Rattle.alto_rows.specs.declared.span.Span.TheVariants as span
use Rattle.alto_rows.specs.declared.value.Value.{Value}
use Rattle.alto_rows.specs.Order.{key_cmp, same_name}
use Rattle.alto_rows.specs.Rows.{Rows, AreSorted}
use Rattle.alto_rows.specs.Span.{is_in, span_cmp}
use Rattle.alto_rows.proofs.OrderLemmas.{name_cmp_itself}
use Rattle.alto_rows.proofs.RowsLemmas.{AreBefore, ArePast, before_middle, greater_back, past_first, sorted_left}
use Rattle.alto_rows.proofs.SpanLemmas.{in_span, span_falls}
use Rattle.alto_rows.proofs.TouchesLemmas.{one_name}
use Rattle.row_chunks.specs.declared.cut.Cut.{Cut}
use Rattle.row_chunks.specs.declared.cut.Cut.TheVariants.{Before, Behind, BeforeSpan, BehindSpan}
use Rattle.row_chunks.specs.declared.shared.Shared.{Shared}
use Rattle.row_chunks.specs.declared.shared.Shared.TheVariants.{Nothing, Metric, Source}
use Rattle.row_chunks.specs.Blocks.{AllBegin, Placed, first_rows, joined}
use Rattle.row_chunks.specs.Cut.{keeps, rows_behind}
use Rattle.row_chunks.specs.Shared.{AllShare, cut_shares, keeps_in, order_of_rest, shares}
use Rattle.row_chunks.proofs.BlockLemmas.{begin_drop, none_behind, sorted_drop}
use Rattle.row_chunks.proofs.CutLemmas.{cut_partitioned}

-- ---- the order of the rest

-- where two keys have so much in common, their order is that of the rest
rest_orders : (low : Key) (shared : Shared) (at : Key) → shares low shared at ≡ true
    → order_of_rest low shared at ≡ key_cmp low at
unfolding key_cmp
rest_orders low Nothing at h = refl
rest_orders (key.Cost net metric source destination) Metric (key.Cost of other from to) h =
    let both = and_parts (same_name net of) (same_name metric other) h in
    let nets : net ≡ of = one_name net of both.0 in
    let metrics : metric ≡ other = one_name metric other both.1 in
    rw (nets, metrics, name_cmp_itself of, name_cmp_itself other) refl
rest_orders (key.Cost net metric source destination) Source (key.Cost of other from to) h =
    let all = and_parts (same_name net of) (same_name metric other && same_name source from) h in
    let both = and_parts (same_name metric other) (same_name source from) all.1 in
    let nets : net ≡ of = one_name net of all.0 in
    let metrics : metric ≡ other = one_name metric other both.0 in
    let sources : source ≡ from = one_name source from both.1 in
    rw (nets, metrics, sources, name_cmp_itself of, name_cmp_itself other, name_cmp_itself from) refl
rest_orders _ _ _ h = refl

-- so it tells whether a key is behind a cut
kept_in : (cut : Cut) (shared : Shared) (at : Key) → cut_shares cut shared at ≡ true
    → keeps_in cut shared at ≡ keeps cut at
kept_in (Before low) shared at h = ap (λ o. not (is_gt o)) (rest_orders low.now shared at h)
kept_in (Behind low) shared at h = ap is_lt (rest_orders low.now shared at h)
kept_in (BeforeSpan span) shared at h = refl
kept_in (BehindSpan span) shared at h = refl

-- ---- keys between two

-- a key between two of a span is in it
between_in : (s : Span) (a x b : Key) → key_cmp a x ≡ Less → key_cmp x b ≡ Less → is_in s a ≡ true → is_in s b ≡ true
    → is_in s x ≡ true
between_in s a x b below above one other = by (span_cmp s x) refl
  where
    by : (o : Ordering) → span_cmp s x ≡ o → is_in s x ≡ true
    by Equal e = in_span s x ∙ ap is_eq e
    by Less e = let out : is_in s b ≡ false = in_span s b ∙ ap is_eq ((span_falls s x b above).less e) in cc
    by Greater e = let out : is_in s a ≡ false = in_span s a ∙ ap is_eq ((span_falls s a x below).greater e) in cc

-- so has a key between two as much in common with a third as both have
between_shares : (low : Key) (shared : Shared) (a x b : Key) → key_cmp a x ≡ Less → key_cmp x b ≡ Less
    → shares low shared a ≡ true → shares low shared b ≡ true
    → shares low shared x ≡ true
between_shares low Nothing a x b below above one other = refl
between_shares (key.Cost net metric source destination) Metric a x b below above one other =
    between_in (span.CostsIn net metric) a x b below above one other
between_shares (key.Cost net metric source destination) Source a x b below above one other =
    between_in (span.CostsFrom net metric source) a x b below above one other
between_shares _ _ a x b below above one other = cc

between_cut : (cut : Cut) (shared : Shared) (a x b : Key) → key_cmp a x ≡ Less → key_cmp x b ≡ Less
    → cut_shares cut shared a ≡ true
    → cut_shares cut shared b ≡ true → cut_shares cut shared x ≡ true
between_cut (Before low) shared a x b below above one other = between_shares low.now shared a x b below above one other
between_cut (Behind low) shared a x b below above one other = between_shares low.now shared a x b below above one other
between_cut (BeforeSpan span) shared a x b below above one other = refl
between_cut (BehindSpan span) shared a x b below above one other = refl

-- ---- a search

-- what holds of all holds of each
holds_at : {X : Type 0} (P : X → Type 0) (xs : List X) (k : ℕ) (d : X) → k < length xs → AllByRecursion P xs
    → P (get_or xs k d)
holds_at P [] k d within h = absurd (omega (arith, within))
holds_at P (x ∷ xs) zero d within h = h.0
holds_at P (x ∷ xs) (suc k) d within h = holds_at P xs k d (omega (arith, within)) h.1

-- what has so much in common with the key of a cut can be searched by the rest
pub partitioned_in : {X : Type 0} (key_of : X → Key) (cut : Cut) (shared : Shared) (xs : List X)
    → IsStrictlySortedBy key_cmp (map key_of xs)
    → AllByRecursion (λ x. cut_shares cut shared (key_of x) ≡ true) xs
    → IsPartitionedBy (λ x. not (keeps_in cut shared (key_of x))) xs
partitioned_in key_of cut shared xs sorted share i j d below within later =
    let of : (k : ℕ) → k < length xs
    → keeps_in cut shared (key_of (get_or xs k d)) ≡ keeps cut (key_of (get_or xs k d)) =
    λ k inside. kept_in cut shared (key_of (get_or xs k d)) (holds_at (λ x. cut_shares cut shared (key_of x) ≡ true) xs
    k d inside share) in
    ap not (of i (omega (arith, below, within)))
    ∙ cut_partitioned key_of cut xs sorted i j d below within (ap not (sym (of j within)) ∙ later)

-- and that search ends where one by whole keys does
pub point_in : {X : Type 0} (key_of : X → Key) (cut : Cut) (shared : Shared) (xs : List X) (at : ℕ) → at ≤ length xs
    → AllByRecursion (λ x. cut_shares cut shared (key_of x) ≡ true) xs
    → IsPartitionPoint (λ x. not (keeps_in cut shared (key_of x)) ≡ true)
    (λ x. not (keeps_in cut shared (key_of x)) ≡ false) xs at
    → IsPartitionPoint (λ x. not (keeps cut (key_of x)) ≡ true) (λ x. not (keeps cut (key_of x)) ≡ false) xs at
point_in {X} key_of cut shared xs at within share point =
    let of : (k : ℕ) (d : X) → k < length xs
    → keeps_in cut shared (key_of (get_or xs k d)) ≡ keeps cut (key_of (get_or xs k d)) =
    λ k d inside. kept_in cut shared (key_of (get_or xs k d))
    (holds_at (λ x. cut_shares cut shared (key_of x) ≡ true) xs k d inside share) in (
      λ k d low high. ap not (sym (of k d (omega (arith, high, within)))) ∙ point.0 k d low high,
      λ k d low high. ap not (sym (of k d high)) ∙ point.1 k d low high,
    )

-- where the last row isn't behind a cut, by what it doesn't share, none is
pub none_in : (cut : Cut) (shared : Shared) (rows : Rows) (row : Key × Value) → AreSorted rows
    → AllShare cut shared rows
    → Some row ≡ slice_get rows (length rows - 1) → keeps_in cut shared row.0 ≡ false → rows_behind cut rows ≡ []
none_in cut shared [] row s h is k = refl
none_in cut shared (first ∷ rows) row s h is k =
    let place : length (first ∷ rows) - 1 ≡ length rows = omega arith in
    let there : get_or (first ∷ rows) (length rows) row ≡ row =
    get_or_from_slice_get (first ∷ rows) (length rows) row row (sym (is ∙ ap (slice_get (first ∷ rows)) place)) in
    let share : cut_shares cut shared row.0 ≡ true =
    rw there at
    (holds_at (λ (one : Key × Value). cut_shares cut shared one.0 ≡ true) (first ∷ rows) (length rows)
    row (omega arith) h) in
    none_behind cut (first ∷ rows) row s is (sym (kept_in cut shared row.0 share) ∙ k)

-- ---- rows in blocks

-- what rows share, the first and the last of them do
share_left : (cut : Cut) (shared : Shared) (front back : Rows) → AllShare cut shared (front ++ back)
    → AllShare cut shared front
share_left cut shared [] back h = tt
share_left cut shared (row ∷ front) back h = (h.0, share_left cut shared front back h.1)

share_right : (cut : Cut) (shared : Shared) (front back : Rows) → AllShare cut shared (front ++ back)
    → AllShare cut shared back
share_right cut shared [] back h = h
share_right cut shared (row ∷ front) back h = share_right cut shared front back h.1

-- so do the rows of a block
pub rows_share : (cut : Cut) (shared : Shared) (slots : List Placed) (at : ℕ) → AllShare cut shared (joined slots)
    → AllShare cut shared (first_rows (drop at slots))
rows_share cut shared [] zero h = tt
rows_share cut shared [] (suc at) h = tt
rows_share cut shared (slot ∷ slots) zero h = share_left cut shared slot.rows (joined slots) h
rows_share cut shared (slot ∷ slots) (suc at) h =
    rows_share cut shared slots at (share_right cut shared slot.rows (joined slots) h)

-- and the first keys of blocks
pub firsts_share : (cut : Cut) (shared : Shared) (slots : List Placed) → AllBegin slots
    → AllShare cut shared (joined slots) → AllByRecursion (λ slot. cut_shares cut shared slot.first ≡ true) slots
firsts_share cut shared [] b h = tt
firsts_share cut shared (slot ∷ slots) b h =
    let begun : AllShare cut shared ((slot.first, b.0.value) ∷ (b.0.rest ++ joined slots)) = rw b.0.whole at h in
    (begun.0, firsts_share cut shared slots b.1 (share_right cut shared slot.rows (joined slots) h))

-- as the first key of the block at a place
pub first_shares : (cut : Cut) (shared : Shared) (slots : List Placed) (at : ℕ) (slot : Placed) → at < length slots
    → slot ≡ get_or slots at slot → AllBegin slots → AllShare cut shared (joined slots)
    → cut_shares cut shared slot.first ≡ true
first_shares cut shared slots at slot within is b h =
    subst (λ (one : Placed). cut_shares cut shared one.first ≡ true) (sym is)
    (holds_at (λ (one : Placed). cut_shares cut shared one.first ≡ true) slots at slot within
    (firsts_share cut shared slots b h))

-- what two keys have in common with that of a cut, the rows between them have
rows_between : (cut : Cut) (shared : Shared) (a b : Key) (rows : Rows) → ArePast a rows → AreBefore b rows
    → cut_shares cut shared a ≡ true → cut_shares cut shared b ≡ true → AllShare cut shared rows
rows_between cut shared a b [] past before one other = tt
rows_between cut shared a b (row ∷ rows) past before one other =
    let here = between_cut cut shared a row.0 b past.0 (greater_back b row.0 before.0) one other in
    (here, rows_between cut shared a b rows past.1 before.1 one other)

-- so what the first keys of a block and of the next have, the rows of the block have
block_between : (cut : Cut) (shared : Shared) (slot next : Placed) (slots : List Placed)
    → AllBegin (slot ∷ next ∷ slots) → AreSorted (joined (slot ∷ next ∷ slots))
    → cut_shares cut shared slot.first ≡ true
    → cut_shares cut shared next.first ≡ true → AllShare cut shared slot.rows
block_between cut shared slot next slots b s one other =
    let first : Key × Value = (slot.first, b.0.value) in
    let second : Key × Value = (next.first, b.1.0.value) in
    let more = b.1.0.rest ++ joined slots in
    let begun : AreSorted ((first ∷ b.0.rest) ++ second ∷ more) = rw (b.0.whole, b.1.0.whole) at s in
    let before : AreBefore next.first (first ∷ b.0.rest) = before_middle (first ∷ b.0.rest) second more begun in
    let own : AreSorted (first ∷ b.0.rest) = sorted_left (first ∷ b.0.rest) (second ∷ more) begun in
    let past : ArePast slot.first b.0.rest = past_first first b.0.rest own in
    rw b.0.whole (one, rows_between cut shared slot.first next.first b.0.rest past before.1 one other)

-- and those of the block at a place
pub rows_share_between : (cut : Cut) (shared : Shared) (slots : List Placed) (at : ℕ) (slot next : Placed)
    → at + 1 < length slots → slot ≡ get_or slots at slot → next ≡ get_or slots (at + 1) next → AllBegin slots
    → AreSorted (joined slots) → cut_shares cut shared slot.first ≡ true → cut_shares cut shared next.first ≡ true
    → AllShare cut shared (first_rows (drop at slots))
rows_share_between cut shared slots at slot next within is follows b s one other =
    let later = drop (at + 1 + 1) slots in
    let second : drop (at + 1) slots ≡ next ∷ later =
    drop_more slots (at + 1) next within ∙ ap (λ (one : Placed). one ∷ later) (sym follows) in
    let both : drop at slots ≡ slot ∷ next ∷ later =
    drop_more slots at slot (omega arith)
    ∙ ap (λ (one : Placed). one ∷ drop (at + 1) slots) (sym is)
    ∙ ap (λ (more : List Placed). slot ∷ more) second in
    let begun : AllBegin (slot ∷ next ∷ later) = rw both at (begin_drop slots at b) in
    let sorted : AreSorted (joined (slot ∷ next ∷ later)) = rw both at (sorted_drop slots at s) in
    rw both (block_between cut shared slot next later begun sorted one other)
