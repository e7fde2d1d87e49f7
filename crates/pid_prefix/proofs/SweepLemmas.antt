-- The steps of a sweep: a block ends, and a block begins.
use Rattle.std.proofs.Common.{◌≡◌, ℕ, ◌+◌, ◌-◌, ◌*◌, ◌<◌, ◌≤◌, refl, ap, sym, ◌∙◌, arith, subst, ◌⊎◌, ⊎_elim, inl}
use Rattle.std.proofs.Common.{inr, take}
use Rattle.std.specs.Prelude.{List, [], ◌∷◌, ◌++◌, length, Option, Some, None, true, nat_le}
use Rattle.std.specs.List.{All, Contains, filter}
use Rattle.std.proofs.lemmas.Bool.{cases_lt, le-leb}
use Rattle.std.proofs.lemmas.Nat.{pow_pos}
use Rattle.std.proofs.lemmas.List.{append_assoc, length-append, length_push}
use Rattle.std.proofs.lemmas.List.{take_at}
use Rattle.std.proofs.lemmas.List.Elements.{filter-append, All-nil, All-cons, All-head, All-tail, All-push, All-weaker}
use Rattle.std.proofs.lemmas.List.Elements.{All-contains, Contains-append_left, Contains-push}
use Rattle.pid_prefix.specs.declared.block.Block.{Block}
use Rattle.pid_prefix.specs.declared.range.Range.{Range}
use Rattle.pid_prefix.specs.Bits.{end_of}
use Rattle.pid_prefix.specs.Blocks.{Covers, IsBefore, IsInnermost}
use Rattle.pid_prefix.specs.Ranges.{AreRising, last_row, row_at}
use Rattle.pid_prefix.specs.Sweep.{IsInnermostAround, IsSwept, closing, closings, innermost_row}
use Rattle.pid_prefix.specs.Sweep.{swept_ranges}
use Rattle.pid_prefix.proofs.BlockLemmas.{later_longer, later_ends}
use Rattle.pid_prefix.proofs.RangeLemmas.{AllBy, AllPast, kept_by, none_past, last_row-append, rising-append}
use Rattle.pid_prefix.proofs.RangeLemmas.{rising_front, rising_back}

-- ---- the ends of the blocks around

-- the range from a number on, with a row
abbrev from : ℕ → Option ℕ → Range
from number row = record { first = number; row = row }

-- the range that begins with a block
abbrev pub opening : Block → Range
opening block = record { first = block.first; row = Some block.row }

-- the innermost block ends first
closings-push : (row : Option ℕ) (around : List Block) (block : Block)
    → closings row (around ++ block ∷ []) ≡ closing (innermost_row row around) block ∷ closings row around
closings-push row [] block = refl
closings-push row (outer ∷ around) block =
    ap (λ (ends : List Range). ends ++ closing row outer ∷ []) (closings-push (Some outer.row) around block)

-- the last of some blocks has its row
pub innermost_row-push : (row : Option ℕ) (around : List Block) (block : Block)
    → innermost_row row (around ++ block ∷ []) ≡ Some block.row
innermost_row-push row [] block = refl
innermost_row-push row (outer ∷ around) block = innermost_row-push (Some outer.row) around block

-- where each block ends at or behind a number, so stand the ranges behind them
pub closings_from : (number : ℕ) (row : Option ℕ) (around : List Block)
    → All (λ block. number ≤ end_of block.first block.len) around
    → All (λ range. number ≤ range.first) (closings row around)
closings_from number row [] h = All-nil (λ range. number ≤ range.first)
closings_from number row (outer ∷ around) h =
    let From : Block → Type 0 = λ block. number ≤ end_of block.first block.len in
    let here : number ≤ end_of outer.first outer.len = All-head From outer around h in
    All-push (λ range. number ≤ range.first) (closings (Some outer.row) around) (closing row outer)
    (closings_from number (Some outer.row) around (All-tail From outer around h)) here

-- and the other way round
ends_from : (number : ℕ) (row : Option ℕ) (around : List Block)
    → All (λ range. number ≤ range.first) (closings row around)
    → All (λ block. number ≤ end_of block.first block.len) around
ends_from number row [] h = All-nil (λ block. number ≤ end_of block.first block.len)
ends_from number row (outer ∷ around) h =
    let parts = halves (closings (Some outer.row) around) (closing row outer) h in
    All-cons (λ block. number ≤ end_of block.first block.len) outer around
    parts.1 (ends_from number (Some outer.row) around parts.0)
  where
    halves : (ranges : List Range) (last : Range) → All (λ range. number ≤ range.first) (ranges ++ last ∷ [])
        → All (λ range. number ≤ range.first) ranges × (number ≤ last.first)
    halves [] last h = (All-nil (λ range. number ≤ range.first), All-head (λ range. number ≤ range.first) last [] h)
    halves (range ∷ ranges) last h =
        let more = halves ranges last (All-tail (λ range. number ≤ range.first) range (ranges ++ last ∷ []) h) in (
          All-cons (λ range. number ≤ range.first) range
              ranges (All-head (λ range. number ≤ range.first) range (ranges ++ last ∷ []) h) more.0,
          more.1,
        )

-- ---- a block ends

-- the ranges with the ends of those around stay the same
swept_ranges-pop : (ranges : List Range) (around : List Block) (block : Block)
    → swept_ranges (ranges ++ closing (innermost_row None around) block ∷ []) around
    ≡ swept_ranges ranges (around ++ block ∷ [])
swept_ranges-pop ranges around block =
    append_assoc ranges (closing (innermost_row None around) block ∷ []) (closings None around)
    ∙ ap (λ ends. ranges ++ ends) (sym (closings-push None around block))

-- the innermost block ends, and its range begins
pub swept_pop : (blocks : List Block) (ranges : List Range) (around : List Block) (block : Block)
    → IsSwept blocks ranges (around ++ block ∷ [])
    → IsSwept blocks (ranges ++ closing (innermost_row None around) block ∷ []) around
swept_pop blocks ranges around block h =
    let same = swept_ranges-pop ranges around block in
    record {
      innermost = λ n. subst (λ all. IsInnermost blocks n (row_at all n)) (sym same) (h.innermost n);
      rising = subst AreRising (sym same) h.rising;
      count = ap length same ∙ h.count;
      inside = last_row-append None ranges (closing (innermost_row None around) block ∷ []);
      among = front around block h.among;
    }
  where
    front : (around : List Block) (block : Block) → All (λ block. Contains blocks block) (around ++ block ∷ [])
        → All (λ block. Contains blocks block) around
    front [] block h = All-nil (λ block. Contains blocks block)
    front (outer ∷ around) block h =
        All-cons (λ block. Contains blocks block) outer
        around (All-head (λ block. Contains blocks block) outer (around ++ block ∷ []) h)
        (front around block (All-tail (λ block. Contains blocks block) outer (around ++ block ∷ []) h))

-- the same, as the code does it
pub popped : (blocks : List Block) (ranges later : List Range) (around outer : List Block) (block : Block) (last : ℕ)
    (row : Option ℕ)
    → around ≡ outer ++ block ∷ [] → last + 1 ≡ end_of block.first block.len → row ≡ innermost_row None outer
    → later ≡ ranges ++ record { first = last + 1; row = row } ∷ [] → IsSwept blocks ranges around
    → IsSwept blocks later outer
popped blocks ranges later around outer block last row parts ends is pushed h =
    let range : closing (innermost_row None outer) block ≡ record { first = last + 1; row = row } =
    ap (λ (n : ℕ). from n (innermost_row None outer)) (sym ends) ∙ ap (λ (o : Option ℕ). from (last + 1) o) (sym is) in
    subst (λ all. IsSwept blocks all outer) (ap (λ r. ranges ++ r ∷ []) range ∙ sym pushed)
    (swept_pop blocks ranges outer block (subst (IsSwept blocks ranges) parts h))

-- what is left without the innermost block
pub outer_of : (around outer : List Block) (block : Block) (n : ℕ) → around ≡ outer ++ block ∷ [] → n ≡ length around
    → take (n - 1) around ≡ outer
outer_of around outer block n parts is =
    let less : length outer ≡ n - 1 = omega (arith, ap length parts, length_push outer block) in
    ap (take (n - 1)) parts ∙ take_at outer (block ∷ []) (n - 1) less

-- there are no blocks, or one is the innermost
parted : (around : List Block) → (around ≡ []) ⊎ ((block : Block) × IsInnermostAround around block)
parted [] = inl refl
parted (outer ∷ around) =
    ⊎_elim
    (λ none. inr (outer, ([], ap (λ (more : List Block). outer ∷ more) none)))
    (λ some. inr (some.0, (outer ∷ some.1.0, ap (λ (more : List Block). outer ∷ more) some.1.1)))
    (parted around)

-- where the innermost block ends behind a number, all around do
ends_past : (blocks : List Block) (ranges : List Range) (around : List Block) (block : Block) (number : ℕ)
    → IsSwept blocks ranges (around ++ block ∷ [])
    → number < end_of block.first block.len
    → All (λ block. number < end_of block.first block.len) (around ++ block ∷ [])
ends_past blocks ranges around block number h past =
    let rising : AreRising (closing (innermost_row None around) block ∷ closings None around) =
    subst AreRising (closings-push None around block)
    (rising_back ranges (closings None (around ++ block ∷ [])) h.rising) in
    let ends : All (λ other. end_of block.first block.len ≤ end_of other.first other.len) around =
    ends_from (end_of block.first block.len) None around rising.0 in
    All-push (λ other. number < end_of other.first other.len) around block
    (All-weaker (λ other. end_of block.first block.len ≤ end_of other.first other.len)
    (λ other. number < end_of other.first other.len) (λ other low. omega arith) around ends)
    past

-- the same, whichever the innermost is, if there is one
pub all_past : (blocks : List Block) (ranges : List Range) (around : List Block) (number : ℕ)
    → IsSwept blocks ranges around
    → ((block : Block) → IsInnermostAround around block → number < end_of block.first block.len)
    → All (λ block. number < end_of block.first block.len) around
all_past blocks ranges around number h past =
    let Past : List Block → Type 0 = λ some. All (λ block. number < end_of block.first block.len) some in
    ⊎_elim
    (λ none. subst Past (sym none) (All-nil (λ block. number < end_of block.first block.len)))
    (λ some. subst Past (sym some.1.1)
    (ends_past blocks ranges some.1.0 some.0 number (subst (IsSwept blocks ranges) some.1.1 h)
    (past some.0 some.1)))
    (parted around)

-- ---- a block begins

-- a block that doesn't cover the number changes nothing
innermost_skip : (blocks : List Block) (block : Block) (number : ℕ) (row : Option ℕ) → (Covers block number → ⊥)
    → IsInnermost blocks number row
    → IsInnermost (blocks ++ block ∷ []) number row
innermost_skip blocks block number None never h = All-push (λ other. Covers other number → ⊥) blocks block h never
innermost_skip blocks block number (Some row) never h = (
  h.0,
  Contains-append_left blocks (block ∷ []) h.0 h.1,
  h.2,
  h.3,
  All-push (λ other. Covers other number
      → other.len ≤ h.0.len) blocks block h.4 (λ covers. absurd (never covers)),
)

-- a later block that covers it is the innermost
innermost_take : (blocks : List Block) (block : Block) (number : ℕ) → All (λ other. IsBefore other block) blocks
    → Covers block number
    → IsInnermost (blocks ++ block ∷ []) number (Some block.row)
innermost_take blocks block number before covers = (
  block,
  Contains-push blocks block,
  refl,
  covers,
  All-push (λ other. Covers other number → other.len ≤ block.len) blocks block
      (All-weaker (λ other. IsBefore other block) (λ other. Covers other number → other.len ≤ block.len)
      (λ other first over. later_longer other block first (omega arith)) blocks before)
      (λ _. omega arith),
)

-- the ranges that begin by a number
begun : ℕ → List Range → List Range
begun number ranges = filter (λ range. nat_le range.first number) ranges

row_at-append : (ranges more : List Range) (number : ℕ)
    → row_at (ranges ++ more) number ≡ last_row (last_row None (begun number ranges)) (begun number more)
unfolding row_at begun
row_at-append ranges more number =
    ap (last_row None) (filter-append (λ range. nat_le range.first number) ranges more)
    ∙ last_row-append None (begun number ranges) (begun number more)

-- ranges that begin behind the number don't count
pub row_at-front : (ranges more : List Range) (number : ℕ) → AllPast number more
    → row_at (ranges ++ more) number ≡ row_at ranges number
unfolding row_at begun
row_at-front ranges more number past =
    row_at-append ranges more number ∙ ap (last_row (last_row None (begun number ranges))) (none_past number more past)

-- the blocks around end at or behind the end of a block that begins inside them
ends_around : (blocks : List Block) (around : List Block) (block : Block) → All (λ other. Contains blocks other) around
    → All (λ other. IsBefore other block) blocks → All (λ other. block.first < end_of other.first other.len) around
    → All (λ other. end_of block.first block.len ≤ end_of other.first other.len) around
ends_around blocks [] block among before inside =
    All-nil (λ other. end_of block.first block.len ≤ end_of other.first other.len)
ends_around blocks (outer ∷ around) block among before inside =
    let first : IsBefore outer block =
    All-contains (λ other. IsBefore other block) blocks outer
    before (All-head (λ other. Contains blocks other) outer around among) in
    All-cons (λ other. end_of block.first block.len ≤ end_of other.first other.len) outer around
    (later_ends outer block first (All-head (λ other. block.first < end_of other.first other.len) outer around inside))
    (ends_around blocks around block (All-tail (λ other. Contains blocks other) outer around among) before
    (All-tail (λ other. block.first < end_of other.first other.len) outer around inside))

-- a block begins, behind what is swept and inside the blocks around
module _ (blocks : List Block) (ranges : List Range) (around : List Block) (block : Block)
    (h : IsSwept blocks ranges around)
    (before : All (λ other. IsBefore other block) blocks) (by : AllBy block.first ranges)
    (inside : All (λ other. block.first < end_of other.first other.len) around) where
  -- the ranges behind the ends of those around
  ends : List Range
  ends = closings None around

  -- the range behind the block's own end
  own_end : Range
  own_end = closing (innermost_row None around) block

  -- the ranges with the block
  with_block : List Range
  with_block = (ranges ++ opening block ∷ []) ++ (own_end ∷ ends)

  with_block-is : swept_ranges (ranges ++ opening block ∷ []) (around ++ block ∷ []) ≡ with_block
  unfolding with_block own_end ends
  with_block-is = ap (λ more. (ranges ++ opening block ∷ []) ++ more) (closings-push None around block)

  ends_late : All (λ range. end_of block.first block.len ≤ range.first) ends
  unfolding ends
  ends_late = closings_from (end_of block.first block.len) None
      around (ends_around blocks around block h.among before inside)

  -- none of the ends is by a number before the block's
  past_ends : (number : ℕ) → number < end_of block.first block.len → AllPast number (own_end ∷ ends)
  unfolding own_end
  past_ends number low =
      All-cons (λ range. number < range.first) own_end ends low
      (All-weaker (λ range. end_of block.first block.len ≤ range.first) (λ range. number < range.first)
      (λ range late. omega arith) ends ends_late)

  -- the row of a number before the block is as before
  row_before : (number : ℕ) → number < block.first
      → row_at with_block number ≡ row_at (swept_ranges ranges around) number
  unfolding with_block ends
  row_before number low =
      let later : AllPast number (own_end ∷ ends) = past_ends number (omega arith) in
      let past : AllPast number (opening block ∷ (own_end ∷ ends)) =
      All-cons (λ range. number < range.first) (opening block) (own_end ∷ ends) low later in
      ap (λ all. row_at all number) (append_assoc ranges (opening block ∷ []) (own_end ∷ ends))
      ∙ (row_at-front ranges (opening block ∷ (own_end ∷ ends)) number past
      ∙ sym (row_at-front ranges ends number (All-tail (λ range. number < range.first) own_end ends later)))

  -- that of a number in the block is the block's
  row_inside : (number : ℕ) → Covers block number → row_at with_block number ≡ Some block.row
  unfolding with_block begun
  row_inside number covers =
      let kept : nat_le block.first number ≡ true = le-leb block.first number covers.0 in
      row_at-front (ranges ++ opening block ∷ []) (own_end ∷ ends) number (past_ends number covers.1)
      ∙ (row_at-append ranges (opening block ∷ []) number ∙ rw kept refl)

  -- that of a number behind the block is as before
  row_behind : (number : ℕ) → end_of block.first block.len ≤ number
      → row_at with_block number ≡ row_at (swept_ranges ranges around) number
  unfolding with_block begun own_end ends
  row_behind number high =
      let kept : nat_le (end_of block.first block.len) number ≡ true =
      le-leb (end_of block.first block.len) number high in
      let all_by : AllBy number ranges = All-weaker (λ range. range.first ≤ block.first) (λ range. range.first ≤ number)
      (λ range low. omega arith) ranges by in
      let old : row_at (ranges ++ ends) number ≡ last_row (innermost_row None around) (begun number ends) =
      row_at-append ranges ends number
      ∙ ap (λ row. last_row row (begun number ends))
      (ap (last_row None) (kept_by number ranges all_by) ∙ h.inside) in
      row_at-append (ranges ++ opening block ∷ []) (own_end ∷ ends) number ∙ (rw kept refl ∙ sym old)

  -- each number has its innermost block
  innermost_with : (number : ℕ) → IsInnermost (blocks ++ block ∷ []) number (row_at with_block number)
  innermost_with number =
      ⊎_elim
      (λ low. subst (IsInnermost (blocks ++ block ∷ []) number) (sym (row_before number low))
      (innermost_skip blocks block number (row_at (swept_ranges ranges around) number) (λ covers. absurd (omega arith))
      (h.innermost number)))
      (λ high. ⊎_elim
      (λ low. subst (IsInnermost (blocks ++ block ∷ []) number) (sym (row_inside number (high, low)))
      (innermost_take blocks block number before (high, low)))
      (λ past. subst (IsInnermost (blocks ++ block ∷ []) number) (sym (row_behind number past))
      (innermost_skip blocks block number (row_at (swept_ranges ranges around) number) (λ covers. absurd (omega arith))
      (h.innermost number)))
      (cases_lt number (end_of block.first block.len)))
      (cases_lt number block.first)

  -- the ranges still rise
  rising_with : AreRising with_block
  unfolding with_block own_end ends
  rising_with =
      let first : AreRising (ranges ++ opening block ∷ []) =
      rising-append ranges (opening block ∷ []) (rising_front ranges (closings None around) h.rising)
      (All-nil (λ later. block.first ≤ later.first), tt)
      (All-weaker (λ range. range.first ≤ block.first)
      (λ range. All (λ later. range.first ≤ later.first) (opening block ∷ []))
      (λ range low. All-cons (λ later. range.first ≤ later.first) (opening block) []
      low (All-nil (λ later. range.first ≤ later.first))) ranges by) in
      let all_by : AllBy block.first (ranges ++ opening block ∷ []) =
      All-push (λ range. range.first ≤ block.first) ranges (opening block) by (omega arith) in
      let later : AllPast block.first (own_end ∷ closings None around) =
      past_ends block.first (omega (arith, pow_pos (128 - block.len))) in
      rising-append (ranges ++ opening block ∷ []) (own_end ∷ closings None around)
      first (ends_late, rising_back ranges (closings None around) h.rising)
      (All-weaker (λ range. range.first ≤ block.first)
      (λ range. All (λ later. range.first ≤ later.first) (own_end ∷ closings None around))
      (λ range low. All-weaker (λ later. block.first < later.first) (λ later. range.first ≤ later.first)
      (λ later high. omega arith) (own_end ∷ closings None around) later)
      (ranges ++ opening block ∷ []) all_by)

  -- there are two ranges more
  count_with : length with_block ≡ 2 * length (blocks ++ block ∷ [])
  unfolding with_block own_end ends
  count_with =
      let all = length-append (ranges ++ opening block ∷ []) (own_end ∷ closings None around) in
      let first = length_push ranges (opening block) in
      let old : length ranges + length (closings None around) ≡ 2 * length blocks =
      sym (length-append ranges (closings None around)) ∙ h.count in
      let more = length_push blocks block in
      let tail : length (own_end ∷ closings None around) ≡ length (closings None around) + 1 = omega arith in
      omega arith

  -- so the block is swept too
  pub swept_push : IsSwept (blocks ++ block ∷ []) (ranges ++ opening block ∷ []) (around ++ block ∷ [])
  swept_push = record {
    innermost = λ n. subst (λ all. IsInnermost (blocks ++ block ∷ []) n (row_at all n)) (sym with_block-is)
        (innermost_with n);
    rising = subst AreRising (sym with_block-is) rising_with;
    count = ap length with_block-is ∙ count_with;
    inside = last_row-append None ranges (opening block ∷ []) ∙ sym (innermost_row-push None around block);
    among = All-push (λ other. Contains (blocks ++ block ∷ []) other) around block
        (All-weaker (λ other. Contains blocks other) (λ other. Contains (blocks ++ block ∷ []) other)
        (λ other. Contains-append_left blocks (block ∷ []) other) around h.among)
        (Contains-push blocks block);
  }
