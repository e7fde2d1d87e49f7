-- A pass over blocks sweeps them.
use Rattle.std.proofs.Common.{◌≡◌, ℕ, ◌+◌, ◌^◌, ◌<◌, ◌≤◌, refl, ap, sym, ◌∙◌, arith, subst, ⊎_elim}
use Rattle.std.proofs.Common.{get_or, take}
use Rattle.std.specs.Prelude.{List, [], ◌∷◌, ◌++◌, length, None}
use Rattle.std.specs.List.{All, Contains}
use Rattle.std.proofs.lemmas.List.{length-append, length-take-le, get_or_default}
use Rattle.std.proofs.lemmas.List.{get_or-take, take_all, take_more}
use Rattle.std.proofs.lemmas.List.Elements.{All-nil, All-push, All-weaker}
use Rattle.pid_prefix.specs.declared.block.Block.{Block}
use Rattle.pid_prefix.specs.declared.range.Range.{Range}
use Rattle.pid_prefix.specs.Bits.{end_of}
use Rattle.pid_prefix.specs.Blocks.{AreOrdered, Covers, IsBefore, IsInnermost}
use Rattle.pid_prefix.specs.Ranges.{row_at}
use Rattle.pid_prefix.specs.Sweep.{IsSwept, IsSweptTo, closings}
use Rattle.pid_prefix.proofs.RangeLemmas.{AllBy, AllPast}
use Rattle.pid_prefix.proofs.RangeLemmas.{rising_front}
use Rattle.pid_prefix.proofs.SweepLemmas.{opening, closings_from, row_at-front, swept_push}

-- before the first block
pub swept_none : IsSwept [] [] []
unfolding row_at
swept_none = record {
  innermost = λ n. All-nil (λ block. Covers block n → ⊥);
  rising = tt;
  count = refl;
  inside = refl;
  among = All-nil (λ block. Contains [] block);
}

-- a block's first is at or behind those of the blocks before it
pub first_rises : (block other : Block) → IsBefore block other → block.first ≤ other.first
first_rises block other before = ⊎_elim (λ less. omega arith) (λ same. omega arith) before

-- the blocks before one in order
before_all : (blocks : List Block) (i : ℕ) (block : Block) → AreOrdered blocks → i < length blocks
    → block ≡ get_or blocks i block
    → All (λ other. IsBefore other block) (take i blocks)
before_all blocks i block ordered below is k d low =
    let first : k < i = omega (arith, length-take-le i blocks) in
    rw (get_or-take i blocks k d first)
    (subst (IsBefore (get_or blocks k d)) (get_or_default blocks i d block below ∙ sym is) (ordered k i d first below))

-- one block more
pub swept_more : (blocks : List Block) (i : ℕ) (block : Block) (ranges later : List Range) (around inner : List Block)
    → AreOrdered blocks
    → i < length blocks → block ≡ get_or blocks i block → IsSwept (take i blocks) ranges around
    → AllBy block.first ranges
    → All (λ other. block.first < end_of other.first other.len) around → later ≡ ranges ++ opening block ∷ []
    → inner ≡ around ++ block ∷ []
    → IsSwept (take (i + 1) blocks) later inner
swept_more blocks i block ranges later around inner ordered below is h by inside begins enters =
    let more : take (i + 1) blocks ≡ take i blocks ++ block ∷ [] = take_more blocks i block below
    ∙ ap (λ b. take i blocks ++ b ∷ []) (sym is) in
    subst (λ all. IsSwept all later inner) (sym more)
    (subst (λ all. IsSwept (take i blocks ++ block ∷ []) all inner) (sym begins)
    (subst (IsSwept (take i blocks ++ block ∷ []) (ranges ++ opening block ∷ [])) (sym enters)
    (swept_push (take i blocks) ranges around block h (before_all blocks i block ordered below is) by inside)))

-- no range begins behind the blocks to come
pub by_more : (blocks : List Block) (i : ℕ) (block : Block) (ranges later : List Range) → AreOrdered blocks
    → i < length blocks
    → block ≡ get_or blocks i block → AllBy block.first ranges → later ≡ ranges ++ opening block ∷ []
    → (k : ℕ) (d : Block) → i + 1 ≤ k → k < length blocks → AllBy (get_or blocks k d).first later
by_more blocks i block ranges later ordered below is by begins k d high end =
    let next = get_or blocks k d in
    let first : block.first ≤ next.first =
    first_rises block next (subst (λ b. IsBefore b next) (get_or_default blocks i d block below ∙ sym is)
    (ordered i k d (omega arith) end)) in
    subst (AllBy next.first) (sym begins)
    (All-push (λ range. range.first ≤ next.first) ranges (opening block)
    (All-weaker (λ range. range.first ≤ block.first) (λ range. range.first ≤ next.first) (λ range low. omega arith)
    ranges by) first)

-- behind the last block, the ends of those around don't count for the numbers before them
pub swept_all : (blocks : List Block) (i : ℕ) (ranges : List Range) (around : List Block) → length blocks ≤ i
    → IsSwept (take i blocks) ranges around
    → All (λ block. 2 ^ 128 ≤ end_of block.first block.len) around → IsSweptTo blocks ranges
swept_all blocks i ranges around past h inside =
    let all : take i blocks ≡ blocks = take_all i blocks past in
    let ends : All (λ range. 2 ^ 128 ≤ range.first) (closings None around) =
    closings_from (2 ^ 128) None around inside in
    record {
      innermost = λ number low.
          let late : AllPast number (closings None around) =
          All-weaker (λ range. 2 ^ 128 ≤ range.first) (λ range. number < range.first) (λ range high. omega arith)
          (closings None around) ends in
          subst (λ some. IsInnermost some number (row_at ranges number)) all
          (subst (IsInnermost (take i blocks) number) (row_at-front ranges (closings None around) number late)
          (h.innermost number));
      rising = rising_front ranges (closings None around) h.rising;
      count = omega (arith, length-append ranges (closings None around), h.count, ap length all);
    }
