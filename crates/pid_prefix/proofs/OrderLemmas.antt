-- Sorted blocks are in the order of a sweep.
use Rattle.std.proofs.Common.{◌≡◌, ◌<◌, sym, arith, rules, refl, subst, get_or, ⊎_elim, inl, inr}
use Rattle.std.proofs.Math.Path.{fun_ext}
use Rattle.std.proofs.lemmas.Bool.{cases_lt, cases_order, both_ways, eq-eqb, le-ltb, lt-ltb}
use Rattle.std.proofs.lemmas.List.Sorted.{ranks_by, sorted_far}
use Rattle.std.specs.Prelude.{List, false}
use Rattle.std.specs.Cmp.{IsTotalOrder}
use Rattle.std.specs.Cmp.Rules.{comparing}
use Rattle.std.specs.List.Sorted.{IsSorted}
use Rattle.std.specs.Ordering.{is_lt, nat_cmp, on, then_cmp}
use Rattle.std.specs.declared.cmp.Ordering.{Ordering}
use Rattle.pid_prefix.specs.contracts.block.BlockOrd.TheImpl as block_order
use Rattle.pid_prefix.specs.declared.block.Block.{Block}
use Rattle.pid_prefix.specs.Blocks.{AreOrdered, IsBefore}

-- blocks by their firsts, then by length, then by row
abbrev in_parts : Block → Block → Ordering
in_parts = then_cmp (on (λ b. b.first) nat_cmp) (then_cmp (on (λ b. b.len) nat_cmp) (on (λ b. b.row) nat_cmp))

in_parts_total : IsTotalOrder in_parts
in_parts_total = search (comparing, rules)

-- the derived comparison goes by these parts
in_parts-derived : (a b : Block) → in_parts a b ≡ block_order.cmp-value.it a b
in_parts-derived a b = search rules

-- a block that isn't behind another is before it
before_from : (block other : Block) → is_lt (in_parts other block) ≡ false → IsBefore block other
before_from block other h =
    ⊎_elim
    (λ same. ⊎_elim
    (λ (less : other.len < block.len).
    absurd (both_ways (is_lt (in_parts other block))
    h (rw (
      le-ltb other.first block.first (omega arith),
      eq-eqb other.first block.first (sym same),
      lt-ltb other.len block.len less,
    ) refl)))
    (λ most. inr (same, most))
    (cases_lt other.len block.len))
    (λ apart. ⊎_elim
    (λ less. inl less)
    (λ (less : other.first < block.first).
    absurd (both_ways (is_lt (in_parts other block)) h (rw (lt-ltb other.first block.first less) refl)))
    apart)
    (cases_order block.first other.first)

-- so sorted blocks are ordered
pub ordered_from_sorted : (blocks : List Block) → IsSorted block_order.cmp-value.it blocks → AreOrdered blocks
ordered_from_sorted blocks sorted =
    let same : in_parts ≡ block_order.cmp-value.it = fun_ext (λ a. fun_ext (λ b. in_parts-derived a b)) in
    let in_order : IsSorted in_parts blocks =
    subst (λ (R : Block → Block → Ordering). IsSorted R blocks) (sym same) sorted in
    λ i j d lt below. before_from (get_or blocks i d) (get_or blocks j d)
    (sorted_far (λ x y. is_lt (in_parts x y)) (ranks_by in_parts_total (λ (b : Block). b)) blocks in_order i j
    d (omega arith) below)
