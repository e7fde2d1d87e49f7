-- Blocks are nested or apart: what their order says of two that overlap.
use Rattle.std.proofs.Common.{◌≡◌, ℕ, ◌+◌, ◌-◌, ◌*◌, ◌%◌, ◌^◌, ◌<◌, ◌≤◌, ap, sym, ◌∙◌, arith, subst, ⊎_elim}
use Rattle.std.specs.Int.{◌∣◌}
use Rattle.std.proofs.Math.Nat.{dvd_of_mod-eq-zero, dvd_trans, dvd-mul_left, dvd-add, dvd-sub, le_of_dvd}
use Rattle.std.proofs.lemmas.Bool.{cases_lt}
use Rattle.std.proofs.lemmas.Nat.{pow-add}
use Rattle.pid_prefix.specs.declared.block.Block.{Block}
use Rattle.pid_prefix.specs.Bits.{end_of}
use Rattle.pid_prefix.specs.Blocks.{IsBefore}

-- ---- multiples

-- between two multiples there is room for one size
apart : (size a b : ℕ) → size ∣ a → size ∣ b → a < b → a + size ≤ b
apart size a b p q lt =
    let gap : size ≤ b - a = le_of_dvd (omega arith) (dvd-sub size q p) in
    omega arith

-- a power of two divides the larger ones
power_divides : (i j : ℕ) → i ≤ j → 2 ^ i ∣ 2 ^ j
power_divides i j h =
    let e : 2 ^ j ≡ 2 ^ (j - i) * 2 ^ i = ap (λ k. 2 ^ k) (let s : j ≡ (j - i) + i = omega arith in
    s) ∙ pow-add 2 (j - i) i in
    subst (λ n. 2 ^ i ∣ n) (sym e) (dvd-mul_left (2 ^ i) (2 ^ (j - i)))

-- a block of numbers of 128 bits ends by their end
pub ends_by : (first len : ℕ) → first < 2 ^ 128 → first % 2 ^ (128 - len) ≡ 0 → end_of first len ≤ 2 ^ 128
ends_by first len low none =
    apart (2 ^ (128 - len)) first (2 ^ 128) (dvd_of_mod-eq-zero (2 ^ (128 - len)) none)
    (power_divides (128 - len) 128 (omega arith)) low

-- ---- two blocks in order

-- a block's first is a multiple of a longer block's size
first_divides : (block : Block) (len : ℕ) → block.len ≤ len → 2 ^ (128 - len) ∣ block.first
first_divides block len h =
    dvd_trans (2 ^ (128 - len)) (power_divides (128 - len) (128 - block.len) (omega arith))
    (dvd_of_mod-eq-zero (2 ^ (128 - block.len)) block.is_block.1)

-- where a block begins inside one before it, it has as many fixed bits or more
pub later_longer : (block other : Block) → IsBefore block other → other.first < end_of block.first block.len
    → block.len ≤ other.len
later_longer block other before inside =
    ⊎_elim
    (λ less. ⊎_elim
    (λ (shorter : other.len < block.len).
    let p : 2 ^ (128 - block.len) ∣ other.first = first_divides other block.len (omega arith) in
    let q : 2 ^ (128 - block.len) ∣ block.first = first_divides block block.len (omega arith) in
    let far : block.first + 2 ^ (128 - block.len) ≤ other.first =
    apart (2 ^ (128 - block.len)) block.first other.first q p less in
    absurd (omega arith))
    (λ h. h)
    (cases_lt other.len block.len))
    (λ same. same.1)
    before

-- and it ends inside
pub later_ends : (block other : Block) → IsBefore block other → other.first < end_of block.first block.len
    → end_of other.first other.len ≤ end_of block.first block.len
later_ends block other before inside =
    let longer : block.len ≤ other.len = later_longer block other before inside in
    let size = 2 ^ (128 - other.len) in
    let p : size ∣ other.first = first_divides other other.len (omega arith) in
    let q : size ∣ block.first = first_divides block other.len longer in
    let r : size ∣ 2 ^ (128 - block.len) = power_divides (128 - other.len) (128 - block.len) (omega arith) in
    apart size other.first (end_of block.first block.len) p (dvd-add size q r) inside
