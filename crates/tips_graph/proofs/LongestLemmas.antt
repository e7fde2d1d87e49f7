-- The longest stride from a version below the last leads by an edge within the last, and no edge from there leads
-- further.
use Rattle.std.proofs.Common.{◌≡◌, ℕ, ◌+◌, ◌-◌, ◌%◌, ◌<◌, ◌≤◌, refl, arith}
use Rattle.std.proofs.lemmas.Bool.Decides.{nat_tests}
use Rattle.std.specs.Prelude.{Bool, true, false, max, filter, fold, IsTrue}
use Rattle.tips_graph.specs.Edges.{strides, is_shape, leads_within, longest_stride}
use Rattle.tips_graph.specs.Shortcuts.{IsStride}
use Rattle.tips_graph.proofs.ShortcutLemmas.{at_strides}
use Rattle.tips_graph.proofs.SpanLemmas.{IsShape}

-- the greatest stride that passes a test
record IsTop (p : ℕ → Bool) (n : ℕ) : Type 0 where
  passes : p n ≡ true
  stride : IsStride n
  top : (stride : ℕ) → IsStride stride → p stride ≡ true → stride ≤ n

-- 16 where it passes
top_16 : (p : ℕ → Bool) → p 16 ≡ true → IsTop p 16
top_16 p sixteen = record {
  passes = sixteen;
  stride = refl;
  top = at_strides (λ stride. p stride ≡ true → stride ≤ 16) (λ h. omega arith) (λ h. omega arith) (λ h. omega arith)
      (λ h. omega arith) (λ h. omega arith);
}

-- 8 where 16 fails
top_8 : (p : ℕ → Bool) → p 8 ≡ true → p 16 ≡ false → IsTop p 8
top_8 p eight sixteen = record {
  passes = eight;
  stride = refl;
  top = at_strides (λ stride. p stride ≡ true → stride ≤ 8) (λ h. omega arith) (λ h. omega arith) (λ h. omega arith)
      (λ h. omega arith) (λ h. cc);
}

-- 4 where the greater fail
top_4 : (p : ℕ → Bool) → p 4 ≡ true → p 8 ≡ false → p 16 ≡ false → IsTop p 4
top_4 p four eight sixteen = record {
  passes = four;
  stride = refl;
  top = at_strides (λ stride. p stride ≡ true → stride ≤ 4) (λ h. omega arith) (λ h. omega arith) (λ h. omega arith)
      (λ h. cc) (λ h. cc);
}

-- 2 where the greater fail
top_2 : (p : ℕ → Bool) → p 2 ≡ true → p 4 ≡ false → p 8 ≡ false → p 16 ≡ false → IsTop p 2
top_2 p two four eight sixteen = record {
  passes = two;
  stride = refl;
  top = at_strides (λ stride. p stride ≡ true
      → stride ≤ 2) (λ h. omega arith) (λ h. omega arith) (λ h. cc) (λ h. cc) (λ h. cc);
}

-- 1 where all others fail
top_1 : (p : ℕ → Bool) → p 1 ≡ true → p 2 ≡ false → p 4 ≡ false → p 8 ≡ false → p 16 ≡ false → IsTop p 1
top_1 p one two four eight sixteen = record {
  passes = one;
  stride = refl;
  top = at_strides (λ stride. p stride ≡ true → stride ≤ 1) (λ h. omega arith) (λ h. cc) (λ h. cc) (λ h. cc) (λ h. cc);
}

-- the greatest of the strides that pass a test
top_is : (p : ℕ → Bool) → p 1 ≡ true → IsTop p (fold (λ longest stride. max longest stride) 0 (filter p strides))
top_is p one = by (p 2) (p 4) (p 8) (p 16) refl refl refl refl
  where
    by : (two four eight sixteen : Bool) → p 2 ≡ two → p 4 ≡ four → p 8 ≡ eight → p 16 ≡ sixteen
        → IsTop p (fold (λ longest stride. max longest stride) 0 (filter p strides))
    by true true true true b c d e = rw (one, b, c, d, e) (top_16 p e)
    by true true false true b c d e = rw (one, b, c, d, e) (top_16 p e)
    by true false true true b c d e = rw (one, b, c, d, e) (top_16 p e)
    by true false false true b c d e = rw (one, b, c, d, e) (top_16 p e)
    by false true true true b c d e = rw (one, b, c, d, e) (top_16 p e)
    by false true false true b c d e = rw (one, b, c, d, e) (top_16 p e)
    by false false true true b c d e = rw (one, b, c, d, e) (top_16 p e)
    by false false false true b c d e = rw (one, b, c, d, e) (top_16 p e)
    by true true true false b c d e = rw (one, b, c, d, e) (top_8 p d e)
    by true false true false b c d e = rw (one, b, c, d, e) (top_8 p d e)
    by false true true false b c d e = rw (one, b, c, d, e) (top_8 p d e)
    by false false true false b c d e = rw (one, b, c, d, e) (top_8 p d e)
    by true true false false b c d e = rw (one, b, c, d, e) (top_4 p c d e)
    by false true false false b c d e = rw (one, b, c, d, e) (top_4 p c d e)
    by true false false false b c d e = rw (one, b, c, d, e) (top_2 p b c d e)
    by false false false false b c d e = rw (one, b, c, d, e) (top_1 p one b c d e)

-- a stride from a version that leads within the last, and than which no edge leads further
pub record IsLongest (last i n : ℕ) : Type 0 where
  pub stride : IsStride n
  pub divides : i % n ≡ 0
  pub within : i + n ≤ last
  pub longest : (j : ℕ) → IsShape i j → j ≤ last → j ≤ i + n

-- a stride that divides a version divides where it leads from
start_divides : (i j : ℕ) → IsShape i j → i % (j - i) ≡ 0
start_divides i j shape = at_strides (λ stride. j ≡ i + stride → j % stride ≡ 0 → i % stride ≡ 0)
    (λ e h. omega arith) (λ e h. omega arith) (λ e h. omega arith) (λ e h. omega arith) (λ e h. omega arith)
    (j - i) shape.stride (omega (arith, shape.onward)) shape.divides

-- what a test of a stride says
leads_is : (last i stride : ℕ) → leads_within last i stride ≡ true → (i % stride ≡ 0) × (i + stride ≤ last)
leads_is last i stride leads = (grind (arith, nat_tests), grind (arith, nat_tests))

-- and what makes it pass
is_leads : (last i stride : ℕ) → i % stride ≡ 0 → i + stride ≤ last → leads_within last i stride ≡ true
is_leads last i stride divides within = grind (arith, nat_tests)

-- the longest stride is one
pub longest_is : (last i : ℕ) → i < last → IsLongest last i (longest_stride last i)
longest_is last i below =
    let top : IsTop (leads_within last i) (longest_stride last i) =
    top_is (leads_within last i) (is_leads last i 1 (omega arith) (omega arith)) in
    let leads : (i % longest_stride last i ≡ 0) × (i + longest_stride last i ≤ last) =
    leads_is last i (longest_stride last i) top.passes in
    record {
      stride = top.stride;
      divides = leads.0;
      within = leads.1;
      longest = λ (j : ℕ) shape within.
          let onward : i < j = shape.onward in
          let less : j - i ≤ longest_stride last i =
          top.top (j - i) shape.stride (is_leads last i (j - i) (start_divides i j shape) (omega arith)) in
          omega arith;
    }

-- a stride from a version that it divides is an edge
pub stride_shape : (i stride : ℕ) → 0 < i → IsStride stride → i % stride ≡ 0 → IsTrue (is_shape i (i + stride))
stride_shape i stride some = at_strides (λ stride. i % stride ≡ 0 → IsTrue (is_shape i (i + stride)))
    (λ h. grind (arith, nat_tests)) (λ h. grind (arith, nat_tests)) (λ h. grind (arith, nat_tests))
    (λ h. grind (arith, nat_tests)) (λ h. grind (arith, nat_tests))
    stride

-- and so is each step
pub next_shape : (i : ℕ) → 0 < i → IsTrue (is_shape i (i + 1))
next_shape i some = stride_shape i 1 some refl (omega arith)
