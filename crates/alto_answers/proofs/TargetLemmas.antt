-- A text without a percent sign has no escape, nor has a segment of it; and the segments of a path, one after another.
use Rattle.std.proofs.Common.{◌≡◌, ◌∙◌, ◌==◌, ◌+◌, ℕ, zero, suc, Bool, true, false, cond, List, [], ◌∷◌, ◌++◌}
use Rattle.std.proofs.Common.{Option, Some, None, Bor, unwrap_or, refl, ap, sym, subst, arith, eq-eqb, length-append}
use Rattle.std.proofs.lemmas.Bool.{or_parts, false≢true}
use Rattle.std.proofs.lemmas.Iterator.{YieldsList}
use Rattle.std.proofs.lemmas.Iterator.Consumers.{nth_from_yields_List}
use Rattle.std.specs.Iterator.{SkipsThenYields, Yields}
use Rattle.std.specs.List.{list_any, onto_first, slice_get, slice_split}
use Rattle.std.specs.Option.{option_map}
use Rattle.percent_encoding.specs.Percent.{percent_decode}
use Rattle.alto_answers.specs.Target.{raw_segment, slash}
use Rattle.percent_encoding.proofs.PercentLemmas.{percent_decode-nil, KeepsFirst_from_no_escape}

pub decoded_same : (bytes : List ℕ) → list_any (λ b. b == 37) bytes ≡ false → percent_decode bytes ≡ bytes
decoded_same [] none = percent_decode-nil
decoded_same (b ∷ bytes) none =
    let both = or_parts (b == 37) (list_any (λ b. b == 37) bytes) none in
    KeepsFirst_from_no_escape (b ∷ bytes)
    (λ long percent high low. absurd (false≢true (sym both.0 ∙ eq-eqb b 37 percent)))
    ∙ ap (λ xs. b ∷ xs) (decoded_same bytes both.1)

-- ---- the segments of a path without a percent sign

has_percent : List ℕ → Bool
has_percent text = list_any (λ b. b == 37) text

more_parts : (cut : Bool) (b : ℕ) (parts : List (List ℕ)) → (b == 37) ≡ false
    → ((n : ℕ) → has_percent (unwrap_or (slice_get parts n) []) ≡ false)
    → (n : ℕ) → has_percent (unwrap_or (slice_get (cond cut ([] ∷ parts) (onto_first b parts)) n) []) ≡ false
unfolding has_percent
more_parts true b parts other none zero = refl
more_parts true b parts other none (suc n) = none n
more_parts false b [] other none zero = rw other refl
more_parts false b [] other none (suc n) = refl
more_parts false b (part ∷ parts) other none zero = rw other (none zero)
more_parts false b (part ∷ parts) other none (suc n) = none (suc n)

pub segments_plain : (path : List ℕ) → list_any (λ b. b == 37) path ≡ false
    → (n : ℕ) → list_any (λ b. b == 37) (raw_segment path n) ≡ false
unfolding has_percent
segments_plain [] none zero = refl
segments_plain [] none (suc n) = refl
segments_plain (b ∷ path) none n =
    let both = or_parts (b == 37) (list_any (λ b. b == 37) path) none in
    more_parts (b == slash) b (slice_split (λ b. b == slash) path) both.0 (segments_plain path both.1) n

-- ---- one after another

pub now-unwrap_or : (o : Option (Bor (List ℕ))) (d : Bor (List ℕ))
    → (unwrap_or o d).now ≡ unwrap_or (option_map (λ x. x.now) o) d.now
now-unwrap_or None d = refl
now-unwrap_or (Some x) d = refl

-- behind a place that a list hasn't, there is none
pub none_behind : {X : Type 0} (xs : List X) (n : ℕ) → slice_get xs n ≡ None → slice_get xs (n + 1) ≡ None
none_behind [] n none = refl
none_behind (x ∷ xs) zero none = cc
none_behind (x ∷ xs) (suc n) none =
    let next : suc n + 1 ≡ suc (n + 1) = omega arith in
    rw next (none_behind xs n none)

yields_more : {S A : Type 0} (steps : S → Option A → S → Type 0) (xs : List A) (x : A) (s t u : S)
    → Yields steps s xs t → steps t (Some x) u → Yields steps s (xs ++ x ∷ []) u
yields_more steps [] x s t u none step = subst (λ k. Yields steps k (x ∷ []) u) (sym none) (u, step, refl)
yields_more steps (y ∷ xs) x s t u some step = (some.0, some.1, yields_more steps xs x some.0 t u some.2 step)

-- what an iterator gives behind the nth
pub next_from_yields : {S A B : Type 0} {steps : S → Option A → S → Type 0} {v : A → B} {s : S} {all : List B}
    (x : A) (u : S) (r : Option A) (w : S) (n : ℕ) → SkipsThenYields steps s n (Some x) u → steps u r w
    → YieldsList steps v s all → option_map v r ≡ slice_get all (n + 1)
next_from_yields {steps = steps} {s = s} x u None w n skipped step listed =
    nth_from_yields_List None w (n + 1) (
      skipped.0 ++ x ∷ [],
      (u, yields_more steps skipped.0 x s skipped.1.0 u skipped.1.1 skipped.1.2, step),
      omega (arith, skipped.2, length-append skipped.0 (x ∷ [])),
    ) listed
next_from_yields {steps = steps} {s = s} x u (Some y) w n skipped step listed =
    nth_from_yields_List (Some y) w (n + 1) (
      skipped.0 ++ x ∷ [],
      (u, yields_more steps skipped.0 x s skipped.1.0 u skipped.1.1 skipped.1.2, step),
      omega (arith, skipped.2, length-append skipped.0 (x ∷ [])),
    ) listed
