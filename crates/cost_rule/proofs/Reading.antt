-- Reading stage by stage, byte by byte.
use Rattle.std.proofs.Common.{◌≡◌, ℕ, List, [], ◌∷◌, ◌++◌, Option, Some, None, refl, ap}
use Rattle.std.specs.Option.{option_and_then}
unfoldable pub use Rattle.cost_rule.specs.Stages.{read}
use Rattle.cost_rule.specs.Stages.{step, finish}
use Rattle.cost_rule.specs.declared.stage.Stage.{Stage}

-- the stage after the bytes
unfoldable pub walk : Stage → List ℕ → Option Stage
walk stage [] = Some stage
walk stage (byte ∷ rest) = option_and_then (λ next. walk next rest) (step stage byte)

pub read-nil : (stage : Stage) → read stage [] ≡ finish stage
unfolding read
read-nil stage = refl

-- reading on after a byte
pub read-cons : (stage next : Stage) (byte : ℕ) (rest : List ℕ) → step stage byte ≡ Some next
    → read stage (byte ∷ rest) ≡ read next rest
unfolding read
read-cons stage next byte rest e = ap (option_and_then (λ after. read after rest)) e

-- reading on after a walk
after_walk : (found : Option Stage) (front back : List ℕ)
    → ((stage : Stage) → read stage (front ++ back) ≡ option_and_then (λ next. read next back) (walk stage front))
    → option_and_then (λ next. read next (front ++ back)) found
    ≡ option_and_then (λ next. read next back) (option_and_then (λ next. walk next front) found)
after_walk None front back h = refl
after_walk (Some stage) front back h = h stage

pub read-append : (stage : Stage) (front back : List ℕ)
    → read stage (front ++ back) ≡ option_and_then (λ next. read next back) (walk stage front)
unfolding read walk
read-append stage [] back = refl
read-append stage (byte ∷ front) back = after_walk (step stage byte) front back (λ next. read-append next front back)

-- a walk goes on with the bytes that follow
walk_on : (found : Option Stage) (front back : List ℕ)
    → ((stage : Stage) → walk stage (front ++ back) ≡ option_and_then (λ next. walk next back) (walk stage front))
    → option_and_then (λ next. walk next (front ++ back)) found
    ≡ option_and_then (λ next. walk next back) (option_and_then (λ next. walk next front) found)
walk_on None front back h = refl
walk_on (Some stage) front back h = h stage

pub walk-append : (stage : Stage) (front back : List ℕ)
    → walk stage (front ++ back) ≡ option_and_then (λ next. walk next back) (walk stage front)
unfolding walk
walk-append stage [] back = refl
walk-append stage (byte ∷ front) back = walk_on (step stage byte) front back (λ next. walk-append next front back)

-- one byte more
pub walk-one : (stage : Stage) (byte : ℕ) → walk stage (byte ∷ []) ≡ step stage byte
unfolding walk
walk-one stage byte = the_same (step stage byte)
  where
    the_same : (found : Option Stage) → option_and_then (λ next. Some next) found ≡ found
    the_same None = refl
    the_same (Some next) = refl

pub walk-nil : (stage : Stage) → walk stage [] ≡ Some stage
unfolding walk
walk-nil stage = refl
