-- A stage is reached by the beginnings of constraints, and by no other bytes.
use Rattle.std.proofs.Common.{◌≡◌, ◌∙◌, ℕ, ◌+◌, ◌<◌, ◌≤◌, ◌⊎◌, inl, inr, List, [], ◌∷◌, ◌++◌, length, take, drop}
use Rattle.std.proofs.Common.{get_or, Option, Some, None, IsSome, IfOk, IfErr, Ok, codes, refl, sym, ap, subst, arith}
use Rattle.std.specs.Option.{option_and_then, ok_or}
use Rattle.std.proofs.lemmas.Bool.{cases_lt}
use Rattle.std.proofs.lemmas.List.{append-nil, take_more, take-append-drop, take-take, take_all}
use Rattle.std.proofs.lemmas.Option.{none-some}
use Rattle.cost_rule.specs.Beginning.{BeginsConstraint, IsFaultOf, IsLongestBeginning}
use Rattle.cost_rule.specs.Grammar.{Spells}
use Rattle.cost_rule.specs.Stages.{finish, step}
use Rattle.cost_rule.specs.declared.constraint.Constraint.{Constraint}
use Rattle.cost_rule.specs.declared.fault.ConstraintFault.{ConstraintFault}
use Rattle.cost_rule.specs.declared.fault.ConstraintFault.TheVariants.{BadAt}
use Rattle.cost_rule.specs.declared.stage.Stage.{Stage}
use Rattle.cost_rule.specs.declared.stage.Stage.TheVariants.{Start, Bracket, Index, Closed, Spaced, Greater, Less}
use Rattle.cost_rule.specs.declared.stage.Stage.TheVariants.{Equal, Related, Apart, Whole, Point, Fraction}
use Rattle.cost_rule.proofs.Complete.{read-spelled}
use Rattle.cost_rule.proofs.Reading.{read, read-append, read-nil, walk, walk-append, walk-one}
use Rattle.cost_rule.proofs.Sound.{spelled-read}

-- an ending for each stage
abbrev ending : Stage → List ℕ
ending Start = codes "gt 0"
ending Bracket = codes "0] gt 0"
ending (Index digits) = codes "] gt 0"
ending (Closed index) = codes " gt 0"
ending (Spaced index) = codes "gt 0"
ending (Greater index) = codes "t 0"
ending (Less index) = codes "t 0"
ending (Equal index) = codes "q 0"
ending (Related index relation) = codes " 0"
ending (Apart index relation) = codes "0"
ending (Whole index relation digits) = []
ending (Point index relation whole) = codes "0"
ending (Fraction index relation whole digits) = []

-- it makes a constraint
ends : (stage : Stage) → IsSome (read stage (ending stage))
unfolding read
ends Start = refl
ends Bracket = refl
ends (Index digits) = refl
ends (Closed index) = refl
ends (Spaced index) = refl
ends (Greater index) = refl
ends (Less index) = refl
ends (Equal index) = refl
ends (Related index relation) = refl
ends (Apart index relation) = refl
ends (Whole index relation digits) = refl
ends (Point index relation whole) = refl
ends (Fraction index relation whole digits) = refl

some_value : (found : Option Constraint) → IsSome found → (constraint : Constraint) × (found ≡ Some constraint)
some_value None h = cc
some_value (Some constraint) h = (constraint, refl)

-- bytes that reach a stage begin a constraint
pub begins-walked : (text : List ℕ) (stage : Stage) → walk Start text ≡ Some stage → BeginsConstraint text
begins-walked text stage walked =
    let found = some_value (read stage (ending stage)) (ends stage) in
    record {
      rest = ending stage;
      constraint = found.0;
      spells = spelled-read (text ++ ending stage) found.0
          (read-append Start text (ending stage) ∙ ap (option_and_then (λ next. read next (ending stage)))
          walked ∙ found.1);
    }

-- bytes that reach none don't
pub begins-stuck : (text : List ℕ) → BeginsConstraint text → walk Start text ≡ None → ⊥
begins-stuck text begins stuck =
    none-some begins.constraint
    (sym (ap (option_and_then (λ next. read next begins.rest)) stuck)
    ∙ sym (read-append Start text begins.rest)
    ∙ read-spelled (text ++ begins.rest) begins.constraint begins.spells)

-- a text begins what it spells
pub begins-spelled : (text : List ℕ) (constraint : Constraint) → Spells text constraint
    → BeginsConstraint (take (length text) text)
begins-spelled text constraint spelled =
    let P : List ℕ → Type 0 = λ bytes. Spells bytes constraint in
    record {
      rest = [];
      constraint = constraint;
      spells = subst P (sym (append-nil (take (length text) text) ∙ take_all (length text) text (omega arith))) spelled;
    }

module _ (text : List ℕ) (place : ℕ) (stage : Stage) (inside : place < length text)
    (walked : walk Start (take place text) ≡ Some stage) (stuck : step stage (get_or text place 0) ≡ None) where
  stuck_here : walk Start (take (place + 1) text) ≡ None
  stuck_here =
      ap (walk Start) (take_more text place 0 inside)
      ∙ walk-append Start (take place text) (get_or text place 0 ∷ [])
      ∙ ap (option_and_then (λ next. walk next (get_or text place 0 ∷ []))) walked
      ∙ walk-one stage (get_or text place 0)
      ∙ stuck

  stuck_later : (more : ℕ) → place < more → walk Start (take more text) ≡ None
  stuck_later more beyond =
      let first : take (place + 1) (take more text) ≡ take (place + 1) text =
      take-take (place + 1) more text (omega arith) in
      ap (walk Start) (sym (take-append-drop (place + 1) (take more text)))
      ∙ walk-append Start (take (place + 1) (take more text)) (drop (place + 1) (take more text))
      ∙ ap (λ front. option_and_then (λ next. walk next (drop (place + 1) (take more text))) (walk Start front)) first
      ∙ ap (option_and_then (λ next. walk next (drop (place + 1) (take more text)))) stuck_here

  no_more : (more : ℕ) → BeginsConstraint (take more text) → (place < more) ⊎ (more ≤ place) → more ≤ place
  no_more more begins (inl beyond) = absurd (begins-stuck (take more text) begins (stuck_later more beyond))
  no_more more begins (inr within) = within

  -- where no stage follows, the bytes so far are the longest beginning
  pub longest-stuck : IsLongestBeginning text place
  longest-stuck = record {
    within = omega arith;
    begins = begins-walked (take place text) stage walked;
    longest = λ more within begins. no_more more begins (cases_lt place more);
  }

  -- and the text spells nothing
  pub spells-stuck : (constraint : Constraint) → Spells text constraint → ⊥
  spells-stuck constraint spelled =
      let beyond : length text ≤ place =
      longest-stuck.longest (length text) (omega arith) (begins-spelled text constraint spelled) in
      omega arith

-- a stage after all bytes is that after the text
pub walked-all : (text : List ℕ) (place : ℕ) (stage : Stage) → length text ≤ place
    → walk Start (take place text) ≡ Some stage
    → walk Start text ≡ Some stage
walked-all text place stage past walked = ap (walk Start) (sym (take_all place text past)) ∙ walked

module _ (text : List ℕ) (stage : Stage) (walked : walk Start text ≡ Some stage) where
  reads : read Start text ≡ finish stage
  reads =
      ap (read Start) (sym (append-nil text))
      ∙ read-append Start text []
      ∙ ap (option_and_then (λ next. read next [])) walked
      ∙ read-nil stage

  -- what the last stage gives is what the text spells
  pub ok-end : (found : Option Constraint) (fault : ConstraintFault) → found ≡ finish stage
      → IfOk (ok_or found fault) (Spells text)
  ok-end None fault e = tt
  ok-end (Some constraint) fault e = spelled-read text constraint (reads ∙ sym e)

  pub only-end : (found : Option Constraint) (fault : ConstraintFault) → found ≡ finish stage
      → (constraint : Constraint) → Spells text constraint → ok_or found fault ≡ Ok constraint
  only-end found fault e constraint spelled =
      ap (λ result. ok_or result fault) (e ∙ sym reads ∙ read-spelled text constraint spelled)

  -- the whole text begins a constraint
  pub longest-end : IsLongestBeginning text (length text)
  longest-end =
      let P : List ℕ → Type 0 = BeginsConstraint in
      record {
        within = omega arith;
        begins = subst P (sym (take_all (length text) text (omega arith))) (begins-walked text stage walked);
        longest = λ more within begins. within;
      }

  pub err-end : (found : Option Constraint) → IfErr (ok_or found (BadAt (length text))) (IsFaultOf text)
  err-end None = longest-end
  err-end (Some constraint) = tt
