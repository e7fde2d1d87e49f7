-- What a text may still hold at each stage, so that the whole spells a constraint.
use Rattle.std.proofs.Common.{◌≡◌, ℕ, ◌-◌, ◌≤◌, List, ◌∷◌, ◌++◌, length, Option, Some, IsTrue}
use Rattle.std.specs.List.{list_all}
use Rattle.std.specs.Char.{is_ascii_digit}
use Rattle.cost_rule.specs.Grammar.{AreBlanks, AreDigits, IsFraction, Spells, fraction_text, is_blank, number_of, word}
use Rattle.cost_rule.specs.Stages.{finish}
use Rattle.cost_rule.specs.declared.constraint.Constraint.{Constraint}
use Rattle.cost_rule.specs.declared.constraint.Relation.{Relation}
use Rattle.cost_rule.specs.declared.digits.Digits.{Digits}
use Rattle.cost_rule.specs.declared.stage.Stage.{Stage}
use Rattle.cost_rule.specs.declared.stage.Stage.TheVariants.{Start, Bracket, Index, Closed, Spaced, Greater, Less}
use Rattle.cost_rule.specs.declared.stage.Stage.TheVariants.{Equal, Related, Apart, Whole, Point, Fraction}
use Rattle.cost_rule.proofs.DigitLemmas.{extended}
use Rattle.cost_rule.proofs.Complete.{made}

-- only blanks, or nothing
abbrev pub OnlyBlanks : List ℕ → Type 0
OnlyBlanks text = IsTrue (list_all is_blank text)

-- further digits of a fraction
pub record FractionRest (index : Option ℕ) (relation : Relation) (whole : ℕ) (digits : Digits) (text : List ℕ)
    (constraint : Constraint) : Type 0 where
  pub all : IsTrue (list_all is_ascii_digit text)
  pub few : length text ≤ 6 - digits.count
  pub value : finish (Fraction index relation whole (extended digits text)) ≡ Some constraint

-- all digits of a fraction
pub record PointRest (index : Option ℕ) (relation : Relation) (whole : ℕ) (text : List ℕ)
    (constraint : Constraint) : Type 0 where
  pub are : AreDigits 6 text
  pub value : made index relation whole (Some text) ≡ constraint

-- further digits of the whole part, and a fraction
pub record WholeRest (index : Option ℕ) (relation : Relation) (digits : Digits) (text : List ℕ)
    (constraint : Constraint) : Type 0 where
  pub further : List ℕ
  pub fraction : Option (List ℕ)
  pub all : IsTrue (list_all is_ascii_digit further)
  pub few : length further ≤ 16 - digits.count
  pub is : IsFraction fraction
  pub prints : further ++ fraction_text fraction ≡ text
  pub value : made index relation (extended digits further).number fraction ≡ constraint

-- blanks of this form, and the bound
pub record BoundRest (AreGood : List ℕ → Type 0) (index : Option ℕ) (relation : Relation) (text : List ℕ)
    (constraint : Constraint) : Type 0 where
  pub blanks : List ℕ
  pub whole : List ℕ
  pub fraction : Option (List ℕ)
  pub good : AreGood blanks
  pub are : AreDigits 16 whole
  pub is : IsFraction fraction
  pub prints : blanks ++ (whole ++ fraction_text fraction) ≡ text
  pub value : made index relation (number_of whole) fraction ≡ constraint

-- a word and the bound
pub record WordRest (index : Option ℕ) (text : List ℕ) (constraint : Constraint) : Type 0 where
  pub relation : Relation
  pub rest : List ℕ
  pub prints : word relation ++ rest ≡ text
  pub bound : BoundRest AreBlanks index relation rest constraint

-- blanks of this form, a word and the bound
pub record SpacedRest (AreGood : List ℕ → Type 0) (index : ℕ) (text : List ℕ) (constraint : Constraint) : Type 0 where
  pub blanks : List ℕ
  pub rest : List ℕ
  pub good : AreGood blanks
  pub prints : blanks ++ rest ≡ text
  pub worded : WordRest (Some index) rest constraint

-- digits of this form, which make this index, and all after them
pub record IndexRest (AreGood : List ℕ → Type 0) (index : List ℕ
    → ℕ) (text : List ℕ) (constraint : Constraint) : Type 0 where
  pub further : List ℕ
  pub rest : List ℕ
  pub good : AreGood further
  pub prints : further ++ 93 ∷ rest ≡ text
  pub closed : SpacedRest AreBlanks (index further) rest constraint

-- so few further digits of an index
pub record AreFurther (digits : Digits) (text : List ℕ) : Type 0 where
  pub all : IsTrue (list_all is_ascii_digit text)
  pub few : length text ≤ 2 - digits.count

-- at each stage, the text completes the constraint
abbrev pub Completes : Stage → List ℕ → Constraint → Type 0
Completes Start text constraint = Spells text constraint
Completes Bracket text constraint = IndexRest (AreDigits 2) number_of text constraint
Completes (Index digits) text constraint =
    IndexRest (AreFurther digits) (λ further. (extended digits further).number) text constraint
Completes (Closed index) text constraint = SpacedRest AreBlanks index text constraint
Completes (Spaced index) text constraint = SpacedRest OnlyBlanks index text constraint
Completes (Greater index) text constraint = WordRest index (103 ∷ text) constraint
Completes (Less index) text constraint = WordRest index (108 ∷ text) constraint
Completes (Equal index) text constraint = WordRest index (101 ∷ text) constraint
Completes (Related index relation) text constraint = BoundRest AreBlanks index relation text constraint
Completes (Apart index relation) text constraint = BoundRest OnlyBlanks index relation text constraint
Completes (Whole index relation digits) text constraint = WholeRest index relation digits text constraint
Completes (Point index relation whole) text constraint = PointRest index relation whole text constraint
Completes (Fraction index relation whole digits) text constraint =
    FractionRest index relation whole digits text constraint
