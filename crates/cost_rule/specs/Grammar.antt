-- The text of a constraint: a tree, what it prints to, and the constraint that it stands for.
use Rattle.std.specs.Prelude.{◌≡◌, ℕ, ◌+◌, ◌-◌, ◌*◌, ◌^◌, ◌<◌, ◌≤◌, Bool, ◌==◌, ◌||◌, IsTrue, List, [], ◌∷◌, ◌++◌}
use Rattle.std.specs.Prelude.{length, Option, Some, None, IfSome, option_map, codes}
use Rattle.std.specs.List.{list_all}
use Rattle.std.specs.Char.{is_ascii_digit}
use Rattle.cost_rule.specs.declared.constraint.Constraint.{Constraint}
use Rattle.cost_rule.specs.declared.constraint.Relation.{Relation}
use Rattle.cost_rule.specs.declared.constraint.Relation.TheVariants.{Gt, Lt, Ge, Le, Eq}

-- a space or a tab
abbrev pub is_blank : ℕ → Bool
is_blank byte = byte == 32 || byte == 9

-- one or more blanks
pub record AreBlanks (text : List ℕ) : Type 0 where
  pub blanks : IsTrue (list_all is_blank text)
  pub some : 0 < length text

-- one or more digits, and at most so many
pub record AreDigits (most : ℕ) (text : List ℕ) : Type 0 where
  pub digits : IsTrue (list_all is_ascii_digit text)
  pub some : 0 < length text
  pub few : length text ≤ most

-- the number that digits write where they follow those of another number
abbrev pub number_after : ℕ → List ℕ → ℕ
number_after before [] = before
number_after before (digit ∷ digits) = number_after (before * 10 + (digit - 48)) digits

-- the number that digits write
abbrev pub number_of : List ℕ → ℕ
number_of digits = number_after 0 digits

-- the index of a constraint: its digits, and the blanks after the brackets
pub record IndexPart : Type 0 where
  pub digits : List ℕ
  pub blanks : List ℕ

-- the parts of a constraint's text
pub record Parts : Type 0 where
  pub index : Option IndexPart
  pub relation : Relation
  pub blanks : List ℕ
  pub whole : List ℕ
  pub fraction : Option (List ℕ)

-- the word of a relation
abbrev pub word : Relation → List ℕ
word Gt = codes "gt"
word Lt = codes "lt"
word Ge = codes "ge"
word Le = codes "le"
word Eq = codes "eq"

-- an index as it is printed
abbrev pub index_text : Option IndexPart → List ℕ
index_text None = []
index_text (Some index) = codes "[" ++ (index.digits ++ (codes "]" ++ index.blanks))

-- a fraction as it is printed
abbrev pub fraction_text : Option (List ℕ) → List ℕ
fraction_text None = []
fraction_text (Some digits) = codes "." ++ digits

-- the text that the parts print to
abbrev pub printed : Parts → List ℕ
printed parts =
    index_text parts.index
    ++ (word parts.relation ++ (parts.blanks ++ (parts.whole ++ fraction_text parts.fraction)))

-- an index in brackets has 1 to 2 digits
abbrev pub IsIndex : Option IndexPart → Type 0
IsIndex index = IfSome index (λ part. AreDigits 2 part.digits × AreBlanks part.blanks)

-- a fraction has 1 to 6 digits
abbrev pub IsFraction : Option (List ℕ) → Type 0
IsFraction fraction = IfSome fraction (AreDigits 6)

-- the parts are in form
pub record AreInForm (parts : Parts) : Type 0 where
  pub index : IsIndex parts.index
  pub blanks : AreBlanks parts.blanks
  pub whole : AreDigits 16 parts.whole
  pub fraction : IsFraction parts.fraction

-- the millionths of a whole number and a fraction's digits
abbrev pub millionths_of : ℕ → Option (List ℕ) → ℕ
millionths_of whole None = whole * 1_000_000
millionths_of whole (Some digits) = whole * 1_000_000 + number_of digits * 10 ^ (6 - length digits)

-- the constraint that the parts stand for
abbrev pub constraint_of : Parts → Constraint
constraint_of parts = record {
  index = option_map (λ part. number_of part.digits) parts.index;
  relation = parts.relation;
  millionths = millionths_of (number_of parts.whole) parts.fraction;
}

-- the text spells the constraint
pub record Spells (text : List ℕ) (constraint : Constraint) : Type 0 where
  pub parts : Parts
  pub in_form : AreInForm parts
  pub prints : printed parts ≡ text
  pub value : constraint_of parts ≡ constraint
