-- The stages in which a constraint is read byte by byte, and what that comes to. The calls of the crate are held to the
-- grammar, not to these.
use Rattle.std.specs.Prelude.{ℕ, ◌+◌, ◌-◌, ◌*◌, ◌^◌, ◌<◌, ◌≤◌, ◌==◌, nat_lt, List, [], ◌∷◌, Option, Some, None}
use Rattle.std.specs.Prelude.{option_and_then, option_map, if◌then◌else◌}
use Rattle.std.specs.Char.{is_ascii_digit}
use Rattle.cost_rule.specs.Grammar.{is_blank}
use Rattle.cost_rule.specs.declared.constraint.Constraint.{Constraint}
use Rattle.cost_rule.specs.declared.constraint.Relation.{Relation}
use Rattle.cost_rule.specs.declared.constraint.Relation.TheVariants.{Gt, Lt, Ge, Le, Eq}
use Rattle.cost_rule.specs.declared.digits.Digits.{Digits}
use Rattle.cost_rule.specs.declared.stage.Stage.{Stage}
use Rattle.cost_rule.specs.declared.stage.Stage.TheVariants.{Start, Bracket, Index, Closed, Spaced, Greater, Less}
use Rattle.cost_rule.specs.declared.stage.Stage.TheVariants.{Equal, Related, Apart, Whole, Point, Fraction}

-- no digits yet
abbrev pub no_digits : Digits
no_digits = record { count = 0; number = 0 }

-- the digits and one more
abbrev pub pushed : Digits → ℕ → Digits
pushed digits byte = record { count = digits.count + 1; number = digits.number * 10 + (byte - 48) }

-- the digits and this byte, if it is a digit and fewer than so many were there
abbrev pub more : ℕ → Digits → ℕ → Option Digits
more most digits byte =
    if is_ascii_digit byte
    then (if nat_lt digits.count most then Some (pushed digits byte) else None)
    else None

-- after the first byte of a relation's word
abbrev pub first_letter : Option ℕ → ℕ → Option Stage
first_letter index byte =
    if byte == 103 then Some (Greater index)
    else (if byte == 108 then Some (Less index)
    else (if byte == 101 then Some (Equal index) else None))

-- after the second byte of a relation's word, which is `t` for the strict relation and `e` for the wide one
abbrev pub second_letter : Option ℕ → ℕ → Relation → Relation → Option Stage
second_letter index byte strict wide =
    if byte == 116 then Some (Related index strict)
    else (if byte == 101 then Some (Related index wide) else None)

-- after one more byte
abbrev pub step : Stage → ℕ → Option Stage
step Start byte = if byte == 91 then Some Bracket else first_letter None byte
step Bracket byte = option_map Index (more 2 no_digits byte)
step (Index digits) byte = if byte == 93 then Some (Closed digits.number) else option_map Index (more 2 digits byte)
step (Closed index) byte = if is_blank byte then Some (Spaced index) else None
step (Spaced index) byte = if is_blank byte then Some (Spaced index) else first_letter (Some index) byte
step (Greater index) byte = second_letter index byte Gt Ge
step (Less index) byte = second_letter index byte Lt Le
step (Equal index) byte = if byte == 113 then Some (Related index Eq) else None
step (Related index relation) byte = if is_blank byte then Some (Apart index relation) else None
step (Apart index relation) byte =
    if is_blank byte then Some (Apart index relation)
    else option_map (Whole index relation) (more 16 no_digits byte)
step (Whole index relation digits) byte =
    if byte == 46 then Some (Point index relation digits.number)
    else option_map (Whole index relation) (more 16 digits byte)
step (Point index relation whole) byte = option_map (Fraction index relation whole) (more 6 no_digits byte)
step (Fraction index relation whole digits) byte = option_map (Fraction index relation whole) (more 6 digits byte)

-- the constraint of a text that ends here
abbrev pub finish : Stage → Option Constraint
finish (Whole index relation digits) =
    Some (record { index = index; relation = relation; millionths = digits.number * 1_000_000 })
finish (Fraction index relation whole digits) =
    Some (record {
      index = index;
      relation = relation;
      millionths = whole * 1_000_000 + digits.number * 10 ^ (6 - digits.count);
    })
finish _ = None

-- the constraint of the bytes that are left
unfoldable pub read : Stage → List ℕ → Option Constraint
read stage [] = finish stage
read stage (byte ∷ rest) = option_and_then (λ next. read next rest) (step stage byte)

-- the constraint that a text spells: by a law of this crate exactly that of the grammar
abbrev pub spelled : List ℕ → Option Constraint
spelled text = read Start text

-- the number has no more digits than were counted, at most so many
pub record IsCounted (most : ℕ) (digits : Digits) : Type 0 where
  pub few : digits.count ≤ most
  pub bounded : digits.number < 10 ^ digits.count

-- the numbers read so far are as small as their digits
abbrev pub IsSound : Stage → Type 0
IsSound (Index digits) = IsCounted 2 digits
IsSound (Whole index relation digits) = IsCounted 16 digits
IsSound (Point index relation whole) = whole < 10 ^ 16
IsSound (Fraction index relation whole digits) = (whole < 10 ^ 16) × IsCounted 6 digits
IsSound _ = Unit {0}
