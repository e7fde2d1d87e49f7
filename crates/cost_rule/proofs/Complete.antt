-- What a tree prints to reads as the constraint that it stands for.
use Rattle.std.proofs.Common.{◌≡◌, ◌∙◌, ℕ, ◌+◌, ◌<◌, ◌≤◌, true, List, [], ◌∷◌, ◌++◌, length, Option, Some, None, IsTrue}
use Rattle.std.proofs.Common.{append_assoc, refl, sym, ap, arith}
use Rattle.std.specs.List.{list_all}
use Rattle.std.specs.Char.{is_ascii_digit}
use Rattle.std.proofs.lemmas.Bool.{and_parts, cond-true, cond-false, lt-ltb}
use Rattle.std.specs.Option.{option_map}
use Rattle.cost_rule.specs.Grammar.{AreBlanks, AreDigits, AreInForm, IndexPart, IsFraction, IsIndex, Parts, Spells}
use Rattle.cost_rule.specs.Grammar.{constraint_of, fraction_text, index_text, is_blank, millionths_of, number_of}
use Rattle.cost_rule.specs.Grammar.{printed, word}
use Rattle.cost_rule.specs.Stages.{finish, more, no_digits, pushed}
use Rattle.cost_rule.specs.declared.constraint.Constraint.{Constraint}
use Rattle.cost_rule.specs.declared.constraint.Relation.{Relation}
use Rattle.cost_rule.specs.declared.constraint.Relation.TheVariants.{Gt, Lt, Ge, Le, Eq}
use Rattle.cost_rule.specs.declared.digits.Digits.{Digits}
use Rattle.cost_rule.specs.declared.stage.Stage.TheVariants.{Start, Bracket, Index, Closed, Spaced, Related, Apart}
use Rattle.cost_rule.specs.declared.stage.Stage.TheVariants.{Whole, Point, Fraction}
use Rattle.cost_rule.proofs.DigitLemmas.{digit-blank, digit-bracket, digit-point, extended, extended-count}
use Rattle.cost_rule.proofs.DigitLemmas.{extended-number}
use Rattle.cost_rule.proofs.Reading.{read, read-cons, read-nil}

-- the constraint of these parts
abbrev pub made : Option ℕ → Relation → ℕ → Option (List ℕ) → Constraint
made index relation whole fraction =
    record { index = index; relation = relation; millionths = millionths_of whole fraction }

-- a digit is taken where there is room
pub more-digit : (most : ℕ) (digits : Digits) (byte : ℕ) → is_ascii_digit byte ≡ true → digits.count < most
    → more most digits byte ≡ Some (pushed digits byte)
more-digit most digits byte is_digit room =
    cond-true (is_ascii_digit byte) _ _ is_digit ∙ cond-true _ _ _ (lt-ltb digits.count most room)

-- the digits of a fraction
read_fraction : (index : Option ℕ) (relation : Relation) (whole : ℕ) (digits : Digits) (text : List ℕ)
    → IsTrue (list_all is_ascii_digit text) → digits.count + length text ≤ 6
    → read (Fraction index relation whole digits) text ≡ finish (Fraction index relation whole (extended digits text))
read_fraction index relation whole digits [] all few = read-nil _
read_fraction index relation whole digits (byte ∷ text) all few =
    let parts = and_parts (is_ascii_digit byte) (list_all is_ascii_digit text) all in
    read-cons _ (Fraction index relation whole (pushed digits byte)) byte text
    (ap (option_map (Fraction index relation whole)) (more-digit 6 digits byte parts.0 (omega arith)))
    ∙ read_fraction index relation whole (pushed digits byte) text parts.1 (omega arith)

-- the constraint of a fraction's digits
pub finish-fraction : (index : Option ℕ) (relation : Relation) (whole : ℕ) (digits : List ℕ)
    → finish (Fraction index relation whole (extended no_digits digits))
    ≡ Some (made index relation whole (Some digits))
finish-fraction index relation whole digits =
    let count : (extended no_digits digits).count ≡ length digits = omega (arith, extended-count no_digits digits) in
    let number : (extended no_digits digits).number ≡ number_of digits = extended-number no_digits digits in
    rw (count, number) refl

-- a fraction after its point
read_point : (index : Option ℕ) (relation : Relation) (whole : ℕ) (digits : List ℕ) → AreDigits 6 digits
    → read (Point index relation whole) digits ≡ Some (made index relation whole (Some digits))
read_point index relation whole [] are = absurd (omega (arith, are.some))
read_point index relation whole (byte ∷ text) are =
    let parts = and_parts (is_ascii_digit byte) (list_all is_ascii_digit text) are.digits in
    let few : 1 + length text ≤ 6 = omega (arith, are.few) in
    read-cons _ (Fraction index relation whole (pushed no_digits byte)) byte text
    (ap (option_map (Fraction index relation whole)) (more-digit 6 no_digits byte parts.0 (omega arith)))
    ∙ read_fraction index relation whole (pushed no_digits byte) text parts.1 (omega arith)
    ∙ finish-fraction index relation whole (byte ∷ text)

-- where the whole part ends
read_end : (index : Option ℕ) (relation : Relation) (digits : Digits) (fraction : Option (List ℕ)) → IsFraction fraction
    → read (Whole index relation digits) (fraction_text fraction) ≡ Some (made index relation digits.number fraction)
read_end index relation digits None are = read-nil _
read_end index relation digits (Some text) are =
    read-cons _ (Point index relation digits.number) 46 text refl ∙ read_point index relation digits.number text are

-- the digits of the whole part
read_whole : (index : Option ℕ) (relation : Relation) (digits : Digits) (text : List ℕ) (fraction : Option (List ℕ))
    → IsTrue (list_all is_ascii_digit text) → digits.count + length text ≤ 16 → IsFraction fraction
    → read (Whole index relation digits) (text ++ fraction_text fraction)
    ≡ Some (made index relation (extended digits text).number fraction)
read_whole index relation digits [] fraction all few are = read_end index relation digits fraction are
read_whole index relation digits (byte ∷ text) fraction all few are =
    let parts = and_parts (is_ascii_digit byte) (list_all is_ascii_digit text) all in
    read-cons _ (Whole index relation (pushed digits byte)) byte (text ++ fraction_text fraction)
    (cond-false _ _ _ (digit-point byte parts.0)
    ∙ ap (option_map (Whole index relation)) (more-digit 16 digits byte parts.0 (omega arith)))
    ∙ read_whole index relation (pushed digits byte) text fraction parts.1 (omega arith) are

-- the bound, after the first blank
read_bound : (index : Option ℕ) (relation : Relation) (whole : List ℕ) (fraction : Option (List ℕ)) → AreDigits 16 whole
    → IsFraction fraction
    → read (Apart index relation) (whole ++ fraction_text fraction)
    ≡ Some (made index relation (number_of whole) fraction)
read_bound index relation [] fraction are is = absurd (omega (arith, are.some))
read_bound index relation (byte ∷ text) fraction are is =
    let parts = and_parts (is_ascii_digit byte) (list_all is_ascii_digit text) are.digits in
    let few : 1 + length text ≤ 16 = omega (arith, are.few) in
    read-cons _ (Whole index relation (pushed no_digits byte)) byte (text ++ fraction_text fraction)
    (cond-false _ _ _ (digit-blank byte parts.0)
    ∙ ap (option_map (Whole index relation)) (more-digit 16 no_digits byte parts.0 (omega arith)))
    ∙ read_whole index relation (pushed no_digits byte) text fraction parts.1 (omega arith) is
    ∙ ap (λ number. Some (made index relation number fraction)) (extended-number no_digits (byte ∷ text))

-- blanks are passed over
read_apart : (index : Option ℕ) (relation : Relation) (blanks rest : List ℕ) → IsTrue (list_all is_blank blanks)
    → read (Apart index relation) (blanks ++ rest) ≡ read (Apart index relation) rest
read_apart index relation [] rest all = refl
read_apart index relation (byte ∷ blanks) rest all =
    let parts = and_parts (is_blank byte) (list_all is_blank blanks) all in
    read-cons _ (Apart index relation) byte (blanks ++ rest) (cond-true _ _ _ parts.0)
    ∙ read_apart index relation blanks rest parts.1

read_related : (index : Option ℕ) (relation : Relation) (blanks rest : List ℕ) → AreBlanks blanks
    → read (Related index relation) (blanks ++ rest) ≡ read (Apart index relation) rest
read_related index relation [] rest are = absurd (omega (arith, are.some))
read_related index relation (byte ∷ blanks) rest are =
    let parts = and_parts (is_blank byte) (list_all is_blank blanks) are.blanks in
    read-cons _ (Apart index relation) byte (blanks ++ rest) (cond-true _ _ _ parts.0)
    ∙ read_apart index relation blanks rest parts.1

read_spaced : (index : ℕ) (blanks rest : List ℕ) → IsTrue (list_all is_blank blanks)
    → read (Spaced index) (blanks ++ rest) ≡ read (Spaced index) rest
read_spaced index [] rest all = refl
read_spaced index (byte ∷ blanks) rest all =
    let parts = and_parts (is_blank byte) (list_all is_blank blanks) all in
    read-cons _ (Spaced index) byte (blanks ++ rest) (cond-true _ _ _ parts.0)
    ∙ read_spaced index blanks rest parts.1

read_closed : (index : ℕ) (blanks rest : List ℕ) → AreBlanks blanks
    → read (Closed index) (blanks ++ rest) ≡ read (Spaced index) rest
read_closed index [] rest are = absurd (omega (arith, are.some))
read_closed index (byte ∷ blanks) rest are =
    let parts = and_parts (is_blank byte) (list_all is_blank blanks) are.blanks in
    read-cons _ (Spaced index) byte (blanks ++ rest) (cond-true _ _ _ parts.0)
    ∙ read_spaced index blanks rest parts.1

-- the word of a relation, at the beginning or after an index
read_word : (relation : Relation) (rest : List ℕ)
    → read Start (word relation ++ rest) ≡ read (Related None relation) rest
unfolding read
read_word Gt rest = refl
read_word Lt rest = refl
read_word Ge rest = refl
read_word Le rest = refl
read_word Eq rest = refl

read_spaced_word : (index : ℕ) (relation : Relation) (rest : List ℕ)
    → read (Spaced index) (word relation ++ rest) ≡ read (Related (Some index) relation) rest
unfolding read
read_spaced_word index Gt rest = refl
read_spaced_word index Lt rest = refl
read_spaced_word index Ge rest = refl
read_spaced_word index Le rest = refl
read_spaced_word index Eq rest = refl

-- the digits of an index
read_index : (digits : Digits) (text rest : List ℕ) → IsTrue (list_all is_ascii_digit text)
    → digits.count + length text ≤ 2
    → read (Index digits) (text ++ 93 ∷ rest) ≡ read (Closed (extended digits text).number) rest
read_index digits [] rest all few = read-cons _ (Closed digits.number) 93 rest refl
read_index digits (byte ∷ text) rest all few =
    let parts = and_parts (is_ascii_digit byte) (list_all is_ascii_digit text) all in
    read-cons _ (Index (pushed digits byte)) byte (text ++ 93 ∷ rest)
    (cond-false _ _ _ (digit-bracket byte parts.0)
    ∙ ap (option_map Index) (more-digit 2 digits byte parts.0 (omega arith)))
    ∙ read_index (pushed digits byte) text rest parts.1 (omega arith)

read_bracket : (text rest : List ℕ) → AreDigits 2 text
    → read Bracket (text ++ 93 ∷ rest) ≡ read (Closed (number_of text)) rest
read_bracket [] rest are = absurd (omega (arith, are.some))
read_bracket (byte ∷ text) rest are =
    let parts = and_parts (is_ascii_digit byte) (list_all is_ascii_digit text) are.digits in
    let few : 1 + length text ≤ 2 = omega (arith, are.few) in
    read-cons _ (Index (pushed no_digits byte)) byte (text ++ 93 ∷ rest)
    (ap (option_map Index) (more-digit 2 no_digits byte parts.0 (omega arith)))
    ∙ read_index (pushed no_digits byte) text rest parts.1 (omega arith)
    ∙ ap (λ number. read (Closed number) rest) (extended-number no_digits (byte ∷ text))

-- an index, or none, and the word
read_front : (index : Option IndexPart) (relation : Relation) (rest : List ℕ) → IsIndex index
    → read Start (index_text index ++ (word relation ++ rest))
    ≡ read (Related (option_map (λ part. number_of part.digits) index) relation) rest
read_front None relation rest is = read_word relation rest
read_front (Some part) relation rest is =
    read-cons Start Bracket 91 _ refl
    ∙ ap (read Bracket) (append_assoc part.digits (93 ∷ part.blanks) (word relation ++ rest))
    ∙ read_bracket part.digits (part.blanks ++ (word relation ++ rest)) is.0
    ∙ read_closed (number_of part.digits) part.blanks (word relation ++ rest) is.1
    ∙ read_spaced_word (number_of part.digits) relation rest

-- the text of a tree reads as what it stands for
read_printed : (parts : Parts) → AreInForm parts → read Start (printed parts) ≡ Some (constraint_of parts)
read_printed parts are =
    read_front parts.index parts.relation (parts.blanks ++ (parts.whole ++ fraction_text parts.fraction)) are.index
    ∙ read_related _ parts.relation parts.blanks (parts.whole ++ fraction_text parts.fraction) are.blanks
    ∙ read_bound _ parts.relation parts.whole parts.fraction are.whole are.fraction

-- what a text spells is what it reads as
pub read-spelled : (text : List ℕ) (constraint : Constraint) → Spells text constraint
    → read Start text ≡ Some constraint
read-spelled text constraint spelled =
    ap (read Start) (sym spelled.prints) ∙ read_printed spelled.parts spelled.in_form
    ∙ ap (λ value. Some value) spelled.value
