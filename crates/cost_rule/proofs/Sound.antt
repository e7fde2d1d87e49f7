-- A text that reads as a constraint spells it.
use Rattle.std.proofs.Common.{◌≡◌, ◌∙◌, ℕ, ◌<◌, Bool, true, false, cond, List, [], ◌∷◌, ◌++◌, Option, Some, None}
use Rattle.std.proofs.Common.{append_assoc, nat_eq, nat_lt, refl, sym, ap, subst, arith}
use Rattle.std.specs.Char.{is_ascii_digit}
use Rattle.std.specs.Option.{IsSomeAnd, option_map, option_and_then}
use Rattle.std.proofs.lemmas.Bool.{and_from, eqb-true, ltb-true}
use Rattle.std.proofs.lemmas.Option.{same_Some, none-some}
use Rattle.cost_rule.specs.Grammar.{AreBlanks, AreDigits, Spells, fraction_text, is_blank, number_of, word}
use Rattle.cost_rule.specs.Stages.{finish, first_letter, more, no_digits, pushed, second_letter, step}
use Rattle.cost_rule.specs.declared.constraint.Constraint.{Constraint}
use Rattle.cost_rule.specs.declared.constraint.Relation.{Relation}
use Rattle.cost_rule.specs.declared.constraint.Relation.TheVariants.{Gt, Lt, Ge, Le, Eq}
use Rattle.cost_rule.specs.declared.digits.Digits.{Digits}
use Rattle.cost_rule.specs.declared.stage.Stage.{Stage}
use Rattle.cost_rule.specs.declared.stage.Stage.TheVariants.{Start, Bracket, Index, Closed, Spaced, Greater, Less}
use Rattle.cost_rule.specs.declared.stage.Stage.TheVariants.{Equal, Related, Apart, Whole, Point, Fraction}
use Rattle.cost_rule.proofs.DigitLemmas.{extended, extended-number}
use Rattle.cost_rule.proofs.Complete.{finish-fraction, made}
use Rattle.cost_rule.proofs.Reading.{read}
use Rattle.cost_rule.proofs.Remainder.{AreFurther, BoundRest, Completes, FractionRest, IndexRest, OnlyBlanks, PointRest}
use Rattle.cost_rule.proofs.Remainder.{SpacedRest, WholeRest, WordRest}

-- the two ways of a test
split : {G : Type 0} (test : Bool) (x y : Option Stage) (P : Stage → Type 0)
    → (test ≡ true → IsSomeAnd x P → G) → (IsSomeAnd y P → G) → IsSomeAnd (cond test x y) P → G
split true x y P on_true on_false h = on_true refl h
split false x y P on_true on_false h = on_false h

-- one way of a test
only : {G : Type 0} (test : Bool) (next : Stage) (P : Stage → Type 0)
    → (test ≡ true → P next → G) → IsSomeAnd (cond test (Some next) None) P → G
only true next P on_true h = on_true refl h
only false next P on_true h = absurd h

-- a digit that was taken
with_room : {G : Type 0} (is_digit room : Bool) (digits : Digits) (next : Digits → Stage) (P : Stage → Type 0)
    → (is_digit ≡ true → room ≡ true → P (next digits) → G)
    → IsSomeAnd (option_map next (cond is_digit (cond room (Some digits) None) None)) P → G
with_room true true digits next P on_true h = on_true refl refl h
with_room true false digits next P on_true h = absurd h
with_room false room digits next P on_true h = absurd h

taken : {G : Type 0} (most : ℕ) (digits : Digits) (byte : ℕ) (next : Digits → Stage) (P : Stage → Type 0)
    → (is_ascii_digit byte ≡ true → digits.count < most → P (next (pushed digits byte)) → G)
    → IsSomeAnd (option_map next (more most digits byte)) P → G
taken most digits byte next P on_true h =
    with_room (is_ascii_digit byte) (nat_lt digits.count most) (pushed digits byte) next P
    (λ is_digit room rest. on_true is_digit (ltb-true _ _ room) rest) h

module _ (byte : ℕ) (bytes : List ℕ) (constraint : Constraint) where
  back_fraction : (index : Option ℕ) (relation : Relation) (whole : ℕ) (digits : Digits)
      → is_ascii_digit byte ≡ true → digits.count < 6
      → FractionRest index relation whole (pushed digits byte) bytes constraint
      → FractionRest index relation whole digits (byte ∷ bytes) constraint
  back_fraction index relation whole digits is_digit room rest = record {
    all = and_from _ _ is_digit rest.all;
    few = omega (arith, rest.few);
    value = rest.value;
  }

  back_point : (index : Option ℕ) (relation : Relation) (whole : ℕ)
      → is_ascii_digit byte ≡ true → FractionRest index relation whole (pushed no_digits byte) bytes constraint
      → PointRest index relation whole (byte ∷ bytes) constraint
  back_point index relation whole is_digit rest = record {
    are = record { digits = and_from _ _ is_digit rest.all; some = omega arith; few = omega (arith, rest.few) };
    value = same_Some _ _ (sym (finish-fraction index relation whole (byte ∷ bytes)) ∙ rest.value);
  }

  at_point : (index : Option ℕ) (relation : Relation) (digits : Digits)
      → nat_eq byte 46 ≡ true → PointRest index relation digits.number bytes constraint
      → WholeRest index relation digits (byte ∷ bytes) constraint
  at_point index relation digits is_point rest = record {
    further = [];
    fraction = Some bytes;
    all = refl;
    few = omega arith;
    is = rest.are;
    prints = ap (λ mark. mark ∷ bytes) (sym (eqb-true byte 46 is_point));
    value = rest.value;
  }

  back_whole : (index : Option ℕ) (relation : Relation) (digits : Digits)
      → is_ascii_digit byte ≡ true → digits.count < 16 → WholeRest index relation (pushed digits byte) bytes constraint
      → WholeRest index relation digits (byte ∷ bytes) constraint
  back_whole index relation digits is_digit room rest = record {
    further = byte ∷ rest.further;
    fraction = rest.fraction;
    all = and_from _ _ is_digit rest.all;
    few = omega (arith, rest.few);
    is = rest.is;
    prints = ap (λ text. byte ∷ text) rest.prints;
    value = rest.value;
  }

  first_whole : (index : Option ℕ) (relation : Relation)
      → is_ascii_digit byte ≡ true → WholeRest index relation (pushed no_digits byte) bytes constraint
      → BoundRest OnlyBlanks index relation (byte ∷ bytes) constraint
  first_whole index relation is_digit rest = record {
    blanks = [];
    whole = byte ∷ rest.further;
    fraction = rest.fraction;
    good = refl;
    are = record { digits = and_from _ _ is_digit rest.all; some = omega arith; few = omega (arith, rest.few) };
    is = rest.is;
    prints = ap (λ text. byte ∷ text) rest.prints;
    value = ap (λ number. made index relation number rest.fraction)
        (sym (extended-number no_digits (byte ∷ rest.further))) ∙ rest.value;
  }

  back_apart : (index : Option ℕ) (relation : Relation) → is_blank byte ≡ true
      → BoundRest OnlyBlanks index relation bytes constraint
      → BoundRest OnlyBlanks index relation (byte ∷ bytes) constraint
  back_apart index relation is rest = record {
    blanks = byte ∷ rest.blanks;
    whole = rest.whole;
    fraction = rest.fraction;
    good = and_from _ _ is rest.good;
    are = rest.are;
    is = rest.is;
    prints = ap (λ text. byte ∷ text) rest.prints;
    value = rest.value;
  }

  back_related : (index : Option ℕ) (relation : Relation) → is_blank byte ≡ true
      → BoundRest OnlyBlanks index relation bytes constraint
      → BoundRest AreBlanks index relation (byte ∷ bytes) constraint
  back_related index relation is rest = record {
    blanks = byte ∷ rest.blanks;
    whole = rest.whole;
    fraction = rest.fraction;
    good = record { blanks = and_from _ _ is rest.good; some = omega arith };
    are = rest.are;
    is = rest.is;
    prints = ap (λ text. byte ∷ text) rest.prints;
    value = rest.value;
  }

  back_second : (index : Option ℕ) (first : ℕ) (strict wide : Relation)
      → word strict ≡ first ∷ 116 ∷ [] → word wide ≡ first ∷ 101 ∷ []
      → IsSomeAnd (second_letter index byte strict wide) (λ stage. Completes stage bytes constraint)
      → WordRest index (first ∷ byte ∷ bytes) constraint
  back_second index first strict wide by_t by_e =
      split (nat_eq byte 116) _ _ _
      (λ is rest. record {
        relation = strict;
        rest = bytes;
        prints = ap (λ letters. letters ++ bytes) by_t
            ∙ ap (λ letter. first ∷ letter ∷ bytes) (sym (eqb-true byte 116 is));
        bound = rest;
      })
      (only (nat_eq byte 101) (Related index wide) _
      (λ is rest. record {
        relation = wide;
        rest = bytes;
        prints = ap (λ letters. letters ++ bytes) by_e
            ∙ ap (λ letter. first ∷ letter ∷ bytes) (sym (eqb-true byte 101 is));
        bound = rest;
      }))

  back_equal : (index : Option ℕ) → nat_eq byte 113 ≡ true → BoundRest AreBlanks index Eq bytes constraint
      → WordRest index (101 ∷ byte ∷ bytes) constraint
  back_equal index is rest = record {
    relation = Eq;
    rest = bytes;
    prints = ap (λ letter. 101 ∷ letter ∷ bytes) (sym (eqb-true byte 113 is));
    bound = rest;
  }

  back_first : (index : Option ℕ) → IsSomeAnd (first_letter index byte) (λ stage. Completes stage bytes constraint)
      → WordRest index (byte ∷ bytes) constraint
  back_first index =
      let P : ℕ → Type 0 = λ letter. WordRest index (letter ∷ bytes) constraint in
      split (nat_eq byte 103) _ _ _
      (λ is rest. subst P (sym (eqb-true byte 103 is)) rest)
      (split (nat_eq byte 108) _ _ _
      (λ is rest. subst P (sym (eqb-true byte 108 is)) rest)
      (only (nat_eq byte 101) (Equal index) _
      (λ is rest. subst P (sym (eqb-true byte 101 is)) rest)))

  back_spaced : (index : ℕ) → is_blank byte ≡ true → SpacedRest OnlyBlanks index bytes constraint
      → SpacedRest OnlyBlanks index (byte ∷ bytes) constraint
  back_spaced index is rest = record {
    blanks = byte ∷ rest.blanks;
    rest = rest.rest;
    good = and_from _ _ is rest.good;
    prints = ap (λ text. byte ∷ text) rest.prints;
    worded = rest.worded;
  }

  from_word : (index : ℕ) → WordRest (Some index) (byte ∷ bytes) constraint
      → SpacedRest OnlyBlanks index (byte ∷ bytes) constraint
  from_word index worded = record { blanks = []; rest = byte ∷ bytes; good = refl; prints = refl; worded = worded }

  back_closed : (index : ℕ) → is_blank byte ≡ true → SpacedRest OnlyBlanks index bytes constraint
      → SpacedRest AreBlanks index (byte ∷ bytes) constraint
  back_closed index is rest = record {
    blanks = byte ∷ rest.blanks;
    rest = rest.rest;
    good = record { blanks = and_from _ _ is rest.good; some = omega arith };
    prints = ap (λ text. byte ∷ text) rest.prints;
    worded = rest.worded;
  }

  at_bracket : (digits : Digits) → nat_eq byte 93 ≡ true → SpacedRest AreBlanks digits.number bytes constraint
      → IndexRest (AreFurther digits) (λ further. (extended digits further).number) (byte ∷ bytes) constraint
  at_bracket digits is rest = record {
    further = [];
    rest = bytes;
    good = record { all = refl; few = omega arith };
    prints = ap (λ mark. mark ∷ bytes) (sym (eqb-true byte 93 is));
    closed = rest;
  }

  back_index : (digits : Digits) → is_ascii_digit byte ≡ true → digits.count < 2
      → IndexRest (AreFurther (pushed digits byte)) (λ further. (extended (pushed digits byte) further).number)
      bytes constraint
      → IndexRest (AreFurther digits) (λ further. (extended digits further).number) (byte ∷ bytes) constraint
  back_index digits is_digit room rest = record {
    further = byte ∷ rest.further;
    rest = rest.rest;
    good = record { all = and_from _ _ is_digit rest.good.all; few = omega (arith, rest.good.few) };
    prints = ap (λ text. byte ∷ text) rest.prints;
    closed = rest.closed;
  }

  back_bracket : is_ascii_digit byte ≡ true
      → IndexRest (AreFurther (pushed no_digits byte)) (λ further. (extended (pushed no_digits byte) further).number)
      bytes constraint
      → IndexRest (AreDigits 2) number_of (byte ∷ bytes) constraint
  back_bracket is_digit rest =
      let P : ℕ → Type 0 = λ number. SpacedRest AreBlanks number rest.rest constraint in
      record {
        further = byte ∷ rest.further;
        rest = rest.rest;
        good = record {
          digits = and_from _ _ is_digit rest.good.all;
          some = omega arith;
          few = omega (arith, rest.good.few);
        };
        prints = ap (λ text. byte ∷ text) rest.prints;
        closed = subst P (extended-number no_digits (byte ∷ rest.further)) rest.closed;
      }

  -- a constraint without an index
  without_index : WordRest None (byte ∷ bytes) constraint → Spells (byte ∷ bytes) constraint
  without_index rest = record {
    parts = record {
      index = None;
      relation = rest.relation;
      blanks = rest.bound.blanks;
      whole = rest.bound.whole;
      fraction = rest.bound.fraction;
    };
    in_form = record { index = tt; blanks = rest.bound.good; whole = rest.bound.are; fraction = rest.bound.is };
    prints = ap (λ text. word rest.relation ++ text) rest.bound.prints ∙ rest.prints;
    value = rest.bound.value;
  }

  -- a constraint with an index
  with_index : nat_eq byte 91 ≡ true → IndexRest (AreDigits 2) number_of bytes constraint
      → Spells (byte ∷ bytes) constraint
  with_index is rest =
      let closed = rest.closed in
      let worded = closed.worded in
      let bound = worded.bound in
      let after : word worded.relation ++ (bound.blanks ++ (bound.whole ++ fraction_text bound.fraction))
      ≡ closed.rest =
      ap (λ text. word worded.relation ++ text) bound.prints ∙ worded.prints in
      let spaced : closed.blanks ++ (word worded.relation
      ++ (bound.blanks ++ (bound.whole ++ fraction_text bound.fraction))) ≡ rest.rest =
      ap (λ text. closed.blanks ++ text) after ∙ closed.prints in
      record {
        parts = record {
          index = Some (record { digits = rest.further; blanks = closed.blanks });
          relation = worded.relation;
          blanks = bound.blanks;
          whole = bound.whole;
          fraction = bound.fraction;
        };
        in_form = record {
          index = (rest.good, closed.good);
          blanks = bound.good;
          whole = bound.are;
          fraction = bound.is;
        };
        prints =
            ap (λ text. 91 ∷ text)
            (append_assoc rest.further (93 ∷ closed.blanks) _
            ∙ ap (λ text. rest.further ++ 93 ∷ text) spaced
            ∙ rest.prints)
            ∙ ap (λ mark. mark ∷ bytes) (sym (eqb-true byte 91 is));
        value = bound.value;
      }

  -- what completes the next stage completes this one after the byte
  back : (stage : Stage) → IsSomeAnd (step stage byte) (λ next. Completes next bytes constraint)
      → Completes stage (byte ∷ bytes) constraint
  back Start h =
      split (nat_eq byte 91) (Some Bracket) (first_letter None byte) _ (λ is rest. with_index is rest)
      (λ rest. without_index (back_first None rest)) h
  back Bracket h = taken 2 no_digits byte Index _ (λ is_digit room rest. back_bracket is_digit rest) h
  back (Index digits) h =
      split (nat_eq byte 93) (Some (Closed digits.number)) (option_map Index (more 2 digits byte))
      _ (λ is rest. at_bracket digits is rest)
      (taken 2 digits byte Index _ (λ is_digit room rest. back_index digits is_digit room rest)) h
  back (Closed index) h = only (is_blank byte) (Spaced index) _ (λ is rest. back_closed index is rest) h
  back (Spaced index) h =
      split (is_blank byte) (Some (Spaced index)) (first_letter (Some index) byte)
      _ (λ is rest. back_spaced index is rest)
      (λ rest. from_word index (back_first (Some index) rest)) h
  back (Greater index) h = back_second index 103 Gt Ge refl refl h
  back (Less index) h = back_second index 108 Lt Le refl refl h
  back (Equal index) h = only (nat_eq byte 113) (Related index Eq) _ (λ is rest. back_equal index is rest) h
  back (Related index relation) h =
      only (is_blank byte) (Apart index relation) _ (λ is rest. back_related index relation is rest) h
  back (Apart index relation) h =
      split (is_blank byte) (Some (Apart index relation)) (option_map (Whole index relation) (more 16 no_digits byte)) _
      (λ is rest. back_apart index relation is rest)
      (taken 16 no_digits byte (Whole index relation)
      _ (λ is_digit room rest. first_whole index relation is_digit rest)) h
  back (Whole index relation digits) h =
      split (nat_eq byte 46) (Some (Point index relation digits.number))
      (option_map (Whole index relation) (more 16 digits byte)) _
      (λ is rest. at_point index relation digits is rest)
      (taken 16 digits byte (Whole index relation) _ (λ is_digit room rest. back_whole index relation digits
      is_digit room rest)) h
  back (Point index relation whole) h =
      taken 6 no_digits byte (Fraction index relation whole)
      _ (λ is_digit room rest. back_point index relation whole is_digit rest) h
  back (Fraction index relation whole digits) h =
      taken 6 digits byte (Fraction index relation whole) _ (λ is_digit room rest. back_fraction index relation whole
      digits is_digit room rest) h

-- what a text that ends completes
at_end : (stage : Stage) (constraint : Constraint) → finish stage ≡ Some constraint → Completes stage [] constraint
at_end (Whole index relation digits) constraint h = record {
  further = [];
  fraction = None;
  all = refl;
  few = omega arith;
  is = tt;
  prints = refl;
  value = same_Some _ _ h;
}
at_end (Fraction index relation whole digits) constraint h = record { all = refl; few = omega arith; value = h }
at_end Start constraint h = absurd (none-some constraint h)
at_end Bracket constraint h = absurd (none-some constraint h)
at_end (Index digits) constraint h = absurd (none-some constraint h)
at_end (Closed index) constraint h = absurd (none-some constraint h)
at_end (Spaced index) constraint h = absurd (none-some constraint h)
at_end (Greater index) constraint h = absurd (none-some constraint h)
at_end (Less index) constraint h = absurd (none-some constraint h)
at_end (Equal index) constraint h = absurd (none-some constraint h)
at_end (Related index relation) constraint h = absurd (none-some constraint h)
at_end (Apart index relation) constraint h = absurd (none-some constraint h)
at_end (Point index relation whole) constraint h = absurd (none-some constraint h)

-- after a byte
later : (found : Option Stage) (bytes : List ℕ) (constraint : Constraint)
    → ((next : Stage) → read next bytes ≡ Some constraint → Completes next bytes constraint)
    → option_and_then (λ next. read next bytes) found ≡ Some constraint
    → IsSomeAnd found (λ next. Completes next bytes constraint)
later None bytes constraint each h = absurd (none-some constraint h)
later (Some next) bytes constraint each h = each next h

-- what is read completes the stage
completes : (stage : Stage) (text : List ℕ) (constraint : Constraint) → read stage text ≡ Some constraint
    → Completes stage text constraint
unfolding read
completes stage [] constraint h = at_end stage constraint h
completes stage (byte ∷ bytes) constraint h =
    back byte bytes constraint stage
    (later (step stage byte) bytes constraint (λ next. completes next bytes constraint) h)

-- a text that reads as a constraint spells it
pub spelled-read : (text : List ℕ) (constraint : Constraint) → read Start text ≡ Some constraint
    → Spells text constraint
spelled-read text constraint h = completes Start text constraint h
