-- The grammar of values.
use Rattle.std.proofs.Common.{◌≡◌, ℕ, ◌^◌, ◌<◌, ◌≤◌, true, false, List, [], ◌∷◌, ◌++◌, length, All, Some, None, refl}
use Rattle.std.proofs.Common.{sym, ap, ◌∙◌, append_assoc, arith}
use Rattle.std.specs.Prelude.{IsUtf8}
use Rattle.std.specs.List.{flat_map}
use Rattle.std.proofs.lemmas.Bool.{both_ways}
use Rattle.alto_names.specs.Name.{IsAneName}
use Rattle.alto_rows.specs.declared.value.Value.TheVariants as value
use Rattle.code_bytes.specs.declared.stop.Stop.{Stop}
use Rattle.code_bytes.specs.Stuck.{IsStuck, Stops, Tagged, Times}
use Rattle.code_bytes.specs.Pieces.{Counted, Numbers, Texts, name, number}
use Rattle.code_bytes.proofs.CharLemmas.{some_text}
use Rattle.code_bytes.proofs.FixedLemmas.{free_by_length}
use Rattle.code_bytes.proofs.StuckLemmas.{stops_same}
use Rattle.code_bytes.proofs.GrammarLemmas.{IsGrammar, counted_first, counted_grammar, counted_next, numbers_grammar}
use Rattle.code_bytes.proofs.GrammarLemmas.{tagged_bad, tagged_free, tagged_none, tagged_on, times_grammar}
use Rattle.batch_code.specs.Grammar.{AneNames, FormTexts, Nothing, Values, form_number, has_form, least_of, most_of}
use Rattle.batch_code.specs.Values.{IsValueOf}
use Rattle.batch_code.specs.declared.kinds.Form.{Form}
use Rattle.batch_code.specs.declared.kinds.Form.TheVariants as form
use Rattle.batch_code.specs.declared.kinds.Shape.{Shape}
use Rattle.batch_code.specs.declared.kinds.Shape.TheVariants as shape
use Rattle.batch_code.proofs.KeyLemmas.{ane_grammar}

-- ---- texts and lists of names

texts_grammar : (count : ℕ) → IsGrammar (Texts count)
texts_grammar count = let some = some_text count in
    record { free = free_by_length (Texts count) count (λ text is. is.1); text = some.0; some = some.1 }

pub long_first : (bytes : List ℕ) (why : Stop) → Stops (Numbers 2 0 65535) bytes why
    → Stops (Counted 2 0 65535 Texts) bytes why
long_first bytes why s = counted_first 2 0 65535 Texts bytes why texts_grammar s

pub long_next : (n : ℕ) (bytes rest : List ℕ) (why : Stop) → n ≤ 65535 → bytes ≡ number 2 n ++ rest
    → Stops (Texts n) rest why → Stops (Counted 2 0 65535 Texts) bytes why
long_next n bytes rest why small e s =
    counted_next 2 0 65535 Texts n bytes rest why (omega arith) (omega arith) small e s

anes_grammar : (count : ℕ) → IsGrammar (Times count AneNames)
anes_grammar count = times_grammar count AneNames ane_grammar

abbrev NameLists : List ℕ → Type 0
NameLists text = Counted 2 1 64 (λ count. Times count AneNames) text

pub list_first : (bytes : List ℕ) (why : Stop) → Stops (Numbers 2 1 64) bytes why → Stops NameLists bytes why
list_first bytes why s = counted_first 2 1 64 (λ count. Times count AneNames) bytes why anes_grammar s

pub list_next : (n : ℕ) (bytes rest : List ℕ) (why : Stop) → 1 ≤ n → n ≤ 64 → bytes ≡ number 2 n ++ rest
    → Stops (Times n AneNames) rest why → Stops NameLists bytes why
list_next n bytes rest why some small e s =
    counted_next 2 1 64 (λ count. Times count AneNames) n bytes rest why (omega arith) some small e s

pub list_read : (n : ℕ) (bytes rest last : List ℕ) (names : List (List ℕ)) → length names ≡ n
    → bytes ≡ number 2 n ++ rest → rest ≡ flat_map name names ++ last
    → bytes ≡ (number 2 (length names) ++ flat_map name names) ++ last
list_read n bytes rest last names many e e2 =
    e ∙ ap (λ t. number 2 n ++ t) e2 ∙ ap (λ m. number 2 m ++ (flat_map name names ++ last)) (sym many)
    ∙ sym (append_assoc (number 2 (length names)) (flat_map name names) last)

-- ---- forms

pub form_once : (a b : Form) → form_number a ≡ form_number b → a ≡ b
form_once form.Deletion form.Deletion e = refl
form_once form.Unit form.Unit e = refl
form_once form.Number form.Number e = refl
form_once form.Text form.Text e = refl
form_once form.Names form.Names e = refl
form_once _ _ e = absurd cc

in_order : (of : Shape) → least_of of ≤ most_of of
in_order shape.Unit = omega arith
in_order shape.Amount = omega arith
in_order shape.Property = omega arith
in_order shape.Names = omega arith
in_order shape.Version = omega arith

pub fits_eight : (of : Shape) → most_of of < 2 ^ 64
fits_eight shape.Unit = omega arith
fits_eight shape.Amount = omega arith
fits_eight shape.Property = omega arith
fits_eight shape.Names = omega arith
fits_eight shape.Version = omega arith

nothing_grammar : IsGrammar Nothing
nothing_grammar = record { free = λ a b r s one other e. one ∙ sym other; text = []; some = refl }

form_grammar : (of : Shape) (in_form : Form) → IsGrammar (FormTexts of in_form)
form_grammar of form.Deletion = nothing_grammar
form_grammar of form.Unit = nothing_grammar
form_grammar of form.Number = numbers_grammar 8 (least_of of) (most_of of) (in_order of)
form_grammar of form.Text = counted_grammar 2 0 65535 Texts (omega arith) (omega arith) texts_grammar
form_grammar of form.Names = counted_grammar 2 1 64 (λ count. Times count AneNames) (omega arith)
    (omega arith) anes_grammar

values_free : (of : Shape) (in_form : Form) → IsGrammar (FormTexts of in_form)
    → ((a b r s : List ℕ) → Values of in_form a → Values of in_form b → a ++ r ≡ b ++ s → a ≡ b)
values_free of in_form grammar a b r s one other e = grammar.free a b r s one.body other.body e

abbrev ValueTexts : Shape → List ℕ → Type 0
ValueTexts of text = Tagged form_number (Values of) text

some_form : (of : Shape) → (in_form : Form) × (has_form of in_form ≡ true)
some_form shape.Unit = (form.Unit, refl)
some_form shape.Amount = (form.Number, refl)
some_form shape.Property = (form.Number, refl)
some_form shape.Names = (form.Names, refl)
some_form shape.Version = (form.Number, refl)

some_value : (of : Shape) → (text : List ℕ) × ValueTexts of text
some_value of =
    let chosen = some_form of in
    let body = form_grammar of chosen.0 in (
      form_number chosen.0 ∷ body.text,
      record {
        tag = chosen.0;
        back = body.text;
        split = refl;
        second = record { fits = chosen.1; body = body.some };
      },
    )

pub values_grammar : (of : Shape) → IsGrammar (ValueTexts of)
values_grammar of =
    let some = some_value of in
    record {
      free = tagged_free form_number (Values of)
          form_once (λ in_form. values_free of in_form (form_grammar of in_form));
      text = some.0;
      some = some.1;
    }

pub value_none : (of : Shape) (bytes : List ℕ) → bytes ≡ [] → IsStuck (ValueTexts of) bytes 0
value_none of bytes nil = let some = some_value of in tagged_none form_number (Values of) bytes some.0 some.1 nil

pub value_bad : (of : Shape) (byte : ℕ) (bytes rest : List ℕ) → bytes ≡ byte ∷ rest
    → ((in_form : Form) → byte ≡ form_number in_form → ⊥)
    → IsStuck (ValueTexts of) bytes (length bytes)
value_bad of byte bytes rest head not =
    let some = some_value of in
    tagged_bad form_number (Values of) byte bytes rest some.0 some.1 head (λ tag back e is. not tag e)

pub form_bad : (of : Shape) (in_form : Form) (byte : ℕ) (bytes rest : List ℕ) → bytes ≡ byte ∷ rest
    → byte ≡ form_number in_form → has_form of in_form ≡ false
    → IsStuck (ValueTexts of) bytes (length bytes)
form_bad of in_form byte bytes rest head e not =
    let some = some_value of in
    tagged_bad form_number (Values of) byte bytes rest some.0 some.1 head (λ tag back e2 is.
    both_ways (has_form of tag) (ap (has_form of) (form_once tag in_form (sym e2 ∙ e)) ∙ not) is.fits)

pub form_on : (of : Shape) (in_form : Form) (byte : ℕ) (bytes rest : List ℕ) (why : Stop) → bytes ≡ byte ∷ rest
    → byte ≡ form_number in_form → has_form of in_form ≡ true
    → Stops (FormTexts of in_form) rest why → Stops (ValueTexts of) bytes why
form_on of in_form byte bytes rest why head e fits s =
    tagged_on form_number (Values of) in_form byte bytes rest why form_once head e
    (stops_same (FormTexts of in_form) (Values of in_form) rest why (λ text is. record { fits = fits; body = is })
    (λ text is. is.body) s)

-- ---- values

pub deletion_fits : (of : Shape) → has_form of form.Deletion ≡ true → IsValueOf of None
deletion_fits shape.Unit e = tt
deletion_fits shape.Amount e = tt
deletion_fits shape.Property e = tt
deletion_fits shape.Names e = tt
deletion_fits shape.Version e = absurd cc

pub unit_fits : (of : Shape) → has_form of form.Unit ≡ true → IsValueOf of (Some value.Unit)
unit_fits shape.Unit e = tt
unit_fits shape.Amount e = absurd cc
unit_fits shape.Property e = absurd cc
unit_fits shape.Names e = absurd cc
unit_fits shape.Version e = absurd cc

pub number_fits : (of : Shape) (n : ℕ) → has_form of form.Number ≡ true → least_of of ≤ n → n ≤ most_of of
    → IsValueOf of (Some (value.Num n))
number_fits shape.Unit n e low high = absurd cc
number_fits shape.Amount n e low high = high
number_fits shape.Property n e low high = high
number_fits shape.Names n e low high = absurd cc
number_fits shape.Version n e low high = (low, omega (arith, high))

pub text_fits : (of : Shape) (text : List ℕ) → has_form of form.Text ≡ true → IsUtf8 text → length text ≤ 65535
    → IsValueOf of (Some (value.Text text))
text_fits shape.Unit text e utf8 short = absurd cc
text_fits shape.Amount text e utf8 short = absurd cc
text_fits shape.Property text e utf8 short = (utf8, short)
text_fits shape.Names text e utf8 short = absurd cc
text_fits shape.Version text e utf8 short = absurd cc

pub names_fit : (of : Shape) (anes : List (List ℕ)) → has_form of form.Names ≡ true → All IsAneName anes
    → 1 ≤ length anes → length anes ≤ 64
    → IsValueOf of (Some (value.Names anes))
names_fit shape.Unit anes e all some few = absurd cc
names_fit shape.Amount anes e all some few = absurd cc
names_fit shape.Property anes e all some few = absurd cc
names_fit shape.Names anes e all some few = (all, some, few)
names_fit shape.Version anes e all some few = absurd cc
