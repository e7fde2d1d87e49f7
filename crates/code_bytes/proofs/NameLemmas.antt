-- A name letter by letter.
use Rattle.std.proofs.Common.{◌≡◌, ℕ, zero, suc, ◌+◌, ◌<◌, ◌≤◌, inl, inr, Bool, true, false, not, ltb, List, [], ◌∷◌}
use Rattle.std.proofs.Common.{◌++◌, length, Option, Some, None, Ok, Err, refl, sym, ap, subst, ◌∙◌, arith}
use Rattle.std.specs.List.{AllByRecursion, position_from}
use Rattle.std.proofs.lemmas.Bool.{cases_Bool, ltb-false, le-ltb}
use Rattle.alto_names.specs.Name.{named, unless_bad, first_bad}
use Rattle.alto_names.specs.declared.label.NameFault.{NameFault}
use Rattle.code_bytes.specs.declared.stop.Stop.{Stop}
use Rattle.code_bytes.specs.Stuck.{IsStuck, Stops, Headed}
use Rattle.code_bytes.specs.Pieces.{Letters, Names}
use Rattle.code_bytes.proofs.StuckLemmas.{headed_bad, headed_none, headed_on, headed_on_stops, stuck_same, stops_same}

-- ---- letters

abbrev Admits : (ℕ → Bool) → List ℕ → Type 0
Admits alphabet text = AllByRecursion (λ byte. alphabet byte ≡ true) text

abbrev Letter : (ℕ → Bool) → ℕ → ℕ → List ℕ → Type 0
Letter alphabet count byte back = (alphabet byte ≡ true) × Letters alphabet count back

uncons : (alphabet : ℕ → Bool) (count : ℕ) (text : List ℕ) → Letters alphabet (suc count) text
    → Headed (Letter alphabet count) text
uncons alphabet count [] is = absurd (omega (arith, is.0))
uncons alphabet count (byte ∷ back) is =
    record { byte = byte; back = back; split = refl; second = (is.1.0, (omega (arith, is.0), is.1.1)) }

cons : (alphabet : ℕ → Bool) (count : ℕ) (text : List ℕ) → Headed (Letter alphabet count) text
    → Letters alphabet (suc count) text
cons alphabet count text is =
    subst (Letters alphabet (suc count)) (sym is.split) (ap suc is.second.1.0, (is.second.0, is.second.1.1))

some_letters : (alphabet : ℕ → Bool) (least count : ℕ) → alphabet least ≡ true
    → (text : List ℕ) × Letters alphabet count text
some_letters alphabet least zero e = ([], (refl, tt))
some_letters alphabet least (suc count) e =
    let more = some_letters alphabet least count e in
    (least ∷ more.0, (ap suc more.1.0, (e, more.1.1)))

head_bad : (alphabet : ℕ → Bool) (least count byte : ℕ) (rest : List ℕ) → alphabet least ≡ true → alphabet byte ≡ false
    → IsStuck (Letters alphabet (suc count)) (byte ∷ rest) (suc (length rest))
head_bad alphabet least count byte rest e bad =
    let some = some_letters alphabet least (suc count) e in
    stuck_same _ _ _ _ (cons alphabet count) (uncons alphabet count)
    (headed_bad (Letter alphabet count) some.0 byte rest (uncons alphabet count some.0 some.1) (λ back is. absurd cc))

head_good : (alphabet : ℕ → Bool) (count byte left : ℕ) (rest : List ℕ) → alphabet byte ≡ true
    → IsStuck (Letters alphabet count) rest left
    → IsStuck (Letters alphabet (suc count)) (byte ∷ rest) left
head_good alphabet count byte left rest good s =
    stuck_same _ _ _ _ (cons alphabet count) (uncons alphabet count)
    (headed_on (Letter alphabet count) byte rest left
    (stuck_same (Letters alphabet count) (Letter alphabet count byte) rest left (λ text is. (good, is))
    (λ text is. is.1) s))

bad_from : (alphabet : ℕ → Bool) (least : ℕ) (front rest : List ℕ) (count i place : ℕ) → alphabet least ≡ true
    → length front ≤ count
    → position_from (λ byte. not (alphabet byte)) i front ≡ Some place
    → (left : ℕ) × (left + place ≡ length (front ++ rest) + i) × IsStuck (Letters alphabet count) (front ++ rest) left
bad_from alphabet least [] rest count i place e le at = absurd cc
bad_from alphabet least (byte ∷ front) rest zero i place e le at = absurd (omega (arith, le))
bad_from alphabet least (byte ∷ front) rest (suc count) i place e le at = elim (cases_Bool (alphabet byte)) [
  | inl good ↦
      let on : position_from (λ byte. not (alphabet byte)) (i + 1) front ≡ Some place = sym (rw good refl) ∙ at in
      let more = bad_from alphabet least front rest count (i + 1) place e (omega (arith, le)) on in
      (more.0, omega (arith, more.1), head_good alphabet count byte more.0 (front ++ rest) good more.2)
  | inr bad ↦
      let here : Some i ≡ Some place = sym (rw bad refl) ∙ at in
      let same : i ≡ place = cc in
      (suc (length (front ++ rest)), omega (arith, same), head_bad alphabet least count byte (front ++ rest) e bad)
]

pub bad_letter : (alphabet : ℕ → Bool) (least : ℕ) (bytes front rest : List ℕ) (count place left : ℕ)
    → alphabet least ≡ true → length front ≤ count
    → bytes ≡ front ++ rest → Some place ≡ first_bad alphabet front → left + place ≡ length bytes
    → IsStuck (Letters alphabet count) bytes left
bad_letter alphabet least bytes front rest count place left e le split at place_is =
    let bad = bad_from alphabet least front rest count 0 place e le (sym at) in
    let same : bad.0 ≡ left = omega (arith, bad.1, place_is, ap length split) in
    subst (λ n. IsStuck (Letters alphabet count) bytes n) same
    (subst (λ b. IsStuck (Letters alphabet count) b bad.0) (sym split) bad.2)

all_good : (alphabet : ℕ → Bool) (i : ℕ) (text : List ℕ) → position_from (λ byte. not (alphabet byte)) i text ≡ None
    → Admits alphabet text
all_good alphabet i [] e = tt
all_good alphabet i (byte ∷ text) e = elim (cases_Bool (alphabet byte)) [
  | inl good ↦ let on : position_from (λ byte. not (alphabet byte)) (i + 1) text ≡ None = sym (rw good refl) ∙ e in
      (good, all_good alphabet (i + 1) text on)
  | inr bad ↦ let here : Some i ≡ None = sym (rw bad refl) ∙ e in absurd cc
]

none_bad : (alphabet : ℕ → Bool) (i : ℕ) (text : List ℕ) → Admits alphabet text
    → position_from (λ byte. not (alphabet byte)) i text ≡ None
none_bad alphabet i [] good = refl
none_bad alphabet i (byte ∷ text) good = rw good.0 (none_bad alphabet (i + 1) text good.1)

pub are_letters : (alphabet : ℕ → Bool) (count : ℕ) (text : List ℕ) → length text ≡ count
    → None ≡ first_bad alphabet text → Letters alphabet count text
are_letters alphabet count text e none = (e, all_good alphabet 0 text (sym none))

short : (alphabet : ℕ → Bool) (least : ℕ) (bytes : List ℕ) (count : ℕ) → alphabet least ≡ true → length bytes < count
    → Admits alphabet bytes
    → IsStuck (Letters alphabet count) bytes 0
short alphabet least bytes zero e lt good = absurd (omega (arith, lt))
short alphabet least [] (suc count) e lt good =
    let some = some_letters alphabet least (suc count) e in
    stuck_same _ _ _ _ (cons alphabet count) (uncons alphabet count)
    (headed_none (Letter alphabet count) some.0 (uncons alphabet count some.0 some.1))
short alphabet least (byte ∷ bytes) (suc count) e lt good =
    head_good alphabet count byte 0 bytes good.0 (short alphabet least bytes count e (omega (arith, lt)) good.1)

pub too_short : (alphabet : ℕ → Bool) (least : ℕ) (bytes : List ℕ) (count : ℕ) → alphabet least ≡ true
    → length bytes < count
    → None ≡ first_bad alphabet bytes → IsStuck (Letters alphabet count) bytes 0
too_short alphabet least bytes count e lt none =
    short alphabet least bytes count e lt (all_good alphabet 0 bytes (sym none))

-- ---- names

unless_means : (text value : List ℕ) (found : Option ℕ) → unless_bad text found ≡ Ok value
    → (found ≡ None) × (text ≡ value)
unless_means text value None e = (refl, cc)
unless_means text value (Some place) e = absurd cc

pub record IsNamed (alphabet : ℕ → Bool) (longest : ℕ) (text value : List ℕ) : Type 0 where
  pub same : text ≡ value
  pub some : 1 ≤ length text
  pub short : length text ≤ longest
  pub good : AllByRecursion (λ byte. alphabet byte ≡ true) text

pub named_means : (alphabet : ℕ → Bool) (longest : ℕ) (text value : List ℕ) → named alphabet longest text ≡ Ok value
    → IsNamed alphabet longest text value
named_means alphabet longest [] value e = absurd cc
named_means alphabet longest (byte ∷ text) value e = elim (cases_Bool (ltb longest (length (byte ∷ text)))) [
  | inl long ↦ let here : Err (NameFault.TooLong (length (byte ∷ text))) ≡ Ok value = sym (rw long refl) ∙ e in
      absurd cc
  | inr fits ↦
      let here : unless_bad (byte ∷ text) (first_bad alphabet (byte ∷ text)) ≡ Ok value = sym (rw fits refl) ∙ e in
      let means = unless_means (byte ∷ text) value (first_bad alphabet (byte ∷ text)) here in
      record {
        same = means.1;
        some = omega arith;
        short = ltb-false _ _ fits;
        good = all_good alphabet 0 (byte ∷ text) means.0;
      }
]

pub named_from : (alphabet : ℕ → Bool) (longest : ℕ) (text : List ℕ) → 1 ≤ length text → length text ≤ longest
    → AllByRecursion (λ byte. alphabet byte ≡ true) text → named alphabet longest text ≡ Ok text
named_from alphabet longest [] some short good = absurd (omega (arith, some))
named_from alphabet longest (byte ∷ text) some short good =
    let fits : ltb longest (length (byte ∷ text)) ≡ false = le-ltb _ _ short in
    let none : first_bad alphabet (byte ∷ text) ≡ None = none_bad alphabet 0 (byte ∷ text) good in
    rw (fits, none) refl

abbrev pub NameRest : (ℕ → Bool) → ℕ → ℕ → List ℕ → Type 0
NameRest alphabet longest count back = ((1 ≤ count) × (count ≤ longest)) × Letters alphabet count back

pub to_rest : (alphabet : ℕ → Bool) (longest : ℕ) (text : List ℕ) → Names alphabet longest text
    → Headed (NameRest alphabet longest) text
to_rest alphabet longest text is =
    let means = named_means alphabet longest is.value is.value is.is_name in
    record {
      byte = length is.value;
      back = is.value;
      split = is.spelled;
      second = ((means.some, means.short), (refl, means.good));
    }

pub from_rest : (alphabet : ℕ → Bool) (longest : ℕ) (text : List ℕ) → Headed (NameRest alphabet longest) text
    → Names alphabet longest text
from_rest alphabet longest text is =
    let len : length is.back ≡ is.byte = is.second.1.0 in
    record {
      value = is.back;
      is_name = named_from alphabet longest is.back (omega (arith, len, is.second.0.0))
          (omega (arith, len, is.second.0.1)) is.second.1.1;
      spelled = is.split ∙ ap (λ n. n ∷ is.back) (sym len);
    }

pub some_name : (alphabet : ℕ → Bool) (longest least : ℕ) → alphabet least ≡ true → 0 < longest
    → (text : List ℕ) × Names alphabet longest text
some_name alphabet longest least e pos = (
  1 ∷ least ∷ [],
  record {
    value = least ∷ [];
    is_name = named_from alphabet longest (least ∷ []) (omega arith) (omega arith) (e, tt);
    spelled = refl;
  },
)

pub name_none : (alphabet : ℕ → Bool) (longest least : ℕ) (bytes : List ℕ) → alphabet least ≡ true
    → 0 < longest → bytes ≡ []
    → IsStuck (Names alphabet longest) bytes 0
name_none alphabet longest least bytes e pos nil =
    let some = some_name alphabet longest least e pos in
    subst (λ b. IsStuck (Names alphabet longest) b 0) (sym nil)
    (stuck_same _ _ [] 0 (from_rest alphabet longest) (to_rest alphabet longest)
    (headed_none (NameRest alphabet longest) some.0 (to_rest alphabet longest some.0 some.1)))

pub name_bad : (alphabet : ℕ → Bool) (longest least byte : ℕ) (bytes rest : List ℕ) → alphabet least ≡ true
    → 0 < longest → bytes ≡ byte ∷ rest
    → ((1 ≤ byte) × (byte ≤ longest) → ⊥) → IsStuck (Names alphabet longest) bytes (length bytes)
name_bad alphabet longest least byte bytes rest e pos head not =
    let some = some_name alphabet longest least e pos in
    subst (λ b. IsStuck (Names alphabet longest) b (length b)) (sym head)
    (stuck_same _ _ (byte ∷ rest) (suc (length rest)) (from_rest alphabet longest) (to_rest alphabet longest)
    (headed_bad (NameRest alphabet longest) some.0 byte rest (to_rest alphabet longest some.0 some.1)
    (λ back is. not is.0)))

pub name_on : (alphabet : ℕ → Bool) (longest byte : ℕ) (bytes rest : List ℕ) (why : Stop) → bytes ≡ byte ∷ rest
    → (1 ≤ byte) × (byte ≤ longest)
    → Stops (Letters alphabet byte) rest why → Stops (Names alphabet longest) bytes why
name_on alphabet longest byte bytes rest why head fits s =
    subst (λ b. Stops (Names alphabet longest) b why) (sym head)
    (stops_same (Headed (NameRest alphabet longest)) (Names alphabet longest) (byte ∷ rest)
    why (from_rest alphabet longest) (to_rest alphabet longest)
    (headed_on_stops (NameRest alphabet longest) byte rest why
    (stops_same (Letters alphabet byte) (NameRest alphabet longest byte) rest why (λ text is. (fits, is))
    (λ text is. is.1) s)))
