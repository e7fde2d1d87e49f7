-- The grammar of batches, and where bytes leave it.
use Rattle.std.proofs.Common.{◌≡◌, ℕ, zero, suc, ◌+◌, ◌-◌, ◌^◌, ◌≤◌, List, [], ◌∷◌, ◌++◌, length, take, Some, None, inl}
use Rattle.std.proofs.Common.{inr, refl, sym, ap, subst, ◌∙◌, append_assoc, append-nil, arith}
use Rattle.std.specs.List.{flat_map}
use Rattle.std.proofs.lemmas.Bool.{cases_eq, cases_lt}
use Rattle.std.proofs.lemmas.List.{length-append, length-take-le, nil_from_length, take_at}
use Rattle.std.proofs.Math.Seq.{take-append-add}
use Rattle.std.proofs.lemmas.List.Elements.{recursion_from_All}
use Rattle.alto_addr.specs.Place.{Begins, IsLongestFront}
use Rattle.alto_names.specs.Name.{IsImportId, is_import_byte, is_letter_or_digit}
use Rattle.code_bytes.specs.declared.stop.Stop.{Stop}
use Rattle.code_bytes.specs.declared.stop.Stop.TheVariants as stop
use Rattle.code_bytes.specs.Stuck.{left_at, IsStuck, Stops, Pair}
use Rattle.code_bytes.specs.Pieces.{Fixed, Names, Numbers, One, name, number}
use Rattle.code_bytes.proofs.GrammarLemmas.{IsGrammar, fixed_grammar, names_grammar, numbers_grammar, one_grammar}
use Rattle.code_bytes.proofs.GrammarLemmas.{pair_first, pair_grammar, pair_next, times_from}
use Rattle.code_bytes.proofs.StuckLemmas.{left_within, other_head, same_head, parts_never, stuck_within}
use Rattle.batch_code.specs.Grammar.{AfterId, BatchTexts, HeadTexts, WriteLists, Writes}
use Rattle.batch_code.specs.Spelling.{write_bytes}
use Rattle.batch_code.specs.Storable.{IsStored}
use Rattle.batch_code.specs.Faults.{IsBatch, IsFaultOf, IsRowZero, fault_at}
use Rattle.batch_code.proofs.KeyLemmas.{import_grammar, is_text}
use Rattle.batch_code.proofs.WriteLemmas.{is_write, write_lists_grammar}

abbrev most8 : ℕ
most8 = 2 ^ 64 - 1

abbrev Moments : List ℕ → Type 0
Moments text = Numbers 8 0 most8 text

moments_grammar : IsGrammar Moments
moments_grammar = numbers_grammar 8 0 most8 (omega arith)

abbrev AfterDigest : List ℕ → Type 0
AfterDigest text = Pair Moments WriteLists text

after_digest_grammar : IsGrammar AfterDigest
after_digest_grammar = pair_grammar Moments WriteLists moments_grammar write_lists_grammar

after_id_grammar : IsGrammar AfterId
after_id_grammar = pair_grammar (Fixed 32) AfterDigest (fixed_grammar 32) after_digest_grammar

abbrev Ids : List ℕ → Type 0
Ids text = Names is_import_byte 64 text

abbrev AfterMarks : List ℕ → Type 0
AfterMarks text = Pair Ids AfterId text

after_marks_grammar : IsGrammar AfterMarks
after_marks_grammar = pair_grammar Ids AfterId import_grammar after_id_grammar

abbrev AfterFirst : List ℕ → Type 0
AfterFirst text = Pair (One 0x01) AfterMarks text

-- ---- the parts behind the id

pub digest_stops : (bytes : List ℕ) (why : Stop) → Stops (Fixed 32) bytes why → Stops AfterId bytes why
digest_stops bytes why s = pair_first (Fixed 32) AfterDigest bytes why after_digest_grammar s

pub moment_stops : (bytes front rest : List ℕ) (why : Stop) → length front ≡ 32 → bytes ≡ front ++ rest
    → Stops Moments rest why → Stops AfterId bytes why
moment_stops bytes front rest why len e s =
    pair_next (Fixed 32) AfterDigest bytes front rest why (fixed_grammar 32) len
    e (pair_first Moments WriteLists rest why write_lists_grammar s)

pub writes_stop : (bytes front rest after : List ℕ) (moment : ℕ) (why : Stop) → length front ≡ 32
    → bytes ≡ front ++ rest → moment ≤ most8
    → rest ≡ number 8 moment ++ after → Stops WriteLists after why → Stops AfterId bytes why
writes_stop bytes front rest after moment why len e small e2 s =
    pair_next (Fixed 32) AfterDigest bytes front rest why (fixed_grammar 32) len e
    (pair_next Moments WriteLists rest (number 8 moment) after why moments_grammar
    (record { value = moment; above = omega arith; below = small; spelled = refl }) e2 s)

pub body_read : (bytes front rest after last list : List ℕ) (moment : ℕ) → bytes ≡ front ++ rest
    → rest ≡ number 8 moment ++ after → after ≡ list ++ last
    → bytes ≡ (front ++ (number 8 moment ++ list)) ++ last
body_read bytes front rest after last list moment e e2 e3 =
    e ∙ ap (λ t. front ++ t) (e2 ∙ ap (λ t. number 8 moment ++ t) e3 ∙ sym (append_assoc (number 8 moment) list last))
    ∙ sym (append_assoc front (number 8 moment ++ list) last)

-- ---- the whole

pub mark_stops : (bytes : List ℕ) (why : Stop) → Stops (One 0x42) bytes why → Stops BatchTexts bytes why
mark_stops bytes why s =
    pair_first (One 0x42) AfterFirst bytes why (pair_grammar (One 0x01) AfterMarks (one_grammar 0x01)
    after_marks_grammar) s

pub second_stops : (bytes rest : List ℕ) (why : Stop) → bytes ≡ 0x42 ∷ rest → Stops (One 0x01) rest why
    → Stops BatchTexts bytes why
second_stops bytes rest why e s =
    pair_next (One 0x42) AfterFirst bytes (0x42 ∷ []) rest why (one_grammar 0x42) refl
    e (pair_first (One 0x01) AfterMarks rest why after_marks_grammar s)

marked : (bytes rest after : List ℕ) (why : Stop) → bytes ≡ 0x42 ∷ rest → rest ≡ 0x01 ∷ after
    → Stops AfterMarks after why → Stops BatchTexts bytes why
marked bytes rest after why e e2 s =
    pair_next (One 0x42) AfterFirst bytes (0x42 ∷ []) rest why (one_grammar 0x42) refl e
    (pair_next (One 0x01) AfterMarks rest (0x01 ∷ []) after why (one_grammar 0x01) refl e2 s)

pub id_stops : (bytes rest after : List ℕ) (why : Stop) → bytes ≡ 0x42 ∷ rest → rest ≡ 0x01 ∷ after
    → Stops Ids after why → Stops BatchTexts bytes why
id_stops bytes rest after why e e2 s =
    marked bytes rest after why e e2 (pair_first Ids AfterId after why after_id_grammar s)

pub body_stops : (bytes rest after last id : List ℕ) (why : Stop) → bytes ≡ 0x42 ∷ rest → rest ≡ 0x01 ∷ after
    → IsImportId id → after ≡ name id ++ last
    → Stops AfterId last why → Stops BatchTexts bytes why
body_stops bytes rest after last id why e e2 is e3 s =
    marked bytes rest after why e e2 (pair_next Ids AfterId after (name id) last why import_grammar
    (is_text is_import_byte 64 id is) e3 s)

pub whole_read : (bytes rest after last end id body : List ℕ) → bytes ≡ 0x42 ∷ rest → rest ≡ 0x01 ∷ after
    → after ≡ name id ++ last → last ≡ body ++ end
    → bytes ≡ 0x42 ∷ 0x01 ∷ ((name id ++ body) ++ end)
whole_read bytes rest after last end id body e e2 e3 e4 =
    e ∙ ap (λ t. 0x42 ∷ t) (e2 ∙ ap (λ t. 0x01 ∷ t) (e3 ∙ ap (λ t. name id ++ t) e4
    ∙ sym (append_assoc (name id) body end)))

-- ---- the row before the batches

epochs_grammar : IsGrammar (Names is_letter_or_digit 20)
epochs_grammar = names_grammar is_letter_or_digit 20 48 refl (omega arith)

windows_grammar : IsGrammar (Numbers 4 2 32)
windows_grammar = numbers_grammar 4 2 32 (omega arith)

abbrev AfterHead : List ℕ → Type 0
AfterHead text = Pair (Names is_letter_or_digit 20) (Numbers 4 2 32) text

after_head_grammar : IsGrammar AfterHead
after_head_grammar = pair_grammar (Names is_letter_or_digit 20) (Numbers 4 2 32) epochs_grammar windows_grammar

abbrev SecondOfHead : List ℕ → Type 0
SecondOfHead text = Pair (One 0x01) AfterHead text

pub head_mark_stops : (bytes : List ℕ) (why : Stop) → Stops (One 0x41) bytes why → Stops HeadTexts bytes why
head_mark_stops bytes why s = pair_first (One 0x41) SecondOfHead bytes
    why (pair_grammar (One 0x01) AfterHead (one_grammar 0x01) after_head_grammar) s

pub head_second_stops : (bytes rest : List ℕ) (why : Stop) → bytes ≡ 0x41 ∷ rest → Stops (One 0x01) rest why
    → Stops HeadTexts bytes why
head_second_stops bytes rest why e s =
    pair_next (One 0x41) SecondOfHead bytes (0x41 ∷ []) rest why (one_grammar 0x41) refl
    e (pair_first (One 0x01) AfterHead rest why after_head_grammar s)

head_marked : (bytes rest after : List ℕ) (why : Stop) → bytes ≡ 0x41 ∷ rest → rest ≡ 0x01 ∷ after
    → Stops AfterHead after why → Stops HeadTexts bytes why
head_marked bytes rest after why e e2 s =
    pair_next (One 0x41) SecondOfHead bytes (0x41 ∷ []) rest why (one_grammar 0x41) refl e
    (pair_next (One 0x01) AfterHead rest (0x01 ∷ []) after why (one_grammar 0x01) refl e2 s)

pub epoch_stops : (bytes rest after : List ℕ) (why : Stop) → bytes ≡ 0x41 ∷ rest → rest ≡ 0x01 ∷ after
    → Stops (Names is_letter_or_digit 20) after why → Stops HeadTexts bytes why
epoch_stops bytes rest after why e e2 s =
    head_marked bytes rest after why e e2 (pair_first (Names is_letter_or_digit 20) (Numbers 4 2 32) after why
    windows_grammar s)

pub window_stops : (bytes rest after last epoch : List ℕ) (why : Stop) → bytes ≡ 0x41 ∷ rest → rest ≡ 0x01 ∷ after
    → Names is_letter_or_digit 20 (name epoch)
    → after ≡ name epoch ++ last → Stops (Numbers 4 2 32) last why → Stops HeadTexts bytes why
window_stops bytes rest after last epoch why e e2 is e3 s =
    head_marked bytes rest after why e e2 (pair_next (Names is_letter_or_digit 20) (Numbers 4 2 32) after (name epoch)
    last why epochs_grammar is e3 s)

-- ---- spellings are in the grammar

pub batch_text : (text : List ℕ) → IsBatch text → BatchTexts text
batch_text text (batch, is, e) = record {
  front = 0x42 ∷ [];
  back = 0x01 ∷ (name batch.id ++ (batch.digest
      ++ (number 8 batch.moment ++ (number 4 (length batch.writes) ++ flat_map write_bytes batch.writes))));
  split = e;
  first = refl;
  second = record {
    front = 0x01 ∷ [];
    back = name batch.id ++ (batch.digest
        ++ (number 8 batch.moment ++ (number 4 (length batch.writes) ++ flat_map write_bytes batch.writes)));
    split = refl;
    first = refl;
    second = record {
      front = name batch.id;
      back = batch.digest ++ (number 8 batch.moment
          ++ (number 4 (length batch.writes) ++ flat_map write_bytes batch.writes));
      split = refl;
      first = is_text is_import_byte 64 batch.id is.id;
      second = record {
        front = batch.digest;
        back = number 8 batch.moment ++ (number 4 (length batch.writes) ++ flat_map write_bytes batch.writes);
        split = refl;
        first = is.digest;
        second = record {
          front = number 8 batch.moment;
          back = number 4 (length batch.writes) ++ flat_map write_bytes batch.writes;
          split = refl;
          first = record {
            value = batch.moment;
            above = omega arith;
            below = omega (arith, is.moment);
            spelled = refl;
          };
          second = record {
            front = number 4 (length batch.writes);
            back = flat_map write_bytes batch.writes;
            split = refl;
            first = record { value = length batch.writes; above = omega arith; below = is.few; spelled = refl };
            second = record {
              value = length batch.writes;
              above = omega arith;
              below = is.few;
              spelled = refl;
              body = times_from IsStored write_bytes Writes batch.writes (λ write stored. is_write write stored)
                  (recursion_from_All IsStored batch.writes is.writes);
            };
          };
        };
      };
    };
  };
}

pub head_text : (text : List ℕ) → IsRowZero text → HeadTexts text
head_text text (epoch, window, is, e) = record {
  front = 0x41 ∷ [];
  back = 0x01 ∷ (name epoch ++ number 4 window);
  split = e;
  first = refl;
  second = record {
    front = 0x01 ∷ [];
    back = name epoch ++ number 4 window;
    split = refl;
    first = refl;
    second = record {
      front = name epoch;
      back = number 4 window;
      split = refl;
      first = is_text is_letter_or_digit 20 epoch is.is_epoch;
      second = record { value = window; above = is.least; below = is.most; spelled = refl };
    };
  };
}

pub batches_grammar : IsGrammar BatchTexts
batches_grammar = pair_grammar (One 0x42) AfterFirst (one_grammar 0x42)
    (pair_grammar (One 0x01) AfterMarks (one_grammar 0x01) after_marks_grammar)

pub heads_grammar : IsGrammar HeadTexts
heads_grammar = pair_grammar (One 0x41) SecondOfHead (one_grammar 0x41)
    (pair_grammar (One 0x01) AfterHead (one_grammar 0x01) after_head_grammar)

-- ---- places

some_is : (a b : ℕ) → Some a ≡ Some b → a ≡ b
some_is a b e = cc

none_some : (a : ℕ) → None ≡ Some a → ⊥
none_some a e = absurd cc

gone_along : (text bytes : List ℕ) (left : ℕ) → left_at text bytes ≡ Some left
    → (n : ℕ) × (n + left ≡ length bytes) × ((rest : List ℕ) × (take n bytes ++ rest ≡ text))
gone_along [] bytes left e = absurd cc
gone_along (a ∷ text) [] left e = (0, omega (arith, some_is 0 left e), (a ∷ text, refl))
gone_along (a ∷ text) (b ∷ bytes) left e = elim (cases_eq a b) [
  | inl same ↦
      let here : left_at text bytes ≡ Some left =
      sym (ap (λ x. left_at (a ∷ text) (x ∷ bytes)) (sym same) ∙ same_head a text bytes) ∙ e in
      let on = gone_along text bytes left here in
      (suc on.0, omega (arith, on.1), (on.2.0, ap (λ t. b ∷ t) on.2.1 ∙ ap (λ x. x ∷ text) (sym same)))
  | inr other ↦
      let here = some_is _ _ (sym (other_head a b text bytes other) ∙ e) in
      (0, omega (arith, here), (a ∷ text, refl))
]

no_further : (m : ℕ) (bytes rest : List ℕ) (more : ℕ) → m ≤ length bytes
    → left_at (take m bytes ++ rest) bytes ≡ Some more → m + more ≤ length bytes
no_further zero bytes rest more within e = omega (arith, left_within rest bytes more e)
no_further (suc m) [] rest more within e = absurd (omega (arith, within))
no_further (suc m) (b ∷ bytes) rest more within e =
    let here : left_at (take m bytes ++ rest) bytes ≡ Some more = sym (same_head b (take m bytes ++ rest) bytes) ∙ e in
    omega (arith, no_further m bytes rest more (omega (arith, within)) here)

pub stuck_longest : (Text : List ℕ → Type 0) (bytes : List ℕ) (left place : ℕ) → IsStuck Text bytes left
    → place + left ≡ length bytes → IsLongestFront Text bytes place
stuck_longest Text bytes left place s e =
    let along = gone_along s.text bytes left s.parts in
    let same : along.0 ≡ place = omega (arith, along.1, e) in
    record {
      within = omega (arith, e);
      begins = subst (λ n. Begins Text (take n bytes)) same (along.2.0, subst Text (sym along.2.1) s.is_text);
      longest = λ m within begins.
          let least = s.least (take m bytes ++ begins.0) begins.1 in
          omega (arith, no_further m bytes begins.0 least.0 within least.1, least.2, e);
    }

pub stuck_outside : (Text : List ℕ → Type 0) (bytes : List ℕ) (left : ℕ) → IsStuck Text bytes left → Text bytes → ⊥
stuck_outside Text bytes left s is =
    let least = s.least bytes is in
    let none : left_at bytes bytes ≡ None = ap (left_at bytes) (sym (append-nil bytes)) ∙ parts_never bytes [] in
    none_some least.0 (sym none ∙ least.1)

pub behind_outside : (Text : List ℕ → Type 0) (bytes text rest : List ℕ) → IsGrammar Text → Text text
    → bytes ≡ text ++ rest → (rest ≡ [] → ⊥) → Text bytes → ⊥
behind_outside Text bytes text rest grammar is e more whole =
    let same : text ≡ bytes = grammar.free text bytes rest [] is whole (sym e ∙ sym (append-nil bytes)) in
    more (nil_from_length rest (omega (arith, ap length e, length-append text rest, ap length same)))

pub behind_longest : (Text : List ℕ → Type 0) (bytes text rest : List ℕ) (place : ℕ) → IsGrammar Text → Text text
    → bytes ≡ text ++ rest → place + length rest ≡ length bytes
    → IsLongestFront Text bytes place
behind_longest Text bytes text rest place grammar is e at =
    let size : length text ≡ place = omega (arith, ap length e, length-append text rest, at) in
    let front : take place bytes ≡ text = ap (take place) e ∙ take_at text rest place size in
    record {
      within = omega (arith, at);
      begins = ([], subst Text (sym (append-nil (take place bytes) ∙ front)) is);
      longest = λ m within begins. elim (cases_lt place m) [
        | inr le ↦ le
        | inl lt ↦
            let parts : m ≡ length text + (m - place) = omega (arith, size) in
            let split : take m bytes ≡ text ++ take (m - place) rest =
            ap (take m) e ∙ ap (λ n. take n (text ++ rest)) parts ∙ take-append-add text rest (m - place) in
            let apart : text ++ (take (m - place) rest ++ begins.0) ≡ (take m bytes ++ begins.0) ++ [] =
            sym (append_assoc text (take (m - place) rest) begins.0) ∙ ap (λ t. t ++ begins.0) (sym split)
            ∙ sym (append-nil (take m bytes ++ begins.0)) in
            let same : text ≡ take m bytes ++ begins.0 =
            grammar.free text (take m bytes ++ begins.0) _ _ is begins.1 apart in
            omega (arith, ap length same, length-append (take m bytes) begins.0, length-take-le m bytes within, size)
      ];
    }

-- grammars with the same texts have the same longest fronts
pub longest_same : (Text IsRow : List ℕ → Type 0) (bytes : List ℕ) (place : ℕ)
    → ((text : List ℕ) → Text text → IsRow text)
    → ((text : List ℕ) → IsRow text → Text text) → IsLongestFront Text bytes place → IsLongestFront IsRow bytes place
longest_same Text IsRow bytes place to from front = record {
  within = front.within;
  begins = (front.begins.0, to _ front.begins.1);
  longest = λ m within begins. front.longest m within (begins.0, from _ begins.1);
}

pub fault_is : (IsRow Text : List ℕ → Type 0) (bytes : List ℕ) (why : Stop) → ((text : List ℕ) → IsRow text → Text text)
    → ((text : List ℕ) → Text text → IsRow text) → Stops Text bytes why
    → IsFaultOf IsRow bytes (fault_at (length bytes) why)
fault_is IsRow Text bytes (stop.Left left) from to s = (
  (λ row. stuck_outside Text bytes left s (from bytes row)),
  longest_same Text IsRow bytes (length bytes - left) to from
      (stuck_longest Text bytes left (length bytes - left) s (omega (arith, stuck_within Text bytes left s))),
)
fault_is IsRow Text bytes stop.Memory from to s = tt
