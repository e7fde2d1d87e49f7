-- Pieces of receipts and of rows.
use Rattle.std.proofs.Common.{◌≡◌, ℕ, ◌-◌, ◌^◌, ◌≤◌, List, [], ◌∷◌, ◌++◌, length, map, All, None, Some, refl, sym, ap}
use Rattle.std.proofs.Common.{subst, ◌∙◌, append_assoc, append-nil, arith}
use Rattle.std.specs.List.{AllByRecursion, flat_map}
use Rattle.std.proofs.lemmas.List.{append_cancel_left, length-map}
use Rattle.std.proofs.lemmas.List.Elements.{All-map, recursion_from_All}
use Rattle.alto_names.specs.Name.{IsImportId, is_import_byte}
use Rattle.alto_rows.specs.Rows.{Rows}
use Rattle.alto_rows.specs.declared.key.Key.{Key}
use Rattle.alto_rows.specs.declared.value.Value.{Value}
use Rattle.alto_rows.specs.declared.write.Write.{Write}
use Rattle.alto_rows.proofs.RowsLemmas.{sorted_left}
use Rattle.code_bytes.specs.Pieces.{Fixed, Names, Numbers, One, name, number}
use Rattle.code_bytes.specs.Stuck.{IsStuck, Pair, Stops, Times, left_at}
use Rattle.code_bytes.specs.declared.stop.Stop.{Stop}
use Rattle.code_bytes.specs.declared.stop.Stop.TheVariants as stop
use Rattle.code_bytes.proofs.GrammarLemmas.{IsGrammar, fixed_grammar, names_grammar, numbers_grammar, pair_first}
use Rattle.code_bytes.proofs.GrammarLemmas.{pair_grammar, pair_next, times_from}
use Rattle.code_bytes.proofs.OnceLemmas.{append_once, name_apart, number_apart, tail_is}
use Rattle.code_bytes.proofs.StuckLemmas.{parts_never}
use Rattle.batch_code.specs.Spelling.{write_bytes}
use Rattle.batch_code.specs.Storable.{IsStored}
use Rattle.batch_code.proofs.KeyLemmas.{is_text}
use Rattle.batch_code.proofs.OnceLemmas.{write_apart}
use Rattle.base_code.proofs.PartLemmas.{all_left}
use Rattle.base_code.specs.Bases.{AreStored, IsKept, KeptData, write_of}
use Rattle.base_code.specs.Parts.{Denies, GoesOn, HasItems, IsFirstPiece, Receipts}
use Rattle.base_code.specs.Pieces.{kept_bytes, piece_of, receipts_piece, rows_piece}

-- ---- where a reader stops

none_some : (a : ℕ) → None ≡ Some a → ⊥
none_some a e = absurd cc

begins_stuck : (n : ℕ) (text rest : List ℕ) (Text : List ℕ → Type 0) → Text text → (bytes : List ℕ)
    → bytes ≡ text ++ rest → IsStuck Text bytes n → ⊥
begins_stuck n text rest Text is bytes e s =
    let least = s.least text is in
    none_some least.0 (sym (parts_never text rest) ∙ ap (λ b. left_at text b) (sym e) ∙ least.1)

pub denied : (Text : List ℕ → Type 0) (Thing : Type 0) (bytes : List ℕ) (why : Stop) → Stops Text bytes why
    → (Thing → (text : List ℕ) × (rest : List ℕ) × Text text × (bytes ≡ text ++ rest)) → Denies Thing why
denied Text Thing bytes (stop.Left left) s begins = λ thing.
    let at = begins thing in
    begins_stuck left at.0 at.1 Text at.2 bytes at.3 s
denied Text Thing bytes stop.Memory s begins = tt

pub denied_as : (One Other : Type 0) (why : Stop) → (Other → One) → Denies One why → Denies Other why
denied_as One Other (stop.Left left) from never = λ other. never (from other)
denied_as One Other stop.Memory from never = tt

-- ---- many items

-- items of a kind that begin the same bytes are the same
abbrev pub AreApart : {A : Type 0} → (A → Type 0) → (A → List ℕ) → Type 0
AreApart {A} IsA spell = (a b : A) (r s : List ℕ) → IsA a → IsA b → spell a ++ r ≡ spell b ++ s → (a ≡ b) × (r ≡ s)

items_apart : {A : Type 0} (IsA : A → Type 0) (spell : A → List ℕ) → AreApart IsA spell → (a b : List A) (r s : List ℕ)
    → length a ≡ length b
    → AllByRecursion IsA a → AllByRecursion IsA b → flat_map spell a ++ r ≡ flat_map spell b ++ s → (a ≡ b) × (r ≡ s)
items_apart IsA spell apart [] [] r s len is its e = (refl, e)
items_apart IsA spell apart [] (y ∷ b) r s len is its e = absurd (omega (arith, len))
items_apart IsA spell apart (x ∷ a) [] r s len is its e = absurd (omega (arith, len))
items_apart IsA spell apart (x ∷ a) (y ∷ b) r s len is its e =
    let first = apart x y (flat_map spell a ++ r) (flat_map spell b ++ s) is.0 its.0
    (sym (append_assoc (spell x) (flat_map spell a) r) ∙ e ∙ append_assoc (spell y) (flat_map spell b) s) in
    let more = items_apart IsA spell apart a b r s (omega (arith, len)) is.1 its.1 first.1 in
    ((λ i. first.0 i ∷ more.0 i), more.1)

pub piece_once : {A : Type 0} (mark : ℕ) (IsA : A → Type 0) (spell : A → List ℕ) → AreApart IsA spell → (a b : List A)
    → All IsA a → All IsA b
    → length a ≤ 4096 → length b ≤ 4096 → piece_of mark spell a ≡ piece_of mark spell b → a ≡ b
piece_once mark IsA spell apart a b is its short low e =
    let sizes = number_apart 2 4096 (length a) (length b) (flat_map spell a) (flat_map spell b) (omega arith) short
    low (tail_is _ _ _ _ (tail_is _ _ _ _ e)) in
    (items_apart IsA spell apart a b [] [] sizes.0 (recursion_from_All IsA a is) (recursion_from_All IsA b its)
    (append-nil (flat_map spell a) ∙ sizes.1 ∙ sym (append-nil (flat_map spell b)))).0

-- ---- receipts

pub kept_apart : AreApart IsKept kept_bytes
kept_apart one other r s is its e =
    let ids = name_apart one.id other.id ((one.digest ++ number 8 one.moment) ++ r)
    ((other.digest ++ number 8 other.moment) ++ s)
    (sym (append_assoc (name one.id) (one.digest ++ number 8 one.moment) r) ∙ e
    ∙ append_assoc (name other.id) (other.digest ++ number 8 other.moment) s) in
    let digests = append_once one.digest other.digest (number 8 one.moment ++ r) (number 8 other.moment ++ s) (is.digest
    ∙ sym its.digest)
    (sym (append_assoc one.digest (number 8 one.moment) r) ∙ ids.1
    ∙ append_assoc other.digest (number 8 other.moment) s) in
    let moments = number_apart 8 (2 ^ 64 - 1) one.moment other.moment r s (omega arith) (omega (arith, is.moment))
    (omega (arith, its.moment)) digests.1 in
    ((λ i. record { id = ids.0 i; digest = digests.0 i; moment = moments.0 i }), moments.1)

pub receipts_once : (a b : List KeptData) → All IsKept a → All IsKept b → length a ≤ 4096 → length b ≤ 4096
    → receipts_piece a ≡ receipts_piece b → a ≡ b
receipts_once a b is its short low e = piece_once 0x44 IsKept kept_bytes kept_apart a b is its short low e

abbrev Moments : List ℕ → Type 0
Moments text = Numbers 8 0 (2 ^ 64 - 1) text

abbrev AfterId : List ℕ → Type 0
AfterId text = Pair (Fixed 32) Moments text

import_grammar : IsGrammar (Names is_import_byte 64)
import_grammar = names_grammar is_import_byte 64 48 refl (omega arith)

moments_grammar : IsGrammar Moments
moments_grammar = numbers_grammar 8 0 (2 ^ 64 - 1) (omega arith)

after_id_grammar : IsGrammar AfterId
after_id_grammar = pair_grammar (Fixed 32) Moments (fixed_grammar 32) moments_grammar

pub receipts_grammar : IsGrammar Receipts
receipts_grammar = pair_grammar (Names is_import_byte 64) AfterId import_grammar after_id_grammar

pub is_receipt : (kept : KeptData) → IsKept kept → Receipts (kept_bytes kept)
is_receipt kept is = record {
  front = name kept.id;
  back = kept.digest ++ number 8 kept.moment;
  split = refl;
  first = is_text is_import_byte 64 kept.id is.id;
  second = record {
    front = kept.digest;
    back = number 8 kept.moment;
    split = refl;
    first = is.digest;
    second = record { value = kept.moment; above = omega arith; below = omega (arith, is.moment); spelled = refl };
  };
}

-- ---- rows

pub one_put : (a b : Key × Value) → write_of a ≡ write_of b → a ≡ b
one_put (k, v) (l, w) e =
    let keys : k ≡ l = ap (λ (write : Write). write.key) e in
    let values : Some v ≡ Some w = ap (λ (write : Write). write.value) e in
    let same : v ≡ w = cc in
    (λ i. (keys i, same i))

pub puts_once : (a b : Rows) → map write_of a ≡ map write_of b → a ≡ b
puts_once [] [] e = refl
puts_once [] (y ∷ b) e = absurd cc
puts_once (x ∷ a) [] e = absurd cc
puts_once (x ∷ a) (y ∷ b) e =
    let heads : write_of x ≡ write_of y = cc in
    let tails : map write_of a ≡ map write_of b = cc in
    let first = one_put x y heads in
    let more = puts_once a b tails in
    (λ i. first i ∷ more i)

pub all_puts : (rows : Rows) → All (λ row. IsStored (write_of row)) rows → All IsStored (map write_of rows)
all_puts rows all = All-map IsStored write_of rows all

pub rows_once : (a b : Rows) → All (λ row. IsStored (write_of row)) a → All (λ row. IsStored (write_of row)) b
    → length a ≤ 4096 → length b ≤ 4096
    → rows_piece a ≡ rows_piece b → a ≡ b
rows_once a b is its short low e =
    puts_once a b (piece_once 0x45 IsStored write_bytes write_apart (map write_of a) (map write_of b) (all_puts a is)
    (all_puts b its)
    (omega (arith, length-map a write_of, short)) (omega (arith, length-map b write_of, low)) e)

-- ---- parts of what can be stored

pub stored_left : (front back : Rows) → AreStored (front ++ back) → AreStored front
stored_left front back is = record {
  sorted = sorted_left front back is.sorted;
  each = all_left (λ row. IsStored (write_of row)) front back is.each;
}

-- ---- the head of a piece

pub head_mark : (mark count : ℕ) (piece : List ℕ) (why : Stop) → Stops (One mark) piece why
    → Denies ((rest : List ℕ) × GoesOn mark count piece rest) why
head_mark mark count piece why s =
    denied (One mark) ((rest : List ℕ) × GoesOn mark count piece rest) piece why
    s (λ thing. (mark ∷ [], 0x01 ∷ (number 2 count ++ thing.0), refl, thing.1))

pub head_second : (mark count : ℕ) (piece rest : List ℕ) (why : Stop) → piece ≡ mark ∷ rest → Stops (One 0x01) rest why
    → Denies ((rest : List ℕ) × GoesOn mark count piece rest) why
head_second mark count piece rest why e s =
    denied (One 0x01) ((rest : List ℕ) × GoesOn mark count piece rest) rest why
    s (λ thing. (0x01 ∷ [], number 2 count ++ thing.0, refl, tail_is _ _ _ _ (sym e ∙ thing.1)))

pub head_count : (mark count : ℕ) (piece rest after : List ℕ) (why : Stop) → piece ≡ mark ∷ rest → rest ≡ 0x01 ∷ after
    → Stops (Numbers 2 count count) after why
    → Denies ((rest : List ℕ) × GoesOn mark count piece rest) why
head_count mark count piece rest after why e e2 s =
    denied (Numbers 2 count count) ((rest : List ℕ) × GoesOn mark count piece rest) after why s (λ thing. (
      number 2 count,
      thing.0,
      record { value = count; above = omega arith; below = omega arith; spelled = refl },
      tail_is _ _ _ _ (sym e2 ∙ tail_is _ _ _ _ (sym e ∙ thing.1)),
    ))

-- ---- the items of a piece

-- a piece of these items goes on with them
items_on : {A : Type 0} (mark count : ℕ) (spell : A → List ℕ) (IsA : A → Type 0) (piece : List ℕ) (items : List A)
    → HasItems mark spell IsA count piece items
    → GoesOn mark count piece (flat_map spell items)
items_on mark count spell IsA piece items has =
    has.spelled ∙ ap (λ n. mark ∷ 0x01 ∷ (number 2 n ++ flat_map spell items)) has.many

goes_once : (mark count : ℕ) (piece rest other : List ℕ) → GoesOn mark count piece rest
    → GoesOn mark count piece other → rest ≡ other
goes_once mark count piece rest other one two =
    append_cancel_left (number 2 count) rest other (tail_is _ _ _ _ (tail_is _ _ _ _ (sym one ∙ two)))

pub items_headless : {A : Type 0} (mark count : ℕ) (spell : A → List ℕ) (IsA : A → Type 0) (piece : List ℕ) (why : Stop)
    → Denies ((rest : List ℕ) × GoesOn mark count piece rest) why
    → Denies ((items : List A) × HasItems mark spell IsA count piece items) why
items_headless {A} mark count spell IsA piece why never =
    denied_as ((rest : List ℕ) × GoesOn mark count piece rest)
    ((items : List A) × HasItems mark spell IsA count piece items) why
    (λ thing. (flat_map spell thing.0, items_on mark count spell IsA piece thing.0 thing.1)) never

pub items_stop : {A : Type 0} (mark count : ℕ) (spell : A → List ℕ) (IsA : A → Type 0) (Text : List ℕ
    → Type 0) (piece rest : List ℕ) (why : Stop)
    → ((a : A) → IsA a → Text (spell a)) → GoesOn mark count piece rest → Stops (Times count Text) rest why
    → Denies ((items : List A) × HasItems mark spell IsA count piece items) why
items_stop {A} mark count spell IsA Text piece rest why each goes s =
    denied (Times count Text) ((items : List A) × HasItems mark spell IsA count piece items) rest why s (λ thing.
    let has = thing.1 in (
      flat_map spell thing.0,
      [],
      subst (λ n. Times n Text (flat_map spell thing.0))
          has.many (times_from IsA spell Text thing.0 each (recursion_from_All IsA thing.0 has.all)),
      goes_once mark count piece rest (flat_map spell thing.0) goes (items_on mark count spell IsA piece thing.0 has)
          ∙ sym (append-nil (flat_map spell thing.0)),
    ))

pub items_followed : {A : Type 0} (mark count : ℕ) (spell : A → List ℕ) (IsA : A
    → Type 0) (piece rest after : List ℕ) (items : List A) → AreApart IsA spell
    → GoesOn mark count piece rest → All IsA items → length items ≡ count → rest ≡ flat_map spell items ++ after
    → (after ≡ [] → ⊥)
    → ¬ ((items : List A) × HasItems mark spell IsA count piece items)
items_followed {A} mark count spell IsA piece rest after items apart goes all many e more (other, has) =
    let same = goes_once mark count piece rest (flat_map spell other)
    goes (items_on mark count spell IsA piece other has) in
    more (items_apart IsA spell apart items other after [] (many ∙ sym has.many) (recursion_from_All IsA items all)
    (recursion_from_All IsA other has.all)
    (sym e ∙ same ∙ sym (append-nil (flat_map spell other)))).1

-- ---- a receipt that was read

pub kept_first : (bytes : List ℕ) (why : Stop) → Stops (Names is_import_byte 64) bytes why → Stops Receipts bytes why
kept_first bytes why s = pair_first (Names is_import_byte 64) AfterId bytes why after_id_grammar s

pub kept_digest : (bytes rest id : List ℕ) (why : Stop) → IsImportId id → bytes ≡ name id ++ rest
    → Stops (Fixed 32) rest why → Stops Receipts bytes why
kept_digest bytes rest id why is e s =
    pair_next (Names is_import_byte 64) AfterId bytes (name id) rest why import_grammar
    (is_text is_import_byte 64 id is) e
    (pair_first (Fixed 32) Moments rest why moments_grammar s)

pub kept_moment : (bytes rest after id digest : List ℕ) (why : Stop) → IsImportId id → bytes ≡ name id ++ rest
    → length digest ≡ 32 → rest ≡ digest ++ after
    → Stops Moments after why → Stops Receipts bytes why
kept_moment bytes rest after id digest why is e len e2 s =
    pair_next (Names is_import_byte 64) AfterId bytes (name id) rest why import_grammar
    (is_text is_import_byte 64 id is) e
    (pair_next (Fixed 32) Moments rest digest after why (fixed_grammar 32) len e2 s)

-- ---- the first piece

pub first_b : (piece rest after : List ℕ) (why : Stop) → piece ≡ 0x43 ∷ rest → rest ≡ 0x01 ∷ after
    → Stops (Numbers 8 1 (2 ^ 64 - 1)) after why
    → Denies ((b : ℕ) × (count : ℕ) × IsFirstPiece piece b count) why
first_b piece rest after why e e2 s =
    denied (Numbers 8 1 (2 ^ 64 - 1)) ((b : ℕ) × (count : ℕ) × IsFirstPiece piece b count) after why s (λ thing.
    let is = thing.2 in (
      number 8 thing.0,
      number 4 thing.1,
      record { value = thing.0; above = is.some; below = omega (arith, is.most); spelled = refl },
      tail_is _ _ _ _ (sym e2 ∙ tail_is _ _ _ _ (sym e ∙ is.spelled)),
    ))

pub first_count : (piece rest after last : List ℕ) (b : ℕ) (why : Stop) → piece ≡ 0x43 ∷ rest → rest ≡ 0x01 ∷ after
    → after ≡ number 8 b ++ last → b ≤ 2 ^ 64 - 1
    → Stops (Numbers 4 0 400000) last why → Denies ((b : ℕ) × (count : ℕ) × IsFirstPiece piece b count) why
first_count piece rest after last b why e e2 e3 most s =
    denied (Numbers 4 0 400000) ((b : ℕ) × (count : ℕ) × IsFirstPiece piece b count) last why s (λ thing.
    let is = thing.2 in
    let same = number_apart 8 (2 ^ 64 - 1) b thing.0 last (number 4 thing.1) (omega arith) most (omega (arith, is.most))
    (sym e3 ∙ tail_is _ _ _ _ (sym e2 ∙ tail_is _ _ _ _ (sym e ∙ is.spelled))) in (
      number 4 thing.1,
      [],
      record { value = thing.1; above = omega arith; below = is.few; spelled = refl },
      same.1 ∙ sym (append-nil (number 4 thing.1)),
    ))
