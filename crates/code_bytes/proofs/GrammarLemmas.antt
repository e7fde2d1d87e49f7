-- Grammars of whose texts at most one stands at the front of bytes, and how they are put together.
use Rattle.std.proofs.Common.{◌≡◌, ℕ, zero, suc, ◌+◌, ◌-◌, ◌*◌, ◌/◌, ◌%◌, ◌^◌, ◌<◌, ◌≤◌, Bool, true, List, [], ◌∷◌}
use Rattle.std.proofs.Common.{◌++◌, length, refl, sym, ap, subst, ◌∙◌, append_assoc, append-nil, arith, take}
use Rattle.std.proofs.lemmas.List.{length-append, take_at}
use Rattle.std.proofs.lemmas.Grind.{flat_map-append}
use Rattle.std.proofs.lemmas.Nat.{mod-pow-add}
use Rattle.std.proofs.Math.Nat.{mod-eq_of_lt}
use Rattle.std.specs.Int.{byte_at}
use Rattle.std.specs.List.{flat_map, AllByRecursion}
use Rattle.alto_addr.specs.declared.addr.Addr.{Addr}
use Rattle.alto_addr.specs.declared.addr.Addr.TheVariants.{V4, V6}
use Rattle.alto_addr.specs.Order.{family_of}
use Rattle.code_bytes.specs.declared.stop.Stop.{Stop}
use Rattle.code_bytes.specs.Stuck.{IsStuck, Stops, Headed, Tagged, Pair, Times}
use Rattle.code_bytes.specs.Pieces.{number, address, Numbers, Fixed, One, Names, Prefixes, PrefixesOf, Behind, Counted}
use Rattle.code_bytes.proofs.StuckLemmas.{IsFree, chain_free, first_stops, next_stops, headed_none, headed_bad}
use Rattle.code_bytes.proofs.StuckLemmas.{headed_free, headed_on_stops, stuck_same, stops_same}
use Rattle.code_bytes.proofs.NameLemmas.{NameRest, to_rest, some_name}
use Rattle.code_bytes.proofs.NumberLemmas.{byte_is}
use Rattle.code_bytes.proofs.PrefixLemmas.{to_family, some_prefix}

-- a grammar with a text, of whose texts at most one stands at the front of bytes
pub record IsGrammar (Text : List ℕ → Type 0) : Type 0 where
  pub free : IsFree Text
  pub text : List ℕ
  pub some : Text text

free_by_lengths : (Text : List ℕ → Type 0) → ((a b : List ℕ) → Text a → Text b → length a ≡ length b) → IsFree Text
free_by_lengths Text len a b r s one other e =
    sym (take_at a r (length a) refl) ∙ ap (take (length a)) e ∙ ap (λ n. take n (b ++ s)) (len a b one other)
    ∙ take_at b s (length b) refl

pub free_same : (One Other : List ℕ → Type 0) → ((text : List ℕ) → Other text → One text) → IsFree One → IsFree Other
free_same One Other from free a b r s one other e = free a b r s (from a one) (from b other) e

-- ---- names, numbers, bytes, prefixes

name_rest_free : (alphabet : ℕ → Bool) (longest count : ℕ) → IsFree (NameRest alphabet longest count)
name_rest_free alphabet longest count = free_by_lengths _ (λ a b one other. one.1.0 ∙ sym other.1.0)

pub names_grammar : (alphabet : ℕ → Bool) (longest least : ℕ) → alphabet least ≡ true → 0 < longest
    → IsGrammar (Names alphabet longest)
names_grammar alphabet longest least e pos =
    let some = some_name alphabet longest least e pos in
    record {
      free = free_same (Headed (NameRest alphabet longest)) (Names alphabet longest) (to_rest alphabet longest)
          (headed_free (NameRest alphabet longest) (name_rest_free alphabet longest));
      text = some.0;
      some = some.1;
    }

pub length_number : (count n : ℕ) → length (number count n) ≡ count
length_number zero n = refl
length_number (suc count) n = ap suc (length_number count n)

pub numbers_grammar : (count least most : ℕ) → least ≤ most → IsGrammar (Numbers count least most)
numbers_grammar count least most le = record {
  free = free_by_lengths (Numbers count least most) (λ a b one other.
      ap length one.spelled ∙ length_number count one.value ∙ sym (length_number count other.value)
      ∙ ap length (sym other.spelled));
  text = number count least;
  some = record { value = least; above = omega arith; below = le; spelled = refl };
}

zeros : (count : ℕ) → (text : List ℕ) × Fixed count text
zeros zero = ([], refl)
zeros (suc count) = let more = zeros count in (0 ∷ more.0, ap suc more.1)

pub fixed_grammar : (count : ℕ) → IsGrammar (Fixed count)
fixed_grammar count =
    let some = zeros count in
    record { free = free_by_lengths (Fixed count) (λ a b one other. one ∙ sym other); text = some.0; some = some.1 }

same_lengths : (a b : Addr) → family_of a ≡ family_of b → length (address a) ≡ length (address b)
same_lengths (V4 n) (V4 m) e = refl
same_lengths (V4 n) (V6 m) e = absurd cc
same_lengths (V6 n) (V4 m) e = absurd cc
same_lengths (V6 n) (V6 m) e = refl

of_family_free : (byte : ℕ) → IsFree (PrefixesOf byte)
of_family_free byte = free_by_lengths (PrefixesOf byte) (λ a b one other.
    let same = same_lengths one.value.addr other.value.addr (sym one.is_of ∙ other.is_of) in
    ap length one.spelled ∙ length-append (address one.value.addr) (one.value.len ∷ []) ∙ ap (λ n. n + 1) same
    ∙ sym (length-append (address other.value.addr) (other.value.len ∷ [])) ∙ ap length (sym other.spelled))

pub prefixes_grammar : IsGrammar Prefixes
prefixes_grammar = record {
  free = free_same (Headed PrefixesOf) Prefixes to_family (headed_free PrefixesOf of_family_free);
  text = some_prefix.0;
  some = some_prefix.1;
}

-- ---- one after another

pub pair_grammar : (First Second : List ℕ → Type 0) → IsGrammar First → IsGrammar Second → IsGrammar (Pair First Second)
pair_grammar First Second first second = record {
  free = chain_free First (λ _. Second) first.free (λ front is. second.free);
  text = first.text ++ second.text;
  some = record { front = first.text; back = second.text; split = refl; first = first.some; second = second.some };
}

pub pair_first : (First Second : List ℕ → Type 0) (bytes : List ℕ) (why : Stop) → IsGrammar Second
    → Stops First bytes why → Stops (Pair First Second) bytes why
pair_first First Second bytes why second s =
    first_stops First (λ _. Second) bytes why (λ front is. (second.text, second.some)) s

pub pair_next : (First Second : List ℕ → Type 0) (bytes front rest : List ℕ) (why : Stop) → IsGrammar First
    → First front → bytes ≡ front ++ rest → Stops Second rest why
    → Stops (Pair First Second) bytes why
pair_next First Second bytes front rest why first is e s =
    next_stops First (λ _. Second) bytes front rest why first.free is e s

pub times_grammar : (count : ℕ) (Text : List ℕ → Type 0) → IsGrammar Text → IsGrammar (Times count Text)
unfolding Times
times_grammar zero Text text = record { free = λ a b r s one other e. one ∙ sym other; text = []; some = refl }
times_grammar (suc count) Text text = pair_grammar Text (Times count Text) text (times_grammar count Text text)

-- ---- many texts

-- what many texts of one grammar write, where one writes one value
pub times_from : {A : Type 0} (IsA : A → Type 0) (spell : A → List ℕ) (Text : List ℕ → Type 0) (values : List A)
    → ((value : A) → IsA value → Text (spell value)) → AllByRecursion IsA values
    → Times (length values) Text (flat_map spell values)
unfolding Times
times_from IsA spell Text [] each all = refl
times_from IsA spell Text (value ∷ values) each all = record {
  front = spell value;
  back = flat_map spell values;
  split = refl;
  first = each value all.0;
  second = times_from IsA spell Text values each all.1;
}

pub record AreSpelled {A : Type 0} (IsA : A → Type 0) (spell : A → List ℕ) (count : ℕ) (text : List ℕ) : Type 0 where
  pub values : List A
  pub many : length values ≡ count
  pub all : AllByRecursion IsA values
  pub spelled : text ≡ flat_map spell values

pub times_to : {A : Type 0} (IsA : A → Type 0) (spell : A → List ℕ) (Text : List ℕ → Type 0) (count : ℕ) (text : List ℕ)
    → ((one : List ℕ) → Text one → (value : A) × IsA value × (one ≡ spell value)) → Times count Text text
    → AreSpelled IsA spell count text
unfolding Times
times_to IsA spell Text zero text each is = record { values = []; many = refl; all = tt; spelled = is }
times_to IsA spell Text (suc count) text each is =
    let first = each is.front is.first in
    let more = times_to IsA spell Text count is.back each is.second in
    record {
      values = first.0 ∷ more.values;
      many = ap suc more.many;
      all = (first.1, more.all);
      spelled = is.split ∙ ap (λ t. t ++ is.back) first.2 ∙ ap (λ t. spell first.0 ++ t) more.spelled;
    }

-- a reader of the next of many texts that stops
pub times_first : (Text : List ℕ → Type 0) (count : ℕ) (bytes : List ℕ) (why : Stop) → IsGrammar Text
    → Stops Text bytes why → Stops (Times (suc count) Text) bytes why
unfolding Times
times_first Text count bytes why text s = pair_first Text (Times count Text) bytes why (times_grammar count Text text) s

pub times_next : (Text : List ℕ → Type 0) (count : ℕ) (bytes front rest : List ℕ) (why : Stop) → IsGrammar Text
    → Text front → bytes ≡ front ++ rest
    → Stops (Times count Text) rest why → Stops (Times (suc count) Text) bytes why
unfolding Times
times_next Text count bytes front rest why text is e s =
    pair_next Text (Times count Text) bytes front rest why text is e s

-- ---- what depends on a number

low_bytes : (count n m : ℕ) → number count n ≡ number count m → n % 2 ^ (8 * count) ≡ m % 2 ^ (8 * count)
low_bytes zero n m e = omega arith
low_bytes (suc count) n m e =
    let next : 8 * suc count ≡ 8 + 8 * count = omega arith in
    let first : byte_at count n ≡ byte_at count m = cc in
    let heads : n / 2 ^ (8 * count) % 256 ≡ m / 2 ^ (8 * count) % 256 = sym (byte_is count n) ∙ first
    ∙ byte_is count m in
    let tails : number count n ≡ number count m = cc in
    ap (λ k. n % 2 ^ k) next ∙ mod-pow-add n 8 (8 * count) ∙ ap (λ h. h * 2 ^ (8 * count) + n % 2 ^ (8 * count)) heads
    ∙ ap (λ l. m / 2 ^ (8 * count) % 256 * 2 ^ (8 * count) + l) (low_bytes count n m tails)
    ∙ sym (mod-pow-add m 8 (8 * count)) ∙ ap (λ k. m % 2 ^ k) (sym next)

pub number_once : (count most n m : ℕ) → most < 2 ^ (8 * count) → n ≤ most → m ≤ most
    → number count n ≡ number count m → n ≡ m
number_once count most n m small low high e =
    let a : n < 2 ^ (8 * count) = omega arith in
    let b : m < 2 ^ (8 * count) = omega arith in
    sym (mod-eq_of_lt a) ∙ low_bytes count n m e ∙ mod-eq_of_lt b

behind_free : (count least most : ℕ) (Body : ℕ → List ℕ → Type 0) → most < 2 ^ (8 * count) → ((n : ℕ) → IsFree (Body n))
    → (front : List ℕ)
    → IsFree (Behind count least most Body front)
behind_free count least most Body small free front a b r s one other e =
    let same = number_once count most one.value other.value small one.below other.below (sym one.spelled
    ∙ other.spelled) in
    free other.value a b r s (subst (λ n. Body n a) same one.body) other.body e

pub counted_grammar : (count least most : ℕ) (Body : ℕ → List ℕ → Type 0) → most < 2 ^ (8 * count) → least ≤ most
    → ((n : ℕ) → IsGrammar (Body n))
    → IsGrammar (Counted count least most Body)
counted_grammar count least most Body small le body =
    let numbers = numbers_grammar count least most le in
    record {
      free = chain_free (Numbers count least most) (Behind count least most Body) numbers.free (λ front is.
          behind_free count least most Body small (λ n. (body n).free) front);
      text = number count least ++ (body least).text;
      some = record {
        front = number count least;
        back = (body least).text;
        split = refl;
        first = record { value = least; above = omega arith; below = le; spelled = refl };
        second = record { value = least; above = omega arith; below = le; spelled = refl; body = (body least).some };
      };
    }

pub counted_first : (count least most : ℕ) (Body : ℕ → List ℕ → Type 0) (bytes : List ℕ) (why : Stop)
    → ((n : ℕ) → IsGrammar (Body n))
    → Stops (Numbers count least most) bytes why → Stops (Counted count least most Body) bytes why
counted_first count least most Body bytes why body s =
    first_stops (Numbers count least most) (Behind count least most Body) bytes why (λ front is. (
      (body is.value).text,
      record {
        value = is.value;
        above = is.above;
        below = is.below;
        spelled = is.spelled;
        body = (body is.value).some;
      },
    )) s

pub counted_next : (count least most : ℕ) (Body : ℕ → List ℕ → Type 0) (n : ℕ) (bytes rest : List ℕ) (why : Stop)
    → most < 2 ^ (8 * count) → least ≤ n → n ≤ most
    → bytes ≡ number count n ++ rest → Stops (Body n) rest why → Stops (Counted count least most Body) bytes why
counted_next count least most Body n bytes rest why small low high e s =
    next_stops (Numbers count least most) (Behind count least most Body) bytes (number count n) rest
    why (numbers_grammar count least most (omega arith)).free
    (record { value = n; above = low; below = high; spelled = refl }) e
    (stops_same (Body n) (Behind count least most Body (number count n)) rest why
    (λ text is. record { value = n; above = low; below = high; spelled = refl; body = is })
    (λ text is. subst (λ m. Body m text) (sym (number_once count most n is.value small high is.below is.spelled))
    is.body) s)

-- ---- a tag, and what depends on it

pub record ByTag {T : Type 0} (byte_of : T → ℕ) (Next : T → List ℕ → Type 0) (byte : ℕ) (back : List ℕ) : Type 0 where
  pub tag : T
  pub is_of : byte ≡ byte_of tag
  pub second : Next tag back

to_tag : {T : Type 0} (byte_of : T → ℕ) (Next : T → List ℕ → Type 0) (text : List ℕ) → Tagged byte_of Next text
    → Headed (ByTag byte_of Next) text
to_tag byte_of Next text is = record {
  byte = byte_of is.tag;
  back = is.back;
  split = is.split;
  second = record { tag = is.tag; is_of = refl; second = is.second };
}

from_tag : {T : Type 0} (byte_of : T → ℕ) (Next : T → List ℕ → Type 0) (text : List ℕ)
    → Headed (ByTag byte_of Next) text → Tagged byte_of Next text
from_tag byte_of Next text is = record {
  tag = is.second.tag;
  back = is.back;
  split = is.split ∙ ap (λ b. b ∷ is.back) is.second.is_of;
  second = is.second.second;
}

pub tagged_none : {T : Type 0} (byte_of : T → ℕ) (Next : T → List ℕ → Type 0) (bytes some : List ℕ)
    → Tagged byte_of Next some → bytes ≡ []
    → IsStuck (Tagged byte_of Next) bytes 0
tagged_none byte_of Next bytes some is nil =
    subst (λ b. IsStuck (Tagged byte_of Next) b 0) (sym nil)
    (stuck_same _ _ [] 0 (from_tag byte_of Next) (to_tag byte_of Next)
    (headed_none (ByTag byte_of Next) some (to_tag byte_of Next some is)))

pub tagged_bad : {T : Type 0} (byte_of : T → ℕ) (Next : T → List ℕ → Type 0) (byte : ℕ) (bytes rest some : List ℕ)
    → Tagged byte_of Next some → bytes ≡ byte ∷ rest
    → ((tag : T) (back : List ℕ) → byte ≡ byte_of tag → Next tag back → ⊥)
    → IsStuck (Tagged byte_of Next) bytes (length bytes)
tagged_bad byte_of Next byte bytes rest some is head not =
    subst (λ b. IsStuck (Tagged byte_of Next) b (length b)) (sym head)
    (stuck_same _ _ (byte ∷ rest) (suc (length rest)) (from_tag byte_of Next) (to_tag byte_of Next)
    (headed_bad (ByTag byte_of Next) some byte rest (to_tag byte_of Next some is)
    (λ back its. not its.tag back its.is_of its.second)))

pub tagged_on : {T : Type 0} (byte_of : T → ℕ) (Next : T → List ℕ
    → Type 0) (tag : T) (byte : ℕ) (bytes rest : List ℕ) (why : Stop)
    → ((a b : T) → byte_of a ≡ byte_of b → a ≡ b) → bytes ≡ byte ∷ rest → byte ≡ byte_of tag → Stops (Next tag) rest why
    → Stops (Tagged byte_of Next) bytes why
tagged_on byte_of Next tag byte bytes rest why once head is_of s =
    subst (λ b. Stops (Tagged byte_of Next) b why) (sym head)
    (stops_same (Headed (ByTag byte_of Next)) (Tagged byte_of Next) (byte ∷ rest) why (from_tag byte_of Next)
    (to_tag byte_of Next)
    (headed_on_stops (ByTag byte_of Next) byte rest why
    (stops_same (Next tag) (ByTag byte_of Next byte) rest
    why (λ text is. record { tag = tag; is_of = is_of; second = is })
    (λ text is. subst (λ t. Next t text) (once is.tag tag (sym is.is_of ∙ is_of)) is.second) s)))

pub tagged_free : {T : Type 0} (byte_of : T → ℕ) (Next : T → List ℕ → Type 0)
    → ((a b : T) → byte_of a ≡ byte_of b → a ≡ b) → ((tag : T) → IsFree (Next tag))
    → IsFree (Tagged byte_of Next)
tagged_free byte_of Next once free =
    free_same (Headed (ByTag byte_of Next)) (Tagged byte_of Next) (to_tag byte_of Next)
    (headed_free (ByTag byte_of Next) (λ byte a b r s one other e.
    free other.tag a b r s (subst (λ t. Next t a) (once one.tag other.tag (sym one.is_of ∙ other.is_of)) one.second)
    other.second e))

-- ---- a loop over many texts

-- what a reader of many texts knows after some of them
pub record HasRead {A : Type 0} (spell : A → List ℕ) (Text : List ℕ
    → Type 0) (count done : ℕ) (bytes : List ℕ) (values : List A) (rest : List ℕ) : Type 0 where
  pub many : length values ≡ done
  pub read : bytes ≡ flat_map spell values ++ rest
  pub lifts : (why : Stop) → Stops (Times (count - done) Text) rest why → Stops (Times count Text) bytes why

pub read_none : {A : Type 0} (spell : A → List ℕ) (Text : List ℕ → Type 0) (count : ℕ) (bytes : List ℕ)
    → HasRead spell Text count 0 bytes [] bytes
read_none spell Text count bytes =
    let same : count - 0 ≡ count = omega arith in
    record { many = refl; read = refl; lifts = λ why s. subst (λ n. Stops (Times n Text) bytes why) same s }

pub read_more : {A : Type 0} (spell : A → List ℕ) (Text : List ℕ
    → Type 0) (count done : ℕ) (bytes : List ℕ) (values : List A) (rest : List ℕ) (value : A)
    (after : List ℕ) → IsGrammar Text → done < count → Text (spell value) → rest ≡ spell value ++ after
    → HasRead spell Text count done bytes values rest
    → HasRead spell Text count (done + 1) bytes (values ++ (value ∷ [])) after
read_more spell Text count done bytes values rest value after grammar lt is e has =
    let left : count - done ≡ suc (count - (done + 1)) = omega arith in
    record {
      many = length-append values (value ∷ []) ∙ ap (λ n. n + 1) has.many;
      read = has.read ∙ ap (λ t. flat_map spell values ++ t) e
          ∙ sym (append_assoc (flat_map spell values) (spell value) after)
          ∙ ap (λ t. t ++ after) (sym (flat_map-append spell values (value ∷ [])
          ∙ ap (λ t. flat_map spell values ++ t) (append-nil (spell value))));
      lifts = λ why s. has.lifts why (subst (λ n. Stops (Times n Text) rest why) (sym left)
          (times_next Text (count - (done + 1)) rest (spell value) after why grammar is e s));
    }

pub read_stops : {A : Type 0} (spell : A → List ℕ) (Text : List ℕ
    → Type 0) (count done : ℕ) (bytes : List ℕ) (values : List A) (rest : List ℕ) (why : Stop)
    → IsGrammar Text → done < count → Stops Text rest why → HasRead spell Text count done bytes values rest
    → Stops (Times count Text) bytes why
read_stops spell Text count done bytes values rest why grammar lt s has =
    let left : count - done ≡ suc (count - (done + 1)) = omega arith in
    has.lifts why (subst (λ n. Stops (Times n Text) rest why) (sym left)
    (times_first Text (count - (done + 1)) rest why grammar s))

pub one_grammar : (byte : ℕ) → IsGrammar (One byte)
one_grammar byte = record {
  free = free_by_lengths (One byte) (λ a b one other. ap length (one ∙ sym other));
  text = byte ∷ [];
  some = refl;
}
