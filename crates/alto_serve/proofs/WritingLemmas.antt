-- Bytes that go out piece by piece.
use Rattle.std.proofs.Common.{◌≡◌, ℕ, ◌+◌, refl, ap, sym, ◌∙◌, arith, append_assoc, append-nil, length-append}
use Rattle.std.proofs.Math.Seq.{take-append-add}
use Rattle.std.proofs.lemmas.List.{take-append-le}
use Rattle.std.specs.Prelude.{List, [], ◌++◌, Option, Some, None, Result, Ok, Err, OnErr, length, take}
use Rattle.alto_http.specs.Link.{extended}
use Rattle.alto_serve.specs.Writing.{EndsAtWriteFault, IsOutTo}

-- what holds holds of a failure
pub on_err : {A E P : Type 0} (r : Result A E) → P → OnErr r P
on_err (Ok x) holds = tt
on_err (Err e) holds = holds

extended_on : (out : Option (List ℕ)) (xs ys : List ℕ) → extended (extended out xs) ys ≡ extended out (xs ++ ys)
extended_on None xs ys = refl
extended_on (Some out) xs ys = ap Some (append_assoc out xs ys)

extended_none : (out : Option (List ℕ)) → out ≡ extended out []
extended_none None = refl
extended_none (Some out) = ap Some (sym (append-nil out))

-- where nothing is out yet, all bytes are the rest
pub none_out : (out out' : Option (List ℕ)) (bytes : List ℕ) → out' ≡ out → IsOutTo out bytes out' bytes
none_out out out' bytes same = record { front = []; whole = refl; written = same ∙ extended_none out }

-- a front went out
pub front_out : (out out' : Option (List ℕ)) (front rest : List ℕ) → out' ≡ extended out front
    → IsOutTo out (front ++ rest) out' rest
front_out out out' front rest written = record { front = front; whole = refl; written = written }

-- two pieces went out
pub both_out : (out mid out' : Option (List ℕ)) (first second left : List ℕ) → mid ≡ extended out first
    → out' ≡ extended mid second → left ≡ [] → IsOutTo out (first ++ second) out' left
both_out out mid out' first second left a b none =
    rw none
    (record {
      front = first ++ second;
      whole = sym (append-nil (first ++ second));
      written = b ∙ (ap (λ o. extended o second) a ∙ extended_on out first second);
    })

-- the first of two pieces broke off
pub first_breaks : (out out' : Option (List ℕ)) (first second : List ℕ) → EndsAtWriteFault out first out'
    → EndsAtWriteFault out (first ++ second) out'
first_breaks out out' first second cut = (
  cut.0,
  omega (arith, cut.1, length-append first second),
  cut.2 ∙ ap (extended out) (sym (take-append-le cut.0 first second (omega (arith, cut.1)))),
)

-- the second did
pub second_breaks : (out mid out' : Option (List ℕ)) (first second : List ℕ) → mid ≡ extended out first
    → EndsAtWriteFault mid second out' → EndsAtWriteFault out (first ++ second) out'
second_breaks out mid out' first second a cut = (
  length first + cut.0,
  omega (arith, cut.1, length-append first second),
  cut.2
      ∙ (ap (λ o. extended o (take cut.0 second)) a
      ∙ (extended_on out first (take cut.0 second) ∙ ap (extended out) (sym (take-append-add first second cut.0)))),
)

-- ---- a body part by part

-- one part more
pub part_out : (out mid out' : Option (List ℕ)) (bytes gathered left part more : List ℕ)
    → IsOutTo out bytes mid (gathered ++ (part ++ more)) → IsOutTo mid (gathered ++ part) out' left
    → IsOutTo out bytes out' (left ++ more)
part_out out mid out' bytes gathered left part more before one = record {
  front = before.front ++ one.front;
  whole = before.whole ∙ (ap (λ rest. before.front ++ rest) (sym (append_assoc gathered part more)
      ∙ (ap (λ both. both ++ more) one.whole ∙ append_assoc one.front left more))
      ∙ sym (append_assoc before.front one.front (left ++ more)));
  written = one.written ∙ (ap (λ o. extended o one.front) before.written ∙ extended_on out before.front one.front);
}

-- a part broke off
pub part_breaks : (out mid out' : Option (List ℕ)) (bytes gathered part more : List ℕ)
    → IsOutTo out bytes mid (gathered ++ (part ++ more)) → EndsAtWriteFault mid (gathered ++ part) out'
    → EndsAtWriteFault out bytes out'
part_breaks out mid out' bytes gathered part more before cut =
    rw before.whole
    (second_breaks out mid out' before.front (gathered ++ (part ++ more)) before.written
    (rw (← append_assoc gathered part more) (first_breaks mid out' (gathered ++ part) more cut)))

-- the rest broke off
pub rest_breaks : (out mid out' : Option (List ℕ)) (bytes rest : List ℕ) → IsOutTo out bytes mid rest
    → EndsAtWriteFault mid rest out' → EndsAtWriteFault out bytes out'
rest_breaks out mid out' bytes rest before cut =
    rw before.whole (second_breaks out mid out' before.front rest before.written cut)
