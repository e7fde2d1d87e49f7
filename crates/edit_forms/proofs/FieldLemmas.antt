-- A record's fields by their places.
use Rattle.std.proofs.Common.{◌≡◌, ◌<◌, ℕ, zero, suc, List, [], ◌∷◌, length, Option, Some, None, IsSome, Bor, refl}
use Rattle.std.proofs.Common.{arith}
use Rattle.std.specs.Prelude.{option_map}
use Rattle.csv.specs.Records.{field_at}

-- there is a field at each place below their number
pub field_at-some : (fields : List (List ℕ)) (place : ℕ) → place < length fields → IsSome (field_at fields place)
unfolding field_at
field_at-some [] place h = absurd (omega arith)
field_at-some (field ∷ fields) zero h = refl
field_at-some (field ∷ fields) (suc place) h = field_at-some fields place (omega arith)

-- what is there as bytes is there
pub some_seen : (field : Option (Bor (List ℕ))) (seen : Option (List ℕ)) → option_map (λ text. text.now) field ≡ seen
    → IsSome seen → IsSome field
some_seen None seen e known = cc (e, known)
some_seen (Some text) seen e known = refl

-- six fields are those at the six places
pub six_fields : (fields : List (List ℕ)) (op net a b c d : List ℕ) → length fields ≡ 6
    → field_at fields 0 ≡ Some op → field_at fields 1 ≡ Some net → field_at fields 2 ≡ Some a
    → field_at fields 3 ≡ Some b → field_at fields 4 ≡ Some c → field_at fields 5 ≡ Some d
    → fields ≡ op ∷ net ∷ a ∷ b ∷ c ∷ d ∷ []
unfolding field_at
six_fields (f0 ∷ f1 ∷ f2 ∷ f3 ∷ f4 ∷ f5 ∷ []) op net a b c d six e0 e1 e2 e3 e4 e5 = cc
six_fields (f0 ∷ f1 ∷ f2 ∷ f3 ∷ f4 ∷ f5 ∷ f6 ∷ more) op net a b c d six e0 e1 e2 e3 e4 e5 = absurd (omega arith)
six_fields _ op net a b c d six e0 e1 e2 e3 e4 e5 = absurd (omega arith)
