-- How the longest front of a text in a language made of others follows from theirs.
use Rattle.std.proofs.Common.{◌≡◌, ◌≢◌, ℕ, zero, suc, ◌+◌, ◌≤◌, max, List, [], ◌∷◌, ◌++◌, length, take, refl, sym, ap}
use Rattle.std.proofs.Common.{◌∙◌, subst, inl, inr, arith, length-append}
use Rattle.std.proofs.lemmas.Bool.{cases_lt}
use Rattle.std.proofs.lemmas.List.{length-take-le}
use Rattle.alto_addr.specs.Place.{Begins, IsLongestFront}
use Rattle.alto_addr.specs.Languages.{Behind, Either, one, other, Nothing}

-- a longest front in each of two languages
pub IsLongestFront-Either : (One Other : List ℕ → Type 0) (text : List ℕ) (a b : ℕ) → IsLongestFront One text a
    → IsLongestFront Other text b
    → IsLongestFront (Either One Other) text (max a b)
IsLongestFront-Either One Other text a b h k = record {
  within = omega (arith, h.within, k.within);
  begins = elim (cases_lt a b) [
    | inl less ↦ let e : b ≡ max a b = omega arith in
        subst (λ n. Begins (Either One Other) (take n text)) e (k.begins.0, other k.begins.1)
    | inr more ↦ let e : a ≡ max a b = omega arith in
        subst (λ n. Begins (Either One Other) (take n text)) e (h.begins.0, one h.begins.1)
  ];
  longest = λ m within begins. elim begins.1 [
    | one x ↦ let least : m ≤ a = h.longest m within (begins.0, x) in omega arith
    | other x ↦ let least : m ≤ b = k.longest m within (begins.0, x) in omega arith
  ];
}

-- only the empty text
pub IsLongestFront-Nothing : (text : List ℕ) → IsLongestFront Nothing text 0
IsLongestFront-Nothing text = record {
  within = omega arith;
  begins = ([], record { nothing = refl });
  longest = λ m within begins.
      let e : length (take m text) + length begins.0 ≡ 0 = sym (length-append (take m text) begins.0)
      ∙ ap length begins.1.nothing in
      omega (arith, length-take-le m text within);
}

-- a byte and then a longest front
pub IsLongestFront-Behind : (byte : ℕ) (Second : List ℕ → Type 0) (text : List ℕ) (n : ℕ) → IsLongestFront Second text n
    → IsLongestFront (Behind byte Second) (byte ∷ text) (suc n)
IsLongestFront-Behind byte Second text n h = record {
  within = omega (arith, h.within);
  begins = (h.begins.0, record { back = take n text ++ h.begins.0; split = refl; second = h.begins.1 });
  longest = behind;
}
  where
    behind : (m : ℕ) → m ≤ length (byte ∷ text) → Begins (Behind byte Second) (take m (byte ∷ text)) → m ≤ suc n
    behind zero within begins = omega arith
    behind (suc m) within begins =
        let e : take m text ++ begins.0 ≡ begins.1.back = cc begins.1.split in
        let least : m ≤ n = h.longest m (omega arith) (begins.0, subst Second (sym e) begins.1.second) in
        omega arith

-- where another byte stands, or none, no byte goes along
pub IsLongestFront-not_Behind : (byte : ℕ) (Second : List ℕ → Type 0) (text some : List ℕ) → Second some
    → ((rest : List ℕ) → text ≢ byte ∷ rest)
    → IsLongestFront (Behind byte Second) text 0
IsLongestFront-not_Behind byte Second text some second not = record {
  within = omega arith;
  begins = (byte ∷ some, record { back = some; split = refl; second = second });
  longest = λ m. behind m text not;
}
  where
    behind : (m : ℕ) (text : List ℕ) → ((rest : List ℕ) → text ≢ byte ∷ rest) → m ≤ length text
        → Begins (Behind byte Second) (take m text) → m ≤ 0
    behind zero text not within begins = omega arith
    behind (suc m) [] not within begins = within
    behind (suc m) (first ∷ text) not within begins =
        let e : first ≡ byte = cc begins.1.split in
        absurd (not text (ap (λ b. b ∷ text) e))
