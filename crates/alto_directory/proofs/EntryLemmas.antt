-- Entries that are put one behind another.
use Rattle.std.proofs.Common.{◌≡◌, refl, ap, ◌∙◌}
use Rattle.std.proofs.lemmas.List.{append_assoc}
use Rattle.std.specs.Prelude.{List, [], ◌∷◌, ◌++◌, map}
use Rattle.alto_directory.specs.Entry.{EntryData, shown}
use Rattle.alto_directory.specs.declared.entry.Entry.{Entry}

pub two_pushed : (old : List Entry) (a b : Entry) (x y : EntryData) → shown a ≡ x → shown b ≡ y
    → map shown ((old ++ a ∷ []) ++ b ∷ []) ≡ map shown old ++ (x ∷ y ∷ [])
two_pushed [] a b x y e f = rw (← e, ← f) refl
two_pushed (first ∷ old) a b x y e f = ap (λ more. shown first ∷ more) (two_pushed old a b x y e f)

pub three_pushed : (old : List Entry) (a b c : Entry) (x y z : EntryData) → shown a ≡ x → shown b ≡ y → shown c ≡ z
    → map shown (((old ++ a ∷ []) ++ b ∷ []) ++ c ∷ []) ≡ map shown old ++ (x ∷ y ∷ z ∷ [])
three_pushed [] a b c x y z e f g = rw (← e, ← f, ← g) refl
three_pushed (first ∷ old) a b c x y z e f g = ap (λ more. shown first ∷ more) (three_pushed old a b c x y z e f g)

-- four lists behind another
pub four_joined : (old a b c d : List EntryData) → (((old ++ a) ++ b) ++ c) ++ d ≡ old ++ (a ++ (b ++ (c ++ d)))
four_joined old a b c d = append_assoc ((old ++ a) ++ b) c d
    ∙ (append_assoc (old ++ a) b (c ++ d) ∙ append_assoc old a (b ++ (c ++ d)))
