-- The writes up to a place and the next.
use Rattle.std.proofs.Common.{◌≡◌, ℕ, ◌+◌, ◌<◌, ap, sym, ◌∙◌, add-one, List, [], ◌∷◌, ◌++◌, length, get_or, take}
use Rattle.std.proofs.Math.Seq.{take-suc}
use Rattle.alto_rows.specs.declared.write.Write.{Write}

-- one write more
pub taken_next : (writes : List Write) (i : ℕ) (write : Write) → i < length writes → write ≡ get_or writes i write
    → take (i + 1) writes ≡ take i writes ++ write ∷ []
taken_next writes i write within is =
    rw (add-one i) (take-suc writes i write within ∙ ap (λ (w : Write). take i writes ++ w ∷ []) (sym is))
