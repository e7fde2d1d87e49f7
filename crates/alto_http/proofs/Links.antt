-- One call on a link after another.
use Rattle.std.proofs.Common.{◌≡◌, ℕ, ◌+◌, List, [], ◌++◌, take, drop, Option, Some, None, refl, ap, sym, ◌∙◌}
use Rattle.std.proofs.Common.{append_assoc}
use Rattle.std.proofs.Math.Seq.{take-add}
use Rattle.alto_http.specs.Link.{extended, followed_by}

-- one piece put out after another is both joined
pub extended-extended : (out : Option (List ℕ)) (a b : List ℕ) → extended (extended out a) b ≡ extended out (a ++ b)
extended-extended None a b = refl
extended-extended (Some out) a b = ap Some (append_assoc out a b)

-- the first at bytes are out, and then k more
pub extended_more : (out before after : Option (List ℕ)) (bytes : List ℕ) (at k : ℕ)
    → before ≡ extended out (take at bytes) → after ≡ extended before (take k (drop at bytes))
    → after ≡ extended out (take (at + k) bytes)
extended_more out before after bytes at k h put =
    put ∙ ap (λ o. extended o (take k (drop at bytes))) h
    ∙ extended-extended out (take at bytes) (take k (drop at bytes))
    ∙ ap (extended out) (sym (take-add at k bytes))

-- bytes that follow others
pub followed_by-followed_by : (a b : List ℕ) (left : Option (List ℕ))
    → followed_by a (followed_by b left) ≡ followed_by (a ++ b) left
followed_by-followed_by a b None = refl
followed_by-followed_by a b (Some left) = ap Some (sym (append_assoc a b left))

-- nothing comes before what is left
pub followed_by_none : (left : Option (List ℕ)) → left ≡ followed_by [] left
followed_by_none None = refl
followed_by_none (Some left) = refl
