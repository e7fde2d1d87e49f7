-- Lists whose elements are seen through a function.
use Rattle.std.proofs.Common.{◌∙◌, ℕ, ◌<◌, List, [], ◌∷◌, length, get_or, map, Any, subst, sym, arith}
use Rattle.std.proofs.lemmas.List.{get_or-map, length-map}

-- where P holds of no element's image, it holds of no element of the images
pub Any-map-none : {X Y : Type 0} (P : Y → Type 0) (f : X → Y) (xs : List X)
    → ((k : ℕ) (x : X) → k < length xs → P (f (get_or xs k x)) → ⊥) → Any P (map f xs) → ⊥
Any-map-none P f [] none (k, y, inside, e, holds) = absurd (omega (arith, inside))
Any-map-none P f (x ∷ xs) none (k, y, inside, e, holds) =
    let within : k < length (x ∷ xs) = omega (arith, length-map (x ∷ xs) f, inside) in
    none k x within (subst P (sym e ∙ get_or-map f (x ∷ xs) k x y within) holds)
