-- A key is its own side and address, and what is found by it.
use Rattle.std.proofs.Common.{◌≡◌, ℕ, true, List, [], ◌∷◌, ◌++◌, Some, None, string_bytes, bytes_eq, refl, subst}
use Rattle.std.proofs.lemmas.List.Folds.{find-append}
use Rattle.std.proofs.lemmas.Slice.Eq.{bytes_eq-Decides}
use Rattle.alto_answers.specs.declared.route.Side.{Side}
use Rattle.alto_answers.specs.declared.route.Side.TheVariants as side
use Rattle.alto_doors.specs.Keys.{is_key, same_side}
use Rattle.alto_doors.specs.Listeners.{listener_at}
use Rattle.alto_doors.specs.declared.key.DoorKey.{DoorKey}
use Rattle.alto_doors.specs.declared.tcp_doors.SharedListener.{SharedListener}

same_side_itself : (it : Side) → same_side it it ≡ true
same_side_itself side.Public = refl
same_side_itself side.Operator = refl
same_side_itself side.Both = refl

-- a key is its own side and address
pub is_key_itself : (key : DoorKey) (it : Side) (address : List ℕ) → key.side ≡ it → string_bytes key.address ≡ address
    → is_key it address key ≡ true
is_key_itself key it address same spelled =
    let sides : same_side key.side it ≡ true =
    subst (λ (other : Side). same_side key.side other ≡ true) same (same_side_itself key.side) in
    let texts : bytes_eq (string_bytes key.address) address ≡ true =
    (bytes_eq-Decides (string_bytes key.address) address).1 spelled in
    rw (sides, texts) refl

-- a listener that is added is found, where none was
pub found_last : (it : Side) (address : List ℕ) (listeners all : List SharedListener) (shared : SharedListener)
    → listener_at it address listeners ≡ None → is_key it address shared.key ≡ true → all ≡ listeners ++ shared ∷ []
    → listener_at it address all ≡ Some shared
found_last it address listeners all shared none found more =
    rw (
      more,
      find-append (λ (other : SharedListener). is_key it address other.key)
          listeners (shared ∷ []),
      none,
      found,
    )
    refl
