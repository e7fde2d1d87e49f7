-- Counts of doors that are closed, and what holds of all of a list.
use Rattle.std.proofs.Common.{◌≡◌, ◌+◌, ◌∙◌, ◌++◌, ℕ, suc, true, List, [], ◌∷◌, All, ap, refl, subst, sym}
use Rattle.std.proofs.lemmas.List.Elements.{All-append, All-cons, All-head, All-nil, All-tail}
use Rattle.alto_doors.specs.Door.{is_served, just_opened, risen}
use Rattle.alto_doors.specs.Doors.{closed, one_more_if}
use Rattle.alto_doors.specs.declared.counts.DoorCounts.{DoorCounts}
use Rattle.alto_doors.specs.declared.state.DoorState.{DoorState}
use Rattle.alto_http.specs.Link.{one_more}

-- a door that was just opened counts for nothing
pub closed_unused : (door : DoorState) (counts : DoorCounts) → door ≡ just_opened → closed door counts ≡ counts
closed_unused door counts is = rw is refl

-- one that was served to its end counts for one
pub closed_served : (door : DoorState) (first : ℕ) (counts later : DoorCounts) (n : ℕ) → is_served door ≡ true
    → counts.served ≡ risen first n → later ≡ closed door counts → later.served ≡ risen first (suc n)
closed_served door first counts later n served so_far is =
    ap (λ (counts : DoorCounts). counts.served) is ∙ ap (λ was. one_more_if was counts.served) served
    ∙ ap one_more so_far

-- what holds of all holds of the first and of the rest
pub all_parted : {X : Type 0} {x : X} {xs ys : List X} → ys ≡ x ∷ xs → (P : X → Type 0) → All P ys → P x × All P xs
all_parted {X} {x} {xs} {ys} is P all =
    let moved = subst (All P) is all in (All-head P x xs moved, All-tail P x xs moved)

-- it holds of one more at the end
pub all_with : {X : Type 0} (x : X) (xs ys : List X) → ys ≡ xs ++ x ∷ [] → (P : X → Type 0) → All P xs → P x → All P ys
all_with x xs ys is P all one =
    subst (All P) (sym is) (All-append P xs (x ∷ []) all (All-cons P x [] one (All-nil P)))
