-- One more connection of a door was served, and how far a count has risen.
use Rattle.std.proofs.Common.{◌≡◌, ◌≢◌, Fits, w64, Ok, ◌≤◌, ◌<◌, ◌+◌, ◌-◌, ◌^◌, ℕ, zero, suc, Bool, true, false, ◌||◌}
use Rattle.std.proofs.Common.{nat_le, List, [], ◌∷◌, ◌++◌, Option, Some, None, option_to_list, ◌⊎◌, inl, inr, refl, sym}
use Rattle.std.proofs.Common.{ap, subst, ◌∙◌, append_assoc, arith}
use Rattle.std.proofs.lemmas.Bool.Decides.{nat_tests}
use Rattle.alto_addr.specs.declared.addr.Addr.{Addr}
use Rattle.alto_http.specs.Link.{one_more}
use Rattle.alto_serve.specs.declared.end.End.{End}
use Rattle.alto_serve.specs.Connections.{Serves, state}
use Rattle.alto_serve.specs.Events.{Known}
use Rattle.alto_serve.specs.Turns.{Setting}
use Rattle.alto_doors.specs.Door.{followed_by, is_served, risen}
use Rattle.alto_doors.specs.Workers.{HasServed, IsLeft, ServesEach, taken}
use Rattle.alto_doors.specs.declared.state.DoorState.{DoorState}

-- ---- connections

followed_none : {A : Type 0} (left : Option (List A)) → left ≡ followed_by [] left
followed_none None = refl
followed_none (Some left) = refl

followed_on : {A : Type 0} (first second : List A) (left : Option (List A))
    → followed_by first (followed_by second left) ≡ followed_by (first ++ second) left
followed_on first second None = refl
followed_on first second (Some left) = ap Some (sym (append_assoc first second left))

serves_on : {L : Type 0} (left out : L → Option (List ℕ)) (setting : Option Addr → Setting)
    (first second : List (L × Option Addr)) (known middle later : Known)
    → ServesEach left out setting first known middle → ServesEach left out setting second middle later
    → ServesEach left out setting (first ++ second) known later
unfolding ServesEach
serves_on left out setting [] second known middle later same served =
    subst (λ (at : Known). ServesEach left out setting second at later) (sym same) served
serves_on left out setting ((link, peer) ∷ first) second known middle later (ended, it, next, one, more) served =
    (ended, it, next, one, serves_on left out setting first second next middle later more served)

-- nothing was given
pub served_none : {L : Type 0} (left out : L → Option (List ℕ)) (setting : Option Addr → Setting)
    (before after : Option (List (L × Option Addr))) (known : Known) → before ≡ after
    → HasServed left out setting before after known known
unfolding ServesEach
served_none left out setting before after known same =
    record { given = []; gave = same ∙ followed_none after; served = refl }

-- no connection came
pub served_at_end : {L : Type 0} (left out : L → Option (List ℕ)) (setting : Option Addr → Setting)
    (before after : Option (List (L × Option Addr))) (known : Known) (given : Option (L × Option Addr)) → given ≡ None
    → before ≡ followed_by (option_to_list given) after
    → HasServed left out setting before after known known
served_at_end left out setting before after known given none gave =
    served_none left out setting before after known (rw none at gave ∙ sym (followed_none after))

-- a connection came, was served and given back
pub served_one : {L : Type 0} (left out : L → Option (List ℕ)) (setting : Option Addr → Setting)
    (before at after : Option (List (L × Option Addr))) (known later : Known) (given : Option (L × Option Addr))
    (link served : L) (peer : Option Addr) (ended : End)
    → given ≡ Some (link, peer) → before ≡ followed_by (option_to_list given) at → after ≡ at
    → Serves ended (setting peer) (state known (left link) (out link)) (state later (left served) (out served))
    → HasServed left out setting before after known later
unfolding ServesEach
served_one left out setting before at after known later given link served peer ended some gave same serves =
    record {
      given = (link, peer) ∷ [];
      gave = rw some at gave ∙ ap (followed_by ((link, peer) ∷ [])) (sym same);
      served = (ended, served, later, serves, refl);
    }

-- some were given, and then others
pub served_on : {L : Type 0} (left out : L → Option (List ℕ)) (setting : Option Addr → Setting)
    (before middle after : Option (List (L × Option Addr))) (known next later : Known)
    → HasServed left out setting before middle known next → HasServed left out setting middle after next later
    → HasServed left out setting before after known later
served_on left out setting before middle after known next later first second =
    record {
      given = first.given ++ second.given;
      gave = first.gave ∙ ap (followed_by first.given) second.gave ∙ followed_on first.given second.given after;
      served = serves_on left out setting first.given second.given known next later first.served second.served;
    }

-- ---- the door's state

-- a count that has risen so many times is at least so many
risen_least : (count n : ℕ) → n ≤ 2 ^ 64 - 1 → n ≤ risen count n
risen_least count zero within = omega arith
risen_least count (suc n) within = let before : n ≤ risen count n = risen_least count n (omega arith) in omega arith

or_true : (b : Bool) → (b || true) ≡ true
or_true false = refl
or_true true = refl

-- a worker left a door that has ended
pub left_ended : (before at after : DoorState) (failed : ℕ) → at.faults ≡ risen before.faults failed
    → at.is_out ≡ false → failed < 1000 → after ≡ record at { has_ended = true } → IsLeft before after
left_ended before at after failed counted back few same =
    record {
      failed = failed;
      counted = ap (λ (door : DoorState). door.faults) same ∙ counted;
      back = ap (λ (door : DoorState). door.is_out) same ∙ back;
      done = inl (ap (λ (door : DoorState). door.has_ended) same, few);
    }

-- a worker left a door after as many failed accepts as end it
pub left_failed : (before at after : DoorState) (failed : ℕ) → at.faults ≡ risen before.faults failed
    → at.is_out ≡ false → failed + 1 ≡ 1000 → after ≡ record at { faults = one_more at.faults } → IsLeft before after
left_failed before at after failed counted back enough same =
    record {
      failed = suc failed;
      counted = ap (λ (door : DoorState). door.faults) same ∙ ap one_more counted;
      back = ap (λ (door : DoorState). door.is_out) same ∙ back;
      done = inr (omega arith);
    }

least_true : (least n : ℕ) → least ≤ n → nat_le least n ≡ true
least_true least n within = grind (arith, nat_tests)

done_where : (before after : DoorState) (failed : ℕ) → after.faults ≡ risen before.faults failed → after.is_out ≡ false
    → ((after.has_ended ≡ true) × (failed < 1000)) ⊎ (failed ≡ 1000) → is_served after ≡ true
done_where before after failed counted back (inl ended) = rw (back, ended.0) refl
done_where before after failed counted back (inr enough) =
    let least : failed ≤ risen before.faults failed = risen_least before.faults failed (omega arith) in
    let many : 1000 ≤ after.faults = omega arith in
    rw (back, least_true 1000 after.faults many) (or_true after.has_ended)

-- a door that a worker left was served to its end
pub served_where_left : (before after : DoorState) → IsLeft before after → is_served after ≡ true
served_where_left before after left = done_where before after left.failed left.counted left.back left.done

-- one failed accept more was counted
pub counted_on : (count at n : ℕ) → at ≡ risen count n → one_more at ≡ risen count (n + 1)
counted_on count at n same =
    let next : n + 1 ≡ suc n = omega arith in
    subst (λ (times : ℕ). one_more at ≡ risen count times) (sym next) (ap one_more same)

-- ---- one turn of the worker

-- a connection came, and the door's state is as before
pub kept_on : (at after : DoorState) (came : Bool) → after ≡ taken (Ok came) at → came ≡ true → after ≡ at
kept_on at after came noted one = rw one at noted

-- no connection came, and the door has ended
pub ended_on : (at after : DoorState) (came : Bool) → after ≡ taken (Ok came) at → came ≡ false
    → after ≡ record at { has_ended = true }
ended_on at after came noted none = rw none at noted

-- the failed accepts stay fewer than end a worker, until they are as many
pub few_first : 0 < 1000
few_first = omega arith

pub few_on : (n : ℕ) → n < 1000 → n + 1 ≢ 1000 → n + 1 < 1000
few_on n few other = omega arith

pub fits_on : (n : ℕ) → n < 1000 → Fits w64 (n + 1)
fits_on n few = omega arith

-- an endless loop doesn't end
pub no_end : false ≡ true → ⊥
no_end clash = cc
