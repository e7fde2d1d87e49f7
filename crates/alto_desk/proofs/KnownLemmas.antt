-- What is known of an id, and the last moment.
use Rattle.std.proofs.Common.{◌≡◌, ℕ, List, ◌++◌, refl, sym, ◌∙◌}
use Rattle.std.proofs.lemmas.List.Sums.{fold-append}
use Rattle.std.specs.Prelude.{Bool, true, false, not, MatchBool, Option, Some, None, fold, is_some, option_map}
use Rattle.alto_rows.specs.Accepted.{Accepted}
use Rattle.alto_book.specs.Acceptance.{known, last_moment}
use Rattle.alto_book.specs.Book.{Book, Kept, all_kept}
use Rattle.alto_book.specs.Import.{Import}
use Rattle.alto_desk.specs.Opening.{IsNew}

-- an import whose id is answered is known, with this answer, and one whose id isn't is new
pub record IsKnown (kept : List Kept) (import : Import) {A : Type 0} (answer : A) (answered : ℕ × Kept
    → A) : Type 0 where
  pub numbered : ℕ × Kept
  pub is : Some numbered ≡ known kept import.id
  pub same : answer ≡ answered numbered

pub known_of : {A : Type 0} (kept : List Kept) (import : Import) (answer : A) (answered : ℕ × Kept → A)
    → Some answer ≡ option_map answered (known kept import.id)
    → IsKnown kept import answer answered
known_of kept import answer answered h = by (known kept import.id) refl h
  where
    by : (o : Option (ℕ × Kept)) → known kept import.id ≡ o → Some answer ≡ option_map answered o
        → IsKnown kept import answer answered
    by None e g = cc
    by (Some numbered) e g = record { numbered = numbered; is = sym e; same = cc }

pub new_of : {A : Type 0} (kept : List Kept) (import : Import) (answered : ℕ × Kept → A)
    → None ≡ option_map answered (known kept import.id)
    → known kept import.id ≡ None
new_of kept import answered h = by (known kept import.id) h
  where
    by : (o : Option (ℕ × Kept)) → None ≡ option_map answered o → o ≡ None
    by None g = refl
    by (Some numbered) g = cc

-- ---- the last moment

pub last_both : (first second : List Kept)
    → last_moment (first ++ second) ≡ fold (λ _ one. one.moment) (last_moment first) second
last_both first second = fold-append (λ (_ : ℕ) (one : Kept). one.moment) 0 first second

-- ---- new ids

-- what is known of the id tells whether it is new
pub new_told : {A : Type 0} (book : Book) (batch : Accepted) (found : Option A) (seen : A → ℕ × Kept) (new : Bool)
    → is_some found ≡ not new → option_map seen found ≡ known (all_kept book) batch.id
    → MatchBool new (IsNew book batch) (¬ IsNew book batch)
new_told book batch (Some x) seen true e told = cc
new_told book batch (Some x) seen false e told = λ none. let never = told ∙ none in cc
new_told book batch None seen true e told = sym told
new_told book batch None seen false e told = cc
