-- The statuses with which serving ends.
use Rattle.std.proofs.Common.{◌≡◌, ◌≢◌, ◌⊎◌, ◌∙◌, ℕ, ap, inl, inr, sym}
use Rattle.alto_keeper.specs.Stored.{one_more}
use Rattle.alto_commands.specs.Status.{faults_at}

-- a status is none that none of the three is
pub ends_not : (at result : ℕ) {A B : Type 0} → 0 ≢ at → 6 ≢ at → 1 ≢ at
    → ((((result ≡ 0) ⊎ (result ≡ 6)) × A) ⊎ (result ≡ 1)) ⊎ ((result ≡ 6) × B) → result ≢ at
ends_not at result done fault memory (inl (inl (inl is, served))) = λ (same : result ≡ at). done (sym is ∙ same)
ends_not at result done fault memory (inl (inl (inr is, served))) = λ (same : result ≡ at). fault (sym is ∙ same)
ends_not at result done fault memory (inl (inr is)) = λ (same : result ≡ at). memory (sym is ∙ same)
ends_not at result done fault memory (inr (is, opens)) = λ (same : result ≡ at). fault (sym is ∙ same)

-- a count that rises by one where the status is a fault's
pub counted_at : (result n more : ℕ) → more ≡ faults_at result n → result ≡ 3 → more ≡ one_more n
counted_at result n more same is = same ∙ ap (λ (status : ℕ). faults_at status n) is
