-- Reports, as they are made.
use Rattle.std.proofs.Common.{◌≡◌, ◌≢◌, ◌⊎◌, ℕ, ◌<◌, ◌==◌, if◌then◌else◌, List, [], length, take, Option, Some, None}
use Rattle.std.proofs.Common.{refl, sym, ◌∙◌, ap, subst, inl, inr, append-nil, arith}
use Rattle.std.proofs.lemmas.Bool.Decides.{nat_tests}
use Rattle.alto_http.specs.Link.{extended}
use Rattle.alto_commands.specs.Reports.{Report, Tells, silent}
use Rattle.alto_commands.specs.Status.{faults_at, reads_at}

-- nothing more is out
out_as_was : (out : Option (List ℕ)) → out ≡ extended out []
out_as_was None = refl
out_as_was (Some bytes) = ap Some (sym (append-nil bytes))

-- the text of a report is out
pub told_whole : (report : Report) (out out' : Option (List ℕ)) → out' ≡ extended out report.text
    → Tells report report.status out out'
unfolding Tells
told_whole report out out' whole = inl (refl, whole)

-- a write failed inside it
pub told_part : (report : Report) (out out' : Option (List ℕ)) (size : ℕ) → size < length report.text
    → out' ≡ extended out (take size report.text) → Tells report 5 out out'
unfolding Tells
told_part report out out' size less part = inr (inl (refl, (size, less, part)))

-- memory ran out
pub told_nothing : (report : Report) (out : Option (List ℕ)) → Tells report 1 out out
unfolding Tells
told_nothing report out = inr (inr (refl, refl))

-- a status alone
pub told_silent : (status : ℕ) (out : Option (List ℕ)) → Tells (silent status) status out out
told_silent status out = told_whole (silent status) out out (out_as_was out)

-- a report with the text that was made
pub told_made : (status result : ℕ) (out out' : Option (List ℕ)) (bytes made : List ℕ) → bytes ≡ made
    → Tells (record { status = status; text = bytes }) result out out'
    → Tells (record { status = status; text = made }) result out out'
told_made status result out out' bytes made same told =
    subst (λ (text : List ℕ). Tells (record { status = status; text = text }) result out out') same told

-- a count that rises at another status stays
pub count_stays : (at result n more : ℕ) → result ≢ at → n ≡ (if result == at then more else n)
count_stays at result n more other = Prim.grind (arith, nat_tests, other)

-- the status of a report is its own, a write's fault or out of memory
statuses : (report : Report) (result : ℕ) (out out' : Option (List ℕ)) → Tells report result out out'
    → (result ≡ report.status) ⊎ (result ≡ 5) ⊎ (result ≡ 1)
unfolding Tells
statuses report result out out' told = by told
  where
    by : ((result ≡ report.status) × (out' ≡ extended out report.text))
        ⊎ ((result ≡ 5) × ((size : ℕ) × (size < length report.text) × (out' ≡ extended out (take size report.text))))
        ⊎ ((result ≡ 1) × (out' ≡ out))
        → (result ≡ report.status) ⊎ (result ≡ 5) ⊎ (result ≡ 1)
    by (inl t) = inl t.0
    by (inr (inl t)) = inr (inl t.0)
    by (inr (inr t)) = inr (inr t.0)

-- such a status is none that neither of these is
other_status : (at status result : ℕ) → status ≢ at → 5 ≢ at → 1 ≢ at → (result ≡ status) ⊎ (result ≡ 5) ⊎ (result ≡ 1)
    → result ≢ at
other_status at status result own write memory (inl is) = λ (same : result ≡ at). own (sym is ∙ same)
other_status at status result own write memory (inr (inl is)) = λ (same : result ≡ at). write (sym is ∙ same)
other_status at status result own write memory (inr (inr is)) = λ (same : result ≡ at). memory (sym is ∙ same)

-- the status of a report is none that neither of these is
pub told_not : (at : ℕ) (report : Report) (result : ℕ) (out out' : Option (List ℕ)) → report.status ≢ at → 5 ≢ at
    → 1 ≢ at → Tells report result out out' → result ≢ at
told_not at report result out out' own write memory told =
    other_status at report.status result own write memory (statuses report result out out' told)

-- a report without such a fault counts none
pub no_fault : (report : Report) (result : ℕ) (out out' : Option (List ℕ)) → report.status ≢ 3
    → Tells report result out out' → (n : ℕ) → n ≡ faults_at result n
no_fault report result out out' own told n =
    count_stays 3 result n _ (told_not 3 report result out out' own (λ is. cc) (λ is. cc) told)

pub no_read_fault : (report : Report) (result : ℕ) (out out' : Option (List ℕ)) → report.status ≢ 4
    → Tells report result out out' → (n : ℕ) → n ≡ reads_at result n
no_read_fault report result out out' own told n =
    count_stays 4 result n _ (told_not 4 report result out out' own (λ is. cc) (λ is. cc) told)
