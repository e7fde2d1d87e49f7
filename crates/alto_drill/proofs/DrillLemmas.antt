-- What a drill comes to, from what its parts come to.
use Rattle.std.proofs.Common.{◌≡◌, ℕ, [], length, ap, ◌∙◌}
use Rattle.sha2.specs.Sha256.{sha256}
use Rattle.alto_rows.specs.declared.resource.Resource.{Resource}
use Rattle.alto_rows.specs.declared.resource.Resource.TheVariants as resource
use Rattle.alto_book.specs.Book.{Book}
use Rattle.alto_drill.specs.declared.drilled.Drilled.{Drilled}
use Rattle.alto_drill.specs.Drilled.{drilled_by, failures_in, trials_of}
use Rattle.alto_drill.specs.Imports.{drill_book, metric_name, net_name}
use Rattle.alto_drill.specs.Trials.{TrialData, with_resource}

-- three resources in turn
pub all_tried : (book : Book) (a b c : Resource) (none first second third : TrialData)
    → a ≡ resource.Net net_name → b ≡ resource.Cost net_name metric_name → c ≡ resource.Prop net_name
    → none ≡ record { bodies = []; leads = [] } → first ≡ with_resource book a none
    → second ≡ with_resource book b first
    → third ≡ with_resource book c second → third ≡ trials_of book
unfolding trials_of
all_tried book a b c none first second third is_a is_b is_c empty one two three =
    let p : first ≡ with_resource book (resource.Net net_name) (record { bodies = []; leads = [] }) =
    one ∙ (λ n. with_resource book (is_a n) (empty n)) in
    let q : second ≡ with_resource book (resource.Cost net_name metric_name)
    (with_resource book (resource.Net net_name) (record { bodies = []; leads = [] })) =
    two ∙ (λ n. with_resource book (is_b n) (p n)) in
    three ∙ (λ n. with_resource book (is_c n) (q n))

-- the whole drill
pub drilled_is : (number batches : ℕ) (book : Book) (trials : TrialData) (drilled : Drilled)
    → book ≡ drill_book number batches → trials ≡ trials_of book → drilled.batches ≡ batches
    → drilled.edges ≡ length trials.leads
    → drilled.failed ≡ failures_in trials.leads → drilled.map ≡ sha256 trials.bodies
    → drilled ≡ drilled_by number batches
unfolding drilled_by
drilled_is number batches book trials drilled is_book is_trials b e f m =
    let all : trials ≡ trials_of (drill_book number batches) = is_trials ∙ ap trials_of is_book in
    (λ n. record { batches = b n; edges = e n; failed = f n; map = m n })
    ∙ (λ n. record {
      batches = batches;
      edges = length (all n).leads;
      failed = failures_in (all n).leads;
      map = sha256 (all n).bodies;
    })
