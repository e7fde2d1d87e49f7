-- What stays of the numbers of a legal book as it goes on.
use Rattle.std.proofs.Common.{◌≡◌, refl, ap, sym, ◌∙◌, arith}
use Rattle.std.proofs.lemmas.List.{take-append-le, length-append}
use Rattle.std.proofs.lemmas.Option.{slice_get_within}
use Rattle.std.specs.Prelude.{ℕ, ◌+◌, ◌<◌, ◌≤◌, List, length, take, drop}
use Rattle.alto_rows.specs.declared.resource.Resource.{Resource}
use Rattle.alto_rows.specs.Accepted.{Accepted}
use Rattle.alto_rows.specs.Rows.{Rows}
use Rattle.alto_rows.specs.Versions.{window_of, version_of}
use Rattle.tips_graph.specs.Keys.{key_set}
use Rattle.alto_book.specs.Book.{Book, Extends, state_at, rows_of, writes_in}
use Rattle.alto_book.specs.Legal.{IsLegal}
use Rattle.alto_book.specs.NumberLaws.{RowsAtStay, KeysBetweenStay, FirstKeptNeverFalls}
use Rattle.alto_book.specs.Numbers.{touching, batches_to, origin_of, number_declared}
use Rattle.alto_book.proofs.ChangeLemmas.{window_of-base, state_at-extended, slice_get-extended}
use Rattle.alto_book.proofs.DeclaredLemmas.{number_declared_rises}
use Rattle.alto_book.proofs.NumberLemmas.{version_of-later}
use Rattle.alto_book.proofs.PlaceLemmas.{IsGivenAt, reached, base_or_given, batches_to-given, batches_to-base}
use Rattle.alto_book.proofs.StateLemmas.{state_at-all}

-- a number has the place that it had
pub given_extended : (earlier later : Book) (of : Resource) (number place : ℕ) (batch : Accepted)
    → Extends later earlier
    → IsGivenAt earlier of number place batch → IsGivenAt later of number place batch
given_extended earlier later of number place batch more given =
    let within : place < length earlier.batches = slice_get_within earlier.batches place batch given.there in
    record {
      there = rw more.batches (slice_get-extended earlier.batches more.more place batch given.there);
      before = ap (λ (rows : Rows). version_of rows of + 1) (state_at-extended earlier later place more (omega arith))
          ∙ given.before;
      renewed = given.renewed;
    }

-- so as many batches lead to it as did
pub batches_to-extended : (earlier later : Book) (of : Resource) (number : ℕ) → IsLegal earlier → IsLegal later
    → Extends later earlier
    → origin_of earlier of ≤ number → number ≤ version_of (rows_of earlier) of
    → batches_to later of number ≡ batches_to earlier of number
batches_to-extended earlier later of number legal legal_later more low high =
    base_or_given earlier of number legal low high
    (λ same one. batches_to-base later of number (ap (λ (rows : Rows). version_of rows of) more.base ∙ same)
    ∙ sym (batches_to-base earlier of number same))
    (λ found. batches_to-given later of number found.place found.batch
    legal_later (given_extended earlier later of number found.place found.batch more found.given)
    ∙ sym (batches_to-given earlier of number found.place found.batch legal found.given))

-- the rows at a number stay
pub rows_at_stay : RowsAtStay
rows_at_stay earlier later of number legal legal_later more low high =
    ap (state_at later) (batches_to-extended earlier later of number legal legal_later more low high)
    ∙ state_at-extended earlier later (batches_to earlier of number)
    more (reached earlier of number legal low high).within

-- the keys between two numbers stay
pub keys_between_stay : KeysBetweenStay
keys_between_stay earlier later of i j legal legal_later more low within one high =
    ap (λ (batches : List Accepted). key_set (touching of (writes_in batches)))
    (ap (λ (n : ℕ). drop n (take (batches_to later of j) later.batches))
    (batches_to-extended earlier later of i legal legal_later more low within)
    ∙ (ap (λ (n : ℕ). drop (batches_to earlier of i) (take n later.batches))
    (batches_to-extended earlier later of j legal legal_later more one high)
    ∙ (ap (λ (batches : List Accepted). drop (batches_to earlier of i) (take (batches_to earlier of j) batches))
    more.batches
    ∙ ap (drop (batches_to earlier of i))
    (take-append-le (batches_to earlier of j) earlier.batches more.more (reached earlier of j legal one high).within))))

-- a version never falls
pub version_of-extended : (earlier later : Book) (of : Resource) → IsLegal earlier → IsLegal later
    → Extends later earlier
    → version_of (rows_of earlier) of ≤ version_of (rows_of later) of
version_of-extended earlier later of legal legal_later more =
    let longer : length later.batches ≡ length earlier.batches + length more.more =
    ap (λ (batches : List Accepted). length batches) more.batches ∙ length-append earlier.batches more.more in
    rw (
      ← state_at-all earlier,
      ← state_at-all later,
      ← state_at-extended earlier later (length earlier.batches)
          more (omega arith),
    )
    (version_of-later later (length earlier.batches) (length later.batches) of legal_later (omega arith))

-- the window stays
pub window_of-extended : (earlier later : Book) → IsLegal earlier → IsLegal later → Extends later earlier
    → window_of (rows_of later) ≡ window_of (rows_of earlier)
window_of-extended earlier later legal legal_later more =
    window_of-base later legal_later ∙ (ap window_of more.base ∙ sym (window_of-base earlier legal))

-- the first number stays
pub origin_of-extended : (earlier later : Book) (of : Resource) → Extends later earlier
    → origin_of later of ≡ origin_of earlier of
origin_of-extended earlier later of more = rw more.base refl

-- the first number that is kept never falls
pub first_kept_rises : FirstKeptNeverFalls
first_kept_rises earlier later of legal legal_later more =
    let higher : version_of (rows_of earlier) of ≤ version_of (rows_of later) of =
    version_of-extended earlier later of legal legal_later more in
    let same : window_of (rows_of later) ≡ window_of (rows_of earlier) =
    window_of-extended earlier later legal legal_later more in
    let origin : origin_of later of ≡ origin_of earlier of = origin_of-extended earlier later of more in
    let declared : number_declared earlier of ≤ number_declared later of =
    number_declared_rises earlier later of legal_later more in
    omega (arith, higher, same, origin, declared)
