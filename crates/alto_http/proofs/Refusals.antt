-- A refusal is by one of the checks.
use Rattle.std.proofs.Common.{◌≡◌, ℕ, Bool, true, false, if◌then◌else◌, List, [], ◌∷◌, is_some, Result, Ok, Err, nat_le}
use Rattle.std.proofs.Common.{refl, ap, sym, ◌∙◌, inl, inr, codes}
use Rattle.std.specs.Str.Parse.{digits_value}
use Rattle.std.proofs.lemmas.Bool.{false≢true}
use Rattle.alto_http.specs.declared.fault.HeadFault.{HeadFault}
use Rattle.alto_http.specs.declared.fault.HeadFault.TheVariants.{TooLarge, BadHead, Coded, NoLength, BodyTooLarge, Cut}
use Rattle.alto_http.specs.declared.fault.HeadFault.TheVariants.{ReadFault, Memory}
use Rattle.alto_http.specs.Fields.{values_of, first, body_limit, is_decimal, length_of_body}
use Rattle.alto_http.specs.Request.{FailsBy, is_post, verb_of, fields_of}
use Rattle.alto_http.specs.Splits.{IsRefused}
use Rattle.alto_http.specs.Laws.{RefusalIsByACheck}

-- whether the fault is that of a check
is_by_check : HeadFault → Bool
is_by_check TooLarge = true
is_by_check BadHead = true
is_by_check Coded = true
is_by_check NoLength = true
is_by_check BodyTooLarge = true
is_by_check Cut = false
is_by_check ReadFault = false
is_by_check Memory = false

abbrev Refuses : Result ℕ HeadFault → HeadFault → Type 0
Refuses length fault = length ≡ Err fault

same_fault : (one other : HeadFault) → is_by_check one ≡ true → Refuses (Err one) other → is_by_check other ≡ true
same_fault one other is e = let faults : other ≡ one = cc in ap is_by_check faults ∙ is

said_by_check : (decimal within : Bool) (n : ℕ) (fault : HeadFault)
    → Refuses (if decimal then (if within then Ok n else Err BodyTooLarge) else Err BadHead) fault
    → is_by_check fault ≡ true
unfolding is_by_check
said_by_check true true n fault e = cc
said_by_check true false n fault e = same_fault BodyTooLarge fault refl e
said_by_check false within n fault e = same_fault BadHead fault refl e

no_length_by_check : (post : Bool) (fault : HeadFault) → Refuses (if post then Err NoLength else Ok 0) fault
    → is_by_check fault ≡ true
unfolding is_by_check
no_length_by_check true fault e = same_fault NoLength fault refl e
no_length_by_check false fault e = cc

length_by_check : (post : Bool) (values : List (List ℕ)) (fault : HeadFault)
    → Refuses (length_of_body post values) fault → is_by_check fault ≡ true
unfolding is_by_check
length_by_check post [] fault e = no_length_by_check post fault e
length_by_check post (value ∷ []) fault e =
    said_by_check (is_decimal value) (nat_le (digits_value 10 value) body_limit) (digits_value 10 value) fault e
length_by_check post (value ∷ other ∷ more) fault e = same_fault BadHead fault refl e

coding_by_check : (coded post : Bool) (values : List (List ℕ)) (fault : HeadFault)
    → Refuses (if coded then Err Coded else length_of_body post values) fault → is_by_check fault ≡ true
unfolding is_by_check
coding_by_check true post values fault e = same_fault Coded fault refl e
coding_by_check false post values fault e = length_by_check post values fault e

fails_by_check : (head : List ℕ) (fault : HeadFault) → FailsBy head fault → is_by_check fault ≡ true
unfolding is_by_check
fails_by_check head fault (inl f) = ap is_by_check f.1
fails_by_check head fault (inr (inl f)) = ap is_by_check f.2
fails_by_check head fault (inr (inr f)) =
    let fields = fields_of f.1.0 in
    coding_by_check (is_some (first (values_of (codes "transfer-encoding") fields))) (is_post (verb_of f.1.0.method))
    (values_of (codes "content-length") fields) fault f.1.3

refused_by_check : (bytes : List ℕ) (fault : HeadFault) → IsRefused bytes fault → is_by_check fault ≡ true
unfolding is_by_check
refused_by_check bytes fault (inl f) = ap is_by_check f.1
refused_by_check bytes fault (inr f) = fails_by_check _ fault f.3

pub refusal_is_by_a_check : RefusalIsByACheck
unfolding is_by_check
refusal_is_by_a_check bytes fault is =
    let by = refused_by_check bytes fault is in (
      λ e. false≢true (sym (ap is_by_check e) ∙ by),
      λ e. false≢true (sym (ap is_by_check e) ∙ by),
      λ e. false≢true (sym (ap is_by_check e) ∙ by),
    )
