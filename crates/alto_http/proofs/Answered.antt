-- What a call answers of the bytes ahead holds of all the bytes.
use Rattle.std.proofs.Common.{◌≡◌, ℕ, ◌+◌, ◌<◌, List, [], ◌++◌, length, take, drop, Option, Some, None, IfSome, refl}
use Rattle.std.proofs.Common.{ap, sym, subst, ◌∙◌, append_assoc, append-nil, ◌≢◌, inl, inr}
use Rattle.alto_http.specs.declared.fault.HeadFault.{HeadFault}
use Rattle.alto_http.specs.declared.fault.HeadFault.TheVariants.{TooLarge, Cut, ReadFault}
use Rattle.alto_http.specs.Link.{followed_by, IsAtEnd}
use Rattle.alto_http.specs.Receive.{HeadFails}
use Rattle.alto_http.specs.Request.{RequestData, Passes, FailsBy}
use Rattle.alto_http.specs.Intake.{GivesBehind, GivesOnly}
use Rattle.alto_http.specs.Splits.{IsHeadAt, IsTooLong, IsRefused, IsUnfinished, Begins, EndsInBody, EndsInside}
use Rattle.alto_http.proofs.Links.{followed_by-followed_by}
use Rattle.alto_http.proofs.Places.{head_at_some, head_at_append, head_bytes_append, behind_head_append}
use Rattle.alto_http.proofs.Places.{too_long_append}

pub refused_long : (whole : Option (List ℕ)) (ahead : List ℕ) (left : Option (List ℕ)) (fault : HeadFault)
    → whole ≡ followed_by ahead left → IsTooLong ahead → fault ≡ TooLarge
    → IfSome whole (λ bytes. IsRefused bytes fault)
refused_long whole ahead None fault is long e = rw is tt
refused_long whole ahead (Some left) fault is long e = rw is (inl (too_long_append ahead left long, e))

-- where a head failed by a check of its length, the bytes are refused
pub head_refused : (fault : HeadFault) (whole : Option (List ℕ)) (ahead : List ℕ) (left : Option (List ℕ))
    → whole ≡ followed_by ahead left → HeadFails fault ahead left → fault ≢ Cut → fault ≢ ReadFault
    → IfSome whole (λ bytes. IsRefused bytes fault)
head_refused TooLarge whole ahead left is fails cut read = refused_long whole ahead left TooLarge is fails refl
head_refused Cut whole ahead left is fails cut read = absurd (cut refl)
head_refused ReadFault whole ahead left is fails cut read = absurd (read refl)
head_refused fault whole ahead left is fails cut read = absurd fails

-- what holds of the bytes ahead at the end of the input holds of all
pub at_end : (P : List ℕ → Type 0) (whole : Option (List ℕ)) (ahead : List ℕ) (left : Option (List ℕ))
    → whole ≡ followed_by ahead left → IsAtEnd left → P ahead → IfSome whole P
at_end P whole ahead None is end holds = rw is tt
at_end P whole ahead (Some left) is end holds = rw (is, end, append-nil) holds

pub refused_head : (whole : Option (List ℕ)) (ahead : List ℕ) (left : Option (List ℕ)) (start size : ℕ)
    (fault : HeadFault)
    → whole ≡ followed_by ahead left → IsHeadAt ahead start size → FailsBy (take size (drop start ahead)) fault
    → IfSome whole (λ bytes. IsRefused bytes fault)
refused_head whole ahead None start size fault is at fails = rw is tt
refused_head whole ahead (Some left) start size fault is at fails =
    rw is (inr (
      start,
      size,
      head_at_append ahead left start size (head_at_some ahead start size at) at,
      let P : List ℕ → Type 0 = λ head. FailsBy head fault in
          subst P (sym (head_bytes_append ahead left start size at)) fails,
    ))

-- a body that is shorter than its head says
ends_in_body : (whole : Option (List ℕ)) (ahead : List ℕ) (left : Option (List ℕ)) (start size : ℕ)
    (request : RequestData) (long : ℕ)
    → whole ≡ followed_by ahead left → IsHeadAt ahead start size → Passes (take size (drop start ahead)) request long
    → IfSome (followed_by (drop (start + size) ahead) left) (λ bytes. length bytes < long) → IfSome whole EndsInBody
ends_in_body whole ahead None start size request long is at passes short = rw is tt
ends_in_body whole ahead (Some left) start size request long is at passes short =
    rw is (
      start,
      size,
      request,
      long,
      head_at_append ahead left start size (head_at_some ahead start size at) at,
      (let P : List ℕ → Type 0 = λ head. Passes head request long in
          subst P (sym (head_bytes_append ahead left start size at)) passes),
      rw (behind_head_append ahead left start size at) short,
    )

-- bytes that end in a body end inside a request
inside_body : (whole : Option (List ℕ)) → IfSome whole EndsInBody → IfSome whole EndsInside
inside_body None ends = ends
inside_body (Some bytes) ends = inr ends

pub cut_in_body : (whole : Option (List ℕ)) (ahead : List ℕ) (left : Option (List ℕ)) (start size : ℕ)
    (request : RequestData) (long : ℕ)
    → whole ≡ followed_by ahead left → IsHeadAt ahead start size → Passes (take size (drop start ahead)) request long
    → IfSome (followed_by (drop (start + size) ahead) left) (λ bytes. length bytes < long) → IfSome whole EndsInside
cut_in_body whole ahead left start size request long is at passes short =
    inside_body whole (ends_in_body whole ahead left start size request long is at passes short)

-- the head passed for a request without a body, which it is too where the body is taken from a later one
passes_bare : (head : List ℕ) (bare : RequestData) (long : ℕ) → Passes head bare long
    → Passes head (record bare { body = [] }) long
passes_bare head bare long passes =
    let without_body : RequestData → RequestData = λ r. record r { body = [] } in
    (passes.0, passes.1, passes.2, passes.3, ap without_body passes.4, passes.5)

pub begins_with : (whole : Option (List ℕ)) (ahead : List ℕ) (left : Option (List ℕ)) (ahead' : List ℕ)
    (left' : Option (List ℕ))
    (start size : ℕ) (bare request : RequestData) (body : List ℕ) (long : ℕ)
    → whole ≡ followed_by ahead left → IsHeadAt ahead start size → Passes (take size (drop start ahead)) bare long
    → length body ≡ long → followed_by (drop (start + size) ahead) left ≡ followed_by (body ++ ahead') left'
    → request ≡ record bare { body = body }
    → IfSome whole (λ bytes. (rest : List ℕ) × (followed_by ahead' left' ≡ Some rest) × Begins bytes request rest)
begins_with whole ahead None ahead' left' start size bare request body long is at passes sized taken made = rw is tt
begins_with whole ahead (Some left) ahead' None start size bare request body long is at passes sized taken made = cc
begins_with whole ahead (Some left) ahead' (Some left') start size bare request body long is at passes
    sized taken made =
    let behind : drop (start + size) ahead ++ left ≡ (body ++ ahead') ++ left' = cc in
    rw (is, made) (
      ahead' ++ left',
      refl,
      record {
        start = start;
        size = size;
        head = head_at_append ahead left start size (head_at_some ahead start size at) at;
        passes = rw (head_bytes_append ahead left start size at, sized) (passes_bare _ bare long passes);
        body = behind_head_append ahead left start size at ∙ behind ∙ append_assoc body ahead' left';
      },
    )

-- where a body didn't come whole, the bytes that came end inside it
pub unfinished_body : (first : List ℕ) (old : Option (List ℕ)) (ahead : List ℕ) (left : Option (List ℕ))
    (left' : Option (List ℕ))
    (start size : ℕ) (request : RequestData) (long : ℕ)
    → followed_by first old ≡ followed_by ahead left → IsHeadAt ahead start size
    → Passes (take size (drop start ahead)) request long
    → GivesBehind (λ given. length given < long) (drop (start + size) ahead) left left'
    → GivesOnly EndsInBody first old left'
unfinished_body first old ahead left left' start size request long is at passes (given, came, short) = (
  ahead ++ came.piece,
  is ∙ ap (followed_by ahead) came.given ∙ followed_by-followed_by ahead came.piece left',
  ends_in_body (Some (ahead ++ came.piece)) ahead (Some came.piece) start size request long refl at passes
      (let P : List ℕ → Type 0 = λ bytes. length bytes < long in subst P came.behind short),
)

-- bytes that end in a body are unfinished
pub body_unfinished : (first : List ℕ) (old left' : Option (List ℕ)) → GivesOnly EndsInBody first old left'
    → GivesOnly IsUnfinished first old left'
body_unfinished first old left' (given, came, ends) = (given, came, inr (inr ends))
