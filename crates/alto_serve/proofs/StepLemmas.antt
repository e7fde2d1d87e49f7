-- How a connection ends with the answer to a request, or with what is written of bytes that brought none.
use Rattle.std.proofs.Common.{◌≡◌, ◌≢◌, ℕ, true, false, List, [], ◌∷◌, ◌++◌, take, Option, Some, None, IfSome, IsSome}
use Rattle.std.proofs.Common.{refl, sym, ap, ◌∙◌, inl, inr, append-nil}
use Rattle.std.proofs.lemmas.Bool.{false≢true}
use Rattle.std.proofs.lemmas.List.Elements.{All-cons, All-nil}
use Rattle.std.proofs.lemmas.Option.{IfSome_then}
use Rattle.alto_http.specs.Intake.{GivesOnly}
use Rattle.alto_http.specs.Link.{extended, followed_by}
use Rattle.alto_http.specs.Request.{RequestData}
use Rattle.alto_http.specs.Splits.{Begins, Ends, IsRefused, IsUnfinished, EndsInside, clean, closed, cut, refused}
use Rattle.alto_http.specs.declared.fault.HeadFault.{HeadFault}
use Rattle.alto_http.specs.declared.fault.HeadFault.TheVariants as head
use Rattle.alto_replies.specs.Replies.{head_status}
use Rattle.alto_replies.specs.Reply.{memory_reply}
use Rattle.alto_serve.specs.declared.end.End.{End}
use Rattle.alto_serve.specs.declared.end.End.TheVariants as end
use Rattle.alto_serve.specs.Connections.{EmitsOnLink, Ended, IsTurn, RunsOutOfMemory, State, events_of, state}
use Rattle.alto_serve.specs.Events.{Event, wrote, Known, Emits, bytes_in}
use Rattle.alto_serve.specs.Steps.{Becomes, Finishes, GoesOn, HasReply, RepliesWith, Refuses, EndsOutOfMemory, Writes}
use Rattle.alto_serve.specs.Turns.{Exchange, IsCutOff, Setting}
use Rattle.alto_serve.proofs.ConnectionLemmas.{extended_none, link_none, link_so}
use Rattle.alto_serve.proofs.EventLemmas.{bytes_append, emits_on}
use Rattle.alto_serve.proofs.TurnLemmas.{cut_off_silent, turn_prefix}

-- bytes are written behind what happened
wrote_last : (setting : Setting) (P Q : List Event → Type 0) (before after : State) (bytes : List ℕ)
    → Emits setting.alone P before.known after.known → after.out ≡ extended before.out bytes
    → ((xs : List Event) → P xs → bytes_in xs ≡ []) → ((xs : List Event) → P xs → Q (xs ++ wrote bytes ∷ []))
    → EmitsOnLink setting Q before after
wrote_last setting P Q before after bytes emits written silent so =
    emits_on _ P (λ events. events ≡ wrote bytes ∷ []) _ _ _ _ emits (wrote bytes ∷ [], (tt, tt), refl, refl)
    (λ xs ys p is. rw is (rw (bytes_append, silent xs p, append-nil) written, so xs p))

-- an end with no turn before it
finish : (ended : End) (setting : Setting) (rest : List ℕ) (after : State) (tail : List Event) → ended ≢ end.Limit
    → Ended ended setting rest after.left [] tail → Finishes ended setting rest after tail
finish ended setting rest after tail going ends = record {
  exchanges = [];
  tail = tail;
  closing = refl;
  going = going;
  whole = refl;
  turns = All-nil (IsTurn setting);
  ends = ends;
}

-- ---- the answer to a request

memory_now : (ended : End) (setting : Setting) (request : RequestData) (after : State) (written rest behind : List ℕ)
    (events : List Event) → EndsOutOfMemory ended written → Begins rest request behind
    → IsCutOff setting request events → Finishes ended setting rest after (events ++ wrote written ∷ [])
memory_now end.Memory setting request after written rest behind events words begins out =
    finish end.Memory setting rest after (events ++ wrote written ∷ []) (λ i. cc)
    (rest, events, refl, inr (request, behind, begins, out), ap (λ w. events ++ wrote w ∷ []) words)
memory_now end.WriteFault setting request after written rest behind events (size, words) begins out =
    let next : RunsOutOfMemory setting rest events = inr (request, behind, begins, out) in
    finish end.WriteFault setting rest after (events ++ wrote written ∷ []) (λ i. cc)
    (rest, events, memory_reply, size, refl, inr (inr (next, refl)), ap (λ w. events ++ wrote w ∷ []) words)
memory_now _ setting request after written rest behind events words begins out = absurd words

module _ (setting : Setting) (request : RequestData) (before after : State) where
  -- its bytes are out
  pub reply_out : (bytes : List ℕ) → Emits setting.alone (RepliesWith setting request bytes) before.known after.known
      → after.out ≡ extended before.out bytes → EmitsOnLink setting (HasReply setting request) before after
  reply_out bytes told written =
      wrote_last setting _ _ before after bytes told written
      (λ xs is. cut_off_silent setting request xs (turn_prefix setting request xs is.0 is.2))
      (λ xs is. (xs, is.0, is.2, ap (λ bs. xs ++ wrote bs ∷ []) is.1))

  module _ (rest behind : List ℕ) (begins : Begins rest request behind) where
    -- and the request closes
    pub reply_closes : (bytes : List ℕ) → request.close ≡ true
        → Emits setting.alone (RepliesWith setting request bytes) before.known after.known
        → after.out ≡ extended before.out bytes
        → EmitsOnLink setting (Finishes end.Closed setting rest after) before after
    reply_closes bytes closes told written =
        link_so setting _ _ before after (reply_out bytes told written) (λ xs replied.
        let e : Exchange = record { request = request; events = replied.0; reply = replied.1 } in
        record {
          exchanges = e ∷ [];
          tail = [];
          closing = rw closes refl;
          going = λ i. cc;
          whole = replied.3 ∙ sym (append-nil _ ∙ append-nil (events_of e));
          turns = All-cons (IsTurn setting) e [] replied.2 (All-nil (IsTurn setting));
          ends = (closed, λ i. cc, (behind, begins, inl (closes, refl, refl)), refl);
        })

    -- a write failed inside them
    pub reply_breaks : (bytes : List ℕ) (size : ℕ)
        → Emits setting.alone (RepliesWith setting request bytes) before.known after.known
        → after.out ≡ extended before.out (take size bytes)
        → EmitsOnLink setting (Finishes end.WriteFault setting rest after) before after
    reply_breaks bytes size told written =
        wrote_last setting _ _ before after (take size bytes) told written
        (λ xs is. cut_off_silent setting request xs (turn_prefix setting request xs is.0 is.2))
        (λ xs is. finish end.WriteFault setting rest after (xs ++ wrote (take size bytes) ∷ []) (λ i. cc)
        (rest, xs, bytes, size, refl, inl (request, behind, is.0, begins, is.2, is.1), refl))

    -- memory ran out in its turn, and that is told
    pub memory_ends : (ended : End) → Emits setting.alone (IsCutOff setting request) before.known after.known
        → Writes (EndsOutOfMemory ended) before.out after.out
        → EmitsOnLink setting (Finishes ended setting rest after) before after
    memory_ends ended cut_off (written, is, words) =
        wrote_last setting _ _ before after written cut_off is (cut_off_silent setting request)
        (λ xs out. memory_now ended setting request after written rest behind xs words begins out)

-- ---- what the bytes begin with

module _ (setting : Setting) (whole : Option (List ℕ)) (ahead : List ℕ) (left out mid : Option (List ℕ))
    (request : RequestData) (before : Known) (still : mid ≡ out)
    (begins : IfSome whole (λ bytes.
    (rest : List ℕ) × (followed_by ahead left ≡ Some rest) × Begins bytes request rest)) where
  -- a connection that ends with the answer to its next request
  pub respond_ends : (ended : Option End) (after : State)
      → IfSome ended (λ ended. (rest behind : List ℕ) → Begins rest request behind
      → EmitsOnLink setting (Finishes ended setting rest after) (state before left mid) after)
      → IfSome ended (λ ended. Becomes setting (Finishes ended setting) (state before whole out) after)
  respond_ends ended after responds =
      IfSome_then ended responds (λ ended ends.
      IfSome_then whole begins (λ bytes it. rw (← still) (ends bytes it.0 it.2)))

  -- one that goes on
  pub respond_on : (left' later : Option (List ℕ)) (after : Known) → left' ≡ left → request.close ≡ false
      → EmitsOnLink setting (HasReply setting request) (state before left mid) (state after left' later)
      → Becomes setting (GoesOn setting) (state before whole out) (state after (followed_by ahead left') later)
  respond_on left' later after same stays replied =
      IfSome_then whole begins (λ bytes it.
      link_so setting _ _ (state before whole out) (state after (followed_by ahead left') later) (rw (← still) replied)
      (λ xs is. (request, it.0, it.2, stays, ap (λ l. followed_by ahead l) same ∙ it.1, is)))

-- ---- bytes that brought no request

-- a connection ends with no turn, as it may behind these bytes
abbrev EndsSo : End → Setting → List ℕ → Known → (left out later : Option (List ℕ)) → Type 0
EndsSo ended setting rest known left out later =
    let after = state known left later in
    EmitsOnLink setting (Finishes ended setting rest after) (state known None out) after

module _ (ended : End) (setting : Setting) (rest : List ℕ) (known : Known) (left out later : Option (List ℕ))
    (going : ended ≢ end.Limit) where
  -- nothing is written
  ends_quiet : later ≡ out → Ended ended setting rest left [] [] → EndsSo ended setting rest known left out later
  ends_quiet still ends =
      link_none setting _ known None left out later still
      (finish ended setting rest (state known left later) [] going ends)

  -- or these bytes are
  ends_writing : (written : List ℕ) → later ≡ extended out written
      → Ended ended setting rest left [] (wrote written ∷ []) → EndsSo ended setting rest known left out later
  ends_writing written now ends = (
    wrote written ∷ [],
    (tt, tt),
    refl,
    (
      now ∙ ap (λ w. extended out w) (sym (append-nil written)),
      finish ended setting rest (state known left later) (wrote written ∷ []) going ends,
    ),
  )

-- a fault that has a status is none that hasn't
with_status : (fault other : HeadFault) → head_status other ≡ None → IsSome (head_status fault) → fault ≢ other
with_status fault other none some is = absurd (false≢true (rw (is, none) at some))

module _ (setting : Setting) (fault : HeadFault) (ahead left : List ℕ) (left' out later : Option (List ℕ))
    (known : Known) (refusal : IsSome (head_status fault) → IsRefused (ahead ++ left) fault)
    (inside : fault ≡ head.Cut → EndsInside (ahead ++ left))
    (unfinished : fault ≡ head.ReadFault → GivesOnly IsUnfinished ahead (Some left) left') where
  refuses_now : (ended : End) (written : List ℕ) → later ≡ extended out written → Refuses ended fault written
      → EndsSo ended setting (ahead ++ left) known left' out later
  refuses_now end.Closed written now (some, words) =
      ends_writing _ _ _ _ _ _ _ (λ i. cc) written now
      (refused fault, λ i. cc, refusal some, ap (λ w. wrote w ∷ []) words)
  refuses_now end.WriteFault written now (text, size, prefix, inl (some, words)) =
      ends_writing _ _ _ _ _ _ _ (λ i. cc) written now
      (ahead ++ left, [], text, size, refl, inr (inl (fault, refusal some, refl, words)), ap (λ w. wrote w ∷ []) prefix)
  refuses_now end.WriteFault written now (text, size, prefix, inr (may, memory)) =
      ends_writing _ _ _ _ _ _ _ (λ i. cc) written now
      (ahead ++ left, [], text, size, refl, inr (inr (inl refl, memory)), ap (λ w. wrote w ∷ []) prefix)
  refuses_now end.Memory written now (may, words) =
      ends_writing _ _ _ _ _ _ _ (λ i. cc) written now (ahead ++ left, [], refl, inl refl, ap (λ w. wrote w ∷ []) words)
  refuses_now end.Cut written now (is, words) =
      ends_quiet _ _ _ _ _ _ _ (λ i. cc) (now ∙ ap (λ w. extended out w) words ∙ sym (extended_none out))
      (inside is, refl)
  refuses_now end.ReadFault written now (is, words) =
      let came = unfinished is in
      ends_quiet _ _ _ _ _ _ _ (λ i. cc) (now ∙ ap (λ w. extended out w) words ∙ sym (extended_none out))
      (elim came.2 [
        | inl blank ↦ (came.0, clean, came.1, inl refl, blank, refl)
        | inr within ↦ (came.0, cut, came.1, inr refl, within, refl)
      ])
  refuses_now end.Limit written now none = absurd none

module _ (setting : Setting) (fault : HeadFault) (ahead : List ℕ) (left' left'' out mid later : Option (List ℕ))
    (known : Known) (same : left'' ≡ left') (still : mid ≡ out) where
  -- a connection that ends with bytes that bring no request
  pub refuse_ends : (ended : End) (left : Option (List ℕ))
      → (fault ≢ head.Cut → fault ≢ head.ReadFault → fault ≢ head.Memory
      → IfSome (followed_by ahead left) (λ bytes. IsRefused bytes fault))
      → (fault ≡ head.Cut → IfSome (followed_by ahead left) EndsInside)
      → (fault ≡ head.ReadFault → GivesOnly IsUnfinished ahead left left') → Writes (Refuses ended fault) mid later
      → Becomes setting (Finishes ended setting) (state known (followed_by ahead left) out) (state known left'' later)
  refuse_ends ended None refusal inside unfinished put = tt
  refuse_ends ended (Some left) refusal inside unfinished (written, is, words) =
      rw same (refuses_now setting fault ahead left left' out later known
      (λ some. refusal (with_status fault head.Cut refl some) (with_status fault head.ReadFault refl some)
      (with_status fault head.Memory refl some))
      inside unfinished ended written (is ∙ ap (λ o. extended o written) still) words)

-- the bytes ended between requests
pub clean_ends : (setting : Setting) (known : Known) (whole left out mid : Option (List ℕ)) → mid ≡ out
    → IfSome whole (λ rest. Ends rest clean)
    → Becomes setting (Finishes end.Closed setting) (state known whole out) (state known left mid)
clean_ends setting known whole left out mid still ends =
    IfSome_then whole ends (λ rest blank.
    ends_quiet end.Closed setting rest known left out mid (λ i. cc) still (clean, λ i. cc, blank, refl))
