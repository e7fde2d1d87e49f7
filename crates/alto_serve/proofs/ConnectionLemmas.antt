-- A connection's requests one after another, and its end.
use Rattle.std.proofs.Common.{◌≡◌, ◌≢◌, ℕ, ◌+◌, ◌<◌, List, [], ◌∷◌, ◌++◌, length, Option, Some, None, refl, sym, ap}
use Rattle.std.proofs.Common.{◌∙◌, inl, inr, length-append, append_assoc, append-nil, arith}
use Rattle.std.proofs.lemmas.Grind.{flat_map-append}
use Rattle.std.proofs.lemmas.List.{length-map, map-append}
use Rattle.std.proofs.lemmas.List.Elements.{All-append, All-nil, All-push}
use Rattle.std.proofs.lemmas.Option.{IfSome_then}
use Rattle.alto_http.specs.Link.{extended, followed_by}
use Rattle.alto_http.specs.Request.{RequestData}
use Rattle.alto_http.specs.Splits.{Ending, cut, Splits}
use Rattle.alto_http.proofs.Fronts.{begin_needs_no_more}
use Rattle.alto_serve.specs.declared.end.End.{End}
use Rattle.alto_serve.specs.declared.end.End.TheVariants as end
use Rattle.alto_serve.specs.Connections.{BeginWithOpen, EmitsOnLink, Ended, IsServed, IsTurn, State, events_of}
use Rattle.alto_serve.specs.Connections.{most_requests, open_ones, requests_of, state, trace_of}
use Rattle.alto_serve.specs.Events.{Event, Known, bytes_in}
use Rattle.alto_serve.specs.Steps.{Becomes, Finishes, GoesOn, HasServed}
use Rattle.alto_serve.specs.Turns.{Exchange, Setting}
use Rattle.alto_serve.proofs.EventLemmas.{bytes_append, emits_on}

-- ---- bytes

begin_on : (bytes : List ℕ) (first more : List RequestData) (rest behind : List ℕ) → BeginWithOpen bytes first rest
    → BeginWithOpen rest more behind → BeginWithOpen bytes (first ++ more) behind
begin_on bytes [] more rest behind begins on = rw begins on
begin_on bytes (request ∷ first) more rest behind (next, begins, stays, later) on =
    (next, begins, stays, begin_on next first more rest behind later on)

begin_splits : (bytes : List ℕ) (first more : List RequestData) (rest : List ℕ) (ending : Ending)
    → BeginWithOpen bytes first rest → Splits rest more ending → Splits bytes (first ++ more) ending
begin_splits bytes [] more rest ending begins splits = rw begins splits
begin_splits bytes (request ∷ first) more rest ending (next, begins, stays, later) splits =
    (next, begins, inr (stays, begin_splits next first more rest ending later splits))

-- the requests stand in the bytes before what is cut off behind them
begin_prefix : (bytes : List ℕ) (requests : List RequestData) (given more : List ℕ)
    → BeginWithOpen bytes requests (given ++ more)
    → (prefix : List ℕ) × (bytes ≡ prefix ++ more) × BeginWithOpen prefix requests given
begin_prefix bytes [] given more begins = (given, begins, refl)
begin_prefix bytes (first ∷ requests) given more (next, begins, stays, rest) =
    let later = begin_prefix next requests given more rest in
    let here = begin_needs_no_more bytes first later.0 more (rw later.1 at begins) in
    (here.0, here.1, (later.0, here.2, stays, later.2))

-- requests that leave the connection open, before others that don't
open_before : (bytes : List ℕ) (first more : List RequestData) (rest : List ℕ) → BeginWithOpen bytes first rest
    → open_ones more ≡ [] → open_ones (first ++ more) ≡ first
open_before bytes [] more rest begins none = none
open_before bytes (request ∷ first) more rest (next, begins, stays, later) none =
    rw (stays, open_before next first more rest later none) refl

-- an end of the rest is one of the whole
ended_on : (ended : End) (setting : Setting) (bytes rest : List ℕ) (left : Option (List ℕ))
    (first more : List RequestData) (tail : List Event) → ended ≢ end.Limit → BeginWithOpen bytes first rest
    → Ended ended setting rest left more tail → Ended ended setting bytes left (first ++ more) tail
ended_on end.Closed setting bytes rest left first more tail never begins (ending, not_cut, splits, words) =
    (ending, not_cut, begin_splits bytes first more rest ending begins splits, words)
ended_on end.Cut setting bytes rest left first more tail never begins (splits, words) =
    (begin_splits bytes first more rest cut begins splits, words)
ended_on end.Limit setting bytes rest left first more tail never begins came = absurd (never refl)
ended_on end.ReadFault setting bytes rest None first more tail never begins came = cc
ended_on end.ReadFault setting bytes rest (Some left) first more tail never begins it =
    let is : rest ≡ it.0 ++ left = cc in
    let prefix = begin_prefix bytes first it.0 left (rw is at begins) in
    (prefix.0, it.1, ap Some prefix.1, it.3, begin_splits prefix.0 first more it.0 it.1 prefix.2 it.4, it.5)
ended_on end.WriteFault setting bytes rest left first more tail never begins (later, events, all, size, on, next, is) =
    (later, events, all, size, begin_on bytes first more rest later begins on, next, is)
ended_on end.Memory setting bytes rest left first more tail never begins (behind, events, on, out, words) =
    (behind, events, begin_on bytes first more rest behind begins on, out, words)

-- ---- an office and a link

pub extended_on : (out : Option (List ℕ)) (xs ys : List ℕ) → extended (extended out xs) ys ≡ extended out (xs ++ ys)
extended_on None xs ys = refl
extended_on (Some out) xs ys = ap Some (append_assoc out xs ys)

pub extended_none : (out : Option (List ℕ)) → out ≡ extended out []
extended_none None = refl
extended_none (Some out) = ap Some (sym (append-nil out))

module _ (setting : Setting) where
  link_on : (P Q R : List Event → Type 0) (before mid after : State) → EmitsOnLink setting P before mid
      → EmitsOnLink setting Q mid after → ((xs ys : List Event) → P xs → Q ys → R (xs ++ ys))
      → EmitsOnLink setting R before after
  link_on P Q R before mid after first second both =
      emits_on _ _ _ _ _ _ _ first second (λ xs ys p q. (
        q.0 ∙ ap (λ o. extended o (bytes_in ys)) p.0 ∙ extended_on before.out (bytes_in xs) (bytes_in ys)
            ∙ ap (λ bs. extended before.out bs) (sym (bytes_append xs ys)),
        both xs ys p.1 q.1,
      ))

  pub link_so : (P Q : List Event → Type 0) (before after : State) → EmitsOnLink setting P before after
      → ((xs : List Event) → P xs → Q xs) → EmitsOnLink setting Q before after
  link_so P Q before after (xs, may, is, (out, holds)) so = (xs, may, is, (out, so xs holds))

  pub link_none : (P : List Event → Type 0) (known : Known) (left left' out out' : Option (List ℕ)) → out' ≡ out → P []
      → EmitsOnLink setting P (state known left out) (state known left' out')
  link_none P known left left' out out' same holds = ([], tt, refl, (same ∙ extended_none out, holds))

  -- what became of the bytes, and then of the rest
  then_on : (count : ℕ) (Q R : List ℕ → State → List Event → Type 0) (before mid after : State)
      → Becomes setting (HasServed setting count) before mid → Becomes setting Q mid after
      → ((bytes : List ℕ) (xs ys : List Event) → (served : HasServed setting count bytes mid xs)
      → Q served.rest after ys → R bytes after (xs ++ ys))
      → Becomes setting R before after
  then_on count Q R before mid after became next both =
      IfSome_then before.left became (λ bytes h.
      let served = h.3.1 in
      let step : EmitsOnLink setting (Q served.rest after) mid after = (rw served.leaves at next) in
      link_on (λ events. events ≡ h.0) _ _ before mid after (h.0, h.1, h.2, (h.3.0, refl)) step
      (λ xs ys same q. rw same (both bytes h.0 ys served q)))

  -- ---- going on

  -- at first no request had its turn
  pub served_none : (known : Known) (left out : Option (List ℕ)) (ahead : List ℕ) → ahead ≡ []
      → Becomes setting (HasServed setting 0) (state known left out) (state known (followed_by ahead left) out)
  served_none known None out ahead none = tt
  served_none known (Some bytes) out ahead none =
      let left' = Some (ahead ++ bytes) in
      link_none (HasServed setting 0 bytes (state known left' out)) known (Some bytes) left' out out refl (record {
        exchanges = [];
        rest = bytes;
        leaves = ap (λ xs. Some (xs ++ bytes)) none;
        counted = refl;
        begins = refl;
        turns = All-nil (IsTurn setting);
        whole = refl;
      })

  and_one : (count : ℕ) (mid after : State) (bytes : List ℕ) (xs ys : List Event)
      → (served : HasServed setting count bytes mid xs) → GoesOn setting served.rest after ys
      → HasServed setting (count + 1) bytes after (xs ++ ys)
  and_one count mid after bytes xs ys served (request, behind, begins, stays, leaves, (turn, reply, takes, is)) =
      let e : Exchange = record { request = request; events = turn; reply = reply } in
      let first = served.exchanges in
      record {
        exchanges = first ++ e ∷ [];
        rest = behind;
        leaves = leaves;
        counted = length-append first (e ∷ []) ∙ ap (λ n. n + 1) served.counted;
        begins = rw map-append (begin_on bytes (requests_of first) (request ∷ []) served.rest behind served.begins
            (behind, begins, stays, refl));
        turns = All-push (IsTurn setting) first e served.turns takes;
        whole = rw (served.whole, is) (sym (flat_map-append events_of first (e ∷ [])
            ∙ ap (λ t. trace_of first ++ t) (append-nil (events_of e))));
      }

  -- one request more had its turn
  pub served_more : (count : ℕ) (before mid after : State) → Becomes setting (HasServed setting count) before mid
      → Becomes setting (GoesOn setting) mid after → Becomes setting (HasServed setting (count + 1)) before after
  served_more count before mid after served next =
      then_on count (GoesOn setting) (HasServed setting (count + 1)) before mid after served next
      (and_one count mid after)

  -- ---- ending

  and_end : (ended : End) (count : ℕ) (mid after : State) → count < most_requests
      → (bytes : List ℕ) (xs ys : List Event) → (served : HasServed setting count bytes mid xs)
      → Finishes ended setting served.rest after ys → IsServed ended setting bytes after.left (xs ++ ys)
  and_end ended count mid after few bytes xs ys served last =
      let first = served.exchanges in
      let more = requests_of last.exchanges in
      let open_first = open_before bytes (requests_of first) more served.rest served.begins last.closing in
      let all_few : length (open_ones (requests_of (first ++ last.exchanges))) < most_requests =
      rw (map-append, open_first, length-map, served.counted) few in
      record {
        exchanges = first ++ last.exchanges;
        tail = last.tail;
        whole = rw (served.whole, last.whole, flat_map-append)
            (sym (append_assoc (trace_of first) (trace_of last.exchanges) last.tail));
        turns = All-append (IsTurn setting) first last.exchanges served.turns last.turns;
        ends = inl (rw map-append (ended_on ended setting bytes served.rest after.left (requests_of first) more
            last.tail last.going served.begins last.ends));
        within = inr (last.going, all_few);
      }

  -- the connection ends at its next request, or at what is none
  pub served_to_end : (ended : End) (count : ℕ) (before mid after : State) → count < most_requests
      → Becomes setting (HasServed setting count) before mid → Becomes setting (Finishes ended setting) mid after
      → Becomes setting (λ bytes after. IsServed ended setting bytes after.left) before after
  served_to_end ended count before mid after few served next =
      then_on count (Finishes ended setting) (λ bytes after. IsServed ended setting bytes after.left) before mid after
      served next (and_end ended count mid after few)

  -- as many requests had their turns as a connection may bring
  pub served_most : (count : ℕ) (before : State) (known : Known) (left left' out : Option (List ℕ))
      → count ≡ most_requests → Becomes setting (HasServed setting count) before (state known left out)
      → Becomes setting (λ bytes after. IsServed end.Limit setting bytes after.left) before (state known left' out)
  served_most count before known left left' out full became =
      IfSome_then before.left became (λ bytes h.
      let served = h.3.1 in
      let ends : IsServed end.Limit setting bytes left' h.0 = record {
        exchanges = served.exchanges;
        tail = [];
        whole = served.whole ∙ sym (append-nil (trace_of served.exchanges));
        turns = served.turns;
        ends = inl (served.rest, served.begins, refl);
        within = inl (refl, length-map served.exchanges _ ∙ served.counted ∙ full);
      } in
      (h.0, h.1, h.2, (h.3.0, ends)))

  -- memory ran out before the first request
  pub served_never : (known : Known) (left out : Option (List ℕ))
      → Becomes setting (λ bytes after. IsServed end.Memory setting bytes after.left)
      (state known left out) (state known left out)
  served_never known None out = tt
  served_never known (Some bytes) out =
      link_none (IsServed end.Memory setting bytes (Some bytes)) known (Some bytes) (Some bytes) out out refl (record {
        exchanges = [];
        tail = [];
        whole = refl;
        turns = All-nil (IsTurn setting);
        ends = inr (refl, refl, refl, refl);
        within = inr (λ i. cc, omega arith);
      })
