use Rattle.std.proofs.Common.{◌≡◌, ℕ, List, take, drop, subst, ap, ◌∙◌, inl, inr}
use Rattle.alto_http.specs.declared.fault.HeadFault.TheVariants.{Cut, ReadFault}
use Rattle.alto_http.specs.Request.{Passes, FailsBy}
use Rattle.alto_http.specs.Splits.{IsBlank, EndsInside}
use Rattle.alto_http.proofs.Ahead.{ahead_whole, whole_same, whole_taken}
use Rattle.alto_http.proofs.Answered.{head_refused, at_end, refused_head, cut_in_body, begins_with, unfinished_body}
use Rattle.alto_http.proofs.Answered.{body_unfinished}
use Rattle.alto_http.proofs.read.read_request.Goals as goal

pub returns-in-Ok-None-clause-none : goal.returns-in-Ok-None-clause-none
returns-in-Ok-None-clause-none g c is =
    let blank = rw c.in-Ok-None.field-0-is at c.in-Ok-None.ensures.ok in
    at_end IsBlank _ _ _ (ahead_whole _ _ _ _ c.find_head.ensures.ahead) blank.1 blank.0

pub returns-in-Err-clause-refused : goal.returns-in-Err-clause-refused
returns-in-Err-clause-refused g c other read memory =
    head_refused c.in-Err.fault _ _ _ (ahead_whole _ _ _ _ c.find_head.ensures.ahead) c.in-Err.ensures.err other read

pub returns-in-Err-clause-cut : goal.returns-in-Err-clause-cut
returns-in-Err-clause-cut g c is =
    let cut : c.in-Err.fault ≡ Cut = cc in
    let ends = rw cut at c.in-Err.ensures.err in
    at_end EndsInside _ _ _ (ahead_whole _ _ _ _ c.find_head.ensures.ahead) ends.1 (inl ends.0)

pub returns-in-Err-clause-cut_left : goal.returns-in-Err-clause-cut_left
returns-in-Err-clause-cut_left g c is =
    let cut : c.in-Err.fault ≡ Cut = cc in
    let ends = rw cut at c.in-Err.ensures.err in
    ends.1

pub returns-in-Err-read_head-clause-refused : goal.returns-in-Err-read_head-clause-refused
returns-in-Err-read_head-clause-refused g c other read memory =
    let place = c.in-Ok-Some.place in
    let at = rw c.in-Ok-Some.field-0-is at c.in-Ok-Some.ensures.ok in
    let here : c.part-head.result.now ≡ take place.1 (drop place.0 c.find_head.new.intake) =
    c.part-head.ensures ∙ ap (λ xs. take place.1 (drop place.0 xs)) c.bytes.ensures.bytes in
    let P : List ℕ → Type 0 = λ head. FailsBy head c.in-Err-read_head.fault in
    refused_head _ _ _ place.0 place.1 _ (ahead_whole _ _ _ _ c.find_head.ensures.ahead) at
    (subst P here (c.in-Err-read_head.ensures.err memory))

pub returns-in-Err-read_head-clause-whole : goal.returns-in-Err-read_head-clause-whole
returns-in-Err-read_head-clause-whole g c = whole_same _ _ _ _ c.find_head.ensures.ahead

pub returns-in-Ok-take_body-clause-request : goal.returns-in-Ok-take_body-clause-request
returns-in-Ok-take_body-clause-request g c =
    let place = c.in-Ok-Some.place in
    let read = c.in-Ok.read in
    let at = rw c.in-Ok-Some.field-0-is at c.in-Ok-Some.ensures.ok in
    let here : c.part-head.result.now ≡ take place.1 (drop place.0 c.find_head.new.intake) =
    c.part-head.ensures ∙ ap (λ xs. take place.1 (drop place.0 xs)) c.bytes.ensures.bytes in
    let P : List ℕ → Type 0 = λ head. Passes head read.0 read.1 in
    begins_with _ _ _ _ _ place.0 place.1 read.0 _ c.in-Ok-take_body.body.items read.1
    (ahead_whole _ _ _ _ c.find_head.ensures.ahead) at (subst P here c.in-Ok.ensures.ok)
    c.in-Ok-take_body.ensures.size (rw c.consume.ensures at c.in-Ok-take_body.ensures.ok) c.with_body.ensures

pub returns-in-Ok-take_body-clause-whole : goal.returns-in-Ok-take_body-clause-whole
returns-in-Ok-take_body-clause-whole g c =
    whole_taken _ _ _ _ _ _ _ c.find_head.ensures.ahead (
      c.in-Ok-take_body.body.items,
      rw c.consume.ensures at c.in-Ok-take_body.ensures.ok,
    )

pub returns-in-Err-take_body-clause-cut : goal.returns-in-Err-take_body-clause-cut
returns-in-Err-take_body-clause-cut g c is =
    let place = c.in-Ok-Some.place in
    let read = c.in-Ok.read in
    let at = rw c.in-Ok-Some.field-0-is at c.in-Ok-Some.ensures.ok in
    let here : c.part-head.result.now ≡ take place.1 (drop place.0 c.find_head.new.intake) =
    c.part-head.ensures ∙ ap (λ xs. take place.1 (drop place.0 xs)) c.bytes.ensures.bytes in
    let P : List ℕ → Type 0 = λ head. Passes head read.0 read.1 in
    let cut = c.in-Err-take_body.ensures.cut (cc) in
    cut_in_body _ _ _ place.0 place.1 read.0 read.1
    (ahead_whole _ _ _ _ c.find_head.ensures.ahead) at (subst P here c.in-Ok.ensures.ok)
    (rw c.consume.ensures at cut.1)

pub returns-in-Err-take_body-clause-whole : goal.returns-in-Err-take_body-clause-whole
returns-in-Err-take_body-clause-whole g c =
    whole_taken _ _ _ _ _ _ _ c.find_head.ensures.ahead (rw c.consume.ensures at c.in-Err-take_body.ensures.err)

pub returns-in-Err-clause-unfinished : goal.returns-in-Err-clause-unfinished
returns-in-Err-clause-unfinished g c is =
    let read : c.in-Err.fault ≡ ReadFault = cc in
    let unfinished = rw read at c.in-Err.ensures.err in
    (_, ahead_whole _ _ _ _ c.find_head.ensures.ahead, unfinished)

pub returns-in-Err-take_body-clause-unfinished : goal.returns-in-Err-take_body-clause-unfinished
returns-in-Err-take_body-clause-unfinished g c is =
    let place = c.in-Ok-Some.place in
    let read = c.in-Ok.read in
    let at = rw c.in-Ok-Some.field-0-is at c.in-Ok-Some.ensures.ok in
    let here : c.part-head.result.now ≡ take place.1 (drop place.0 c.find_head.new.intake) =
    c.part-head.ensures ∙ ap (λ xs. take place.1 (drop place.0 xs)) c.bytes.ensures.bytes in
    let P : List ℕ → Type 0 = λ head. Passes head read.0 read.1 in
    body_unfinished _ _ _ (unfinished_body _ _ _ _ _ place.0 place.1 read.0 read.1
    (ahead_whole _ _ _ _ c.find_head.ensures.ahead) at (subst P here c.in-Ok.ensures.ok)
    (rw c.consume.ensures at (c.in-Err-take_body.ensures.short (cc))))

pub returns-in-Err-clause-kept : goal.returns-in-Err-clause-kept
returns-in-Err-clause-kept g c is = inl c.find_head.ensures.ahead

pub returns-in-Err-read_head-clause-kept : goal.returns-in-Err-read_head-clause-kept
returns-in-Err-read_head-clause-kept g c is = inl c.find_head.ensures.ahead

pub returns-in-Err-take_body-clause-kept : goal.returns-in-Err-take_body-clause-kept
returns-in-Err-take_body-clause-kept g c is =
    let place = c.in-Ok-Some.place in
    let read = c.in-Ok.read in
    let at = rw c.in-Ok-Some.field-0-is at c.in-Ok-Some.ensures.ok in
    let here : c.part-head.result.now ≡ take place.1 (drop place.0 c.find_head.new.intake) =
    c.part-head.ensures ∙ ap (λ xs. take place.1 (drop place.0 xs)) c.bytes.ensures.bytes in
    let P : List ℕ → Type 0 = λ head. Passes head read.0 read.1 in
    inr (unfinished_body _ _ _ _ _ place.0 place.1 read.0 read.1
    (ahead_whole _ _ _ _ c.find_head.ensures.ahead) at (subst P here c.in-Ok.ensures.ok)
    (rw c.consume.ensures at (c.in-Err-take_body.ensures.short (cc))))
