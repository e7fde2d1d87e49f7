-- A request's turn, event by event.
use Rattle.std.proofs.Common.{◌≡◌, ◌⊎◌, ℕ, suc, Bool, true, false, List, [], ◌∷◌, ◌++◌, Option, Result, Ok, Err, OnErr}
use Rattle.std.proofs.Common.{refl, sym, inl, inr, append-nil}
use Rattle.std.proofs.lemmas.Bool.{false≢true}
use Rattle.alto_book.specs.Book.{Book, number_of}
use Rattle.alto_book.specs.Import.{Import}
use Rattle.alto_book.specs.declared.command.Receipt.{Receipt}
use Rattle.alto_book.specs.declared.fault.EditFault.{EditFault}
use Rattle.alto_rows.specs.declared.resource.Resource.{Resource}
use Rattle.alto_http.specs.Request.{RequestData}
use Rattle.alto_answers.specs.Answers.{AnswersTo}
use Rattle.alto_answers.specs.declared.outcome.Answer.{Answer}
use Rattle.alto_answers.specs.declared.outcome.Answer.TheVariants as answer
use Rattle.alto_answers.specs.declared.client.Client.{Client}
use Rattle.alto_replies.specs.Replies.{edit_reply, too_early}
use Rattle.alto_replies.specs.Reply.{ReplyData}
use Rattle.alto_serve.specs.Events.{Event, waited, wrote, Known, Emits, IsSubmitted, OneLook, OneWait, PrefixOf}
use Rattle.alto_serve.specs.Events.{Submits, bytes_in}
use Rattle.alto_serve.specs.Steps.{Concludes, HasLooked, HasSettled, IsConcluded, is_pending}
use Rattle.alto_serve.specs.Turns.{ComesTo, IsCutOff, IsMoment, Leads, Reaches, Setting, Stage, TakesTurn, looks_next}
use Rattle.alto_serve.specs.Turns.{has_answer, sees, submits}
use Rattle.alto_serve.proofs.EventLemmas.{emits_on, prefix_on, prefix_whole}

-- what holds anyhow holds after an error
pub on_err_anyhow : {T E P : Type 0} (r : Result T E) → P → OnErr r P
on_err_anyhow (Ok x) p = tt
on_err_anyhow (Err e) p = p

-- ---- from stage to stage

module _ (client : Client) (request : RequestData) where
  -- from one stage to another, and on from there
  reaches_on : (first mid last : Stage) (xs ys : List Event) → Reaches client request first xs mid
      → Reaches client request mid ys last → Reaches client request first (xs ++ ys) last
  reaches_on first mid last [] ys is more = rw is more
  reaches_on first mid last (x ∷ xs) ys (next, leads, reached) more =
      (next, leads, reaches_on next mid last xs ys reached more)

  look_reaches : (first : Stage) (left : ℕ) (book : Book) (xs ys : List Event)
      → Reaches client request first xs (looks_next left) → OneLook book ys
      → Reaches client request first (xs ++ ys) (sees left book)
  look_reaches first left book xs ys reached one =
      reaches_on first (looks_next left) (sees left book) xs ys reached (rw one (sees left book, refl, refl))

  wait_leads : (ahead left : ℕ) (book : Book) (met : Answer) → is_pending met ≡ true
      → AnswersTo request book client met → ahead ≡ suc left
      → Leads client request (waited (number_of book)) (sees ahead book) (looks_next left)
  wait_leads ahead left book (answer.Hold of i j) held answers one = (left, of, i, j, one, answers, refl, refl)
  wait_leads ahead left book _ held answers one = absurd (false≢true held)

  -- no event of a turn writes
  reaches_silent : (first last : Stage) (xs rest : List Event) → Reaches client request first (xs ++ rest) last
      → bytes_in xs ≡ []
  reaches_silent first last [] rest reached = refl
  reaches_silent first last (wrote bytes ∷ xs) rest (next, leads, reached) = absurd leads
  reaches_silent first last (_ ∷ xs) rest (next, leads, reached) = reaches_silent next last xs rest reached

-- ---- looks and waits

-- a turn comes to a stage
abbrev To : Client → RequestData → ℕ → Stage → List Event → Type 0
To client request most stage events = Reaches client request (looks_next most) events stage

module _ (alone : Bool) (client : Client) (request : RequestData) (most left : ℕ) (book : Book)
    (before mid after : Known) (come : Emits alone (To client request most (looks_next left)) before mid) where
  turn_looks : Emits alone (OneLook book) mid after → Emits alone (To client request most (sees left book)) before after
  turn_looks looks = emits_on _ _ _ _ _ _ _ come looks (look_reaches client request (looks_next most) left book)

  -- memory runs out in a look
  pub look_lost : Emits alone (PrefixOf (OneLook book)) mid after
      → Emits alone (PrefixOf (HasLooked client request most)) before after
  look_lost looks =
      emits_on _ _ _ _ _ _ _ come looks (λ xs ys reached look. prefix_on _ (HasLooked client request most) xs ys look
      (λ zs one. (left, book, look_reaches client request (looks_next most) left book xs zs reached one)))

  -- it waits where its request stays pending
  pub turn_waits : (fewer : ℕ) (met : Answer) (waiting : Known) → is_pending met ≡ true → left ≡ suc fewer
      → AnswersTo request book client met → Emits alone (OneLook book) mid after
      → Emits alone (OneWait (number_of book)) after waiting
      → Emits alone (To client request most (looks_next fewer)) before waiting
  turn_waits fewer met waiting held one_left answers looks waits =
      emits_on _ _ _ _ _ _ _ (turn_looks looks) waits (λ xs ys reached one.
      reaches_on client request (looks_next most) (sees left book) (looks_next fewer) xs ys reached
      (rw one (looks_next fewer, wait_leads client request left fewer book met held answers one_left, refl)))

  -- it waits no more
  pub turn_settles : (met : Answer) → (is_pending met ≡ false) ⊎ (left ≡ 0) → AnswersTo request book client met
      → Emits alone (OneLook book) mid after → Emits alone (HasSettled client request most book met) before after
  turn_settles met last answers looks =
      let turn = turn_looks looks in
      (turn.0, turn.1, turn.2, record { left = left; reached = turn.3; answered = answers; last = last })

-- ---- an answer that is concluded

concludes_turn : (setting : Setting) (request : RequestData) (book : Book) (met : Answer) (told : ReplyData)
    (xs ys : List Event) → HasSettled setting.client request setting.most_waits book met xs
    → Concludes setting.fixed_time met ys told → TakesTurn setting request (xs ++ ys) told
concludes_turn setting request book (answer.Reply reply) told xs ys settled (none, same) =
    (sees settled.left book, (rw (none, append-nil xs) settled.reached, tt), inl (rw same settled.answered))
concludes_turn setting request book (answer.Hold of i j) told xs ys settled (none, same) =
    let none_left : settled.left ≡ 0 =
    elim settled.last [ inl not_held ↦ absurd (false≢true (sym not_held)) | inr zero ↦ zero ] in (
      sees settled.left book,
      (rw (none, append-nil xs) settled.reached, tt),
      inr (of, i, j, settled.answered, none_left, same),
    )
concludes_turn setting request book (answer.Edit import) told xs ys settled (moment, decided, timely, some, same) =
    let ends : Reaches setting.client request (sees settled.left book) ys (has_answer moment decided) =
    rw some.2 (submits import, (import, settled.answered, refl), (has_answer moment decided, (refl, refl), refl)) in
    (has_answer moment decided, (reaches_on setting.client request _ _ _ xs ys settled.reached ends, timely), same)

module _ (alone : Bool) (setting : Setting) (request : RequestData) (before mid after : Known) where
  pub turn_ends : (book : Book) (met : Answer) (told : ReplyData)
      → Emits alone (HasSettled setting.client request setting.most_waits book met) before mid
      → Emits alone (λ events. Concludes setting.fixed_time met events told) mid after
      → Emits alone (λ events. TakesTurn setting request events told) before after
  turn_ends book met told settled concludes =
      emits_on _ _ _ _ _ _ _ settled concludes (concludes_turn setting request book met told)

  -- ---- a turn that is cut off

  -- when it was to be concluded
  pub turn_cut_off : (book : Book) (met : Answer)
      → Emits alone (HasSettled setting.client request setting.most_waits book met) before mid
      → Emits alone (PrefixOf (IsConcluded setting.fixed_time met)) mid after
      → Emits alone (IsCutOff setting request) before after
  turn_cut_off book met settled concludes =
      emits_on _ _ _ _ _ _ _ settled concludes (λ xs ys first last.
      prefix_on (IsConcluded setting.fixed_time met) (λ all. (stage : Stage) × ComesTo setting request all stage)
      xs ys last (λ zs end.
      let turn = concludes_turn setting request book met end.0 xs zs first end.1 in
      (turn.0, turn.1)))

-- behind its last event
pub turn_prefix : (setting : Setting) (request : RequestData) (events : List Event) (told : ReplyData)
    → TakesTurn setting request events told → IsCutOff setting request events
turn_prefix setting request events told (stage, come, replied) =
    prefix_whole (λ all. (stage : Stage) × ComesTo setting request all stage) events (stage, come)

pub whole_cut_off : (alone : Bool) (setting : Setting) (request : RequestData) (told : ReplyData) (before after : Known)
    → Emits alone (λ events. TakesTurn setting request events told) before after
    → Emits alone (IsCutOff setting request) before after
whole_cut_off alone setting request told before after (xs, may, is, turn) =
    (xs, may, is, turn_prefix setting request xs told turn)

-- ---- out of memory

-- for the reply to the next edge, which comes too early
pub hold_lost : (alone : Bool) (time : Option ℕ) (met : Answer) (known : Known) (of : Resource) (i j : ℕ)
    → answer.Hold of i j ≡ met → Emits alone (PrefixOf (IsConcluded time met)) known known
hold_lost alone time met known of i j is = ([], tt, refl, ([], (too_early i, rw (← is) (refl, refl))))

module _ (alone : Bool) (time : Option ℕ) (met : Answer) (before after : Known) (import : Import) (moment : ℕ)
    (is : answer.Edit import ≡ met) (timely : IsMoment time moment) where
  -- for an import
  pub import_lost : Emits alone (PrefixOf (IsSubmitted import moment)) before after
      → Emits alone (PrefixOf (IsConcluded time met)) before after
  import_lost (xs, may, was, (rest, (decided, some))) =
      (xs, may, was, (rest, (edit_reply decided, rw (← is) (moment, decided, timely, some, refl))))

  -- for its reply
  pub reply_lost : (decided : Result Receipt EditFault) → Emits alone (Submits import moment decided) before after
      → Emits alone (PrefixOf (IsConcluded time met)) before after
  reply_lost decided (xs, may, was, some) =
      import_lost (xs, may, was, prefix_whole (IsSubmitted import moment) xs (decided, some))

-- ---- a turn's events write nothing

pub cut_off_silent : (setting : Setting) (request : RequestData) (events : List Event) → IsCutOff setting request events
    → bytes_in events ≡ []
cut_off_silent setting request events (rest, (stage, come)) =
    reaches_silent setting.client request (looks_next setting.most_waits) stage events rest come.0
