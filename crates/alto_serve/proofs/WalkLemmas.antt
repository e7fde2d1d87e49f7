-- The edges that a connection's turns were answered with, and what following them leads to.
use Rattle.std.proofs.Common.{◌≡◌, ℕ, Bool, true, false, List, [], ◌∷◌, ◌++◌, map, All, fold, Option, Some, None}
use Rattle.std.proofs.Common.{if◌then◌else◌, refl, sym, ◌∙◌, ap, subst, inl, inr, append_assoc, arith}
use Rattle.std.proofs.lemmas.List.Sums.{fold-append}
use Rattle.std.proofs.lemmas.List.Elements.{All-cons, All-contains, All-head, All-nil, All-tail}
use Rattle.std.proofs.lemmas.Option.{IfSome_then}
use Rattle.alto_rows.specs.declared.resource.Resource.{Resource}
use Rattle.alto_rows.specs.Good.{AreGood, IsResource}
use Rattle.alto_rows.specs.Ids.{resource_id, resource_named}
use Rattle.alto_rows.specs.Rows.{Rows}
use Rattle.alto_rows.specs.Versions.{is_declared}
use Rattle.alto_rows.proofs.IdLemmas.{names_if_declared, unambiguous}
use Rattle.tips_graph.specs.declared.status.EdgeStatus.{EdgeStatus}
use Rattle.tips_graph.specs.declared.status.EdgeStatus.TheVariants.{Awaited, Here}
use Rattle.alto_book.specs.Book.{Book, rows_of}
use Rattle.alto_book.specs.Legal.{IsLegal}
use Rattle.alto_book.specs.Numbers.{status_at}
use Rattle.alto_book.specs.Walks as walks
use Rattle.alto_book.proofs.StateLemmas.{good_rows}
use Rattle.alto_book.proofs.WalkLemmas.{bodies_stay, walks_lead_on}
use Rattle.alto_http.specs.Request.{RequestData}
use Rattle.alto_http.specs.declared.request.Verb.{Verb}
use Rattle.alto_http.specs.declared.request.Verb.TheVariants as verb
use Rattle.alto_replies.specs.Reply.{ReplyData, bytes_of}
use Rattle.alto_answers.specs.Answers.{AnswersTo}
use Rattle.alto_answers.specs.Edges.{content_reply, edge_by, edge_reply, edges_answer, named_edge}
use Rattle.alto_answers.specs.Target.{path_of, segment}
use Rattle.alto_answers.specs.Accept.{patch_form}
use Rattle.alto_answers.specs.declared.outcome.Answer.{Answer}
use Rattle.alto_answers.specs.declared.outcome.Answer.TheVariants as answer
use Rattle.alto_answers.specs.declared.client.Client.{Client}
use Rattle.alto_serve.specs.declared.end.End.{End}
use Rattle.alto_serve.specs.Connections.{IsServed, IsTurn, Serves, State, trace_of}
use Rattle.alto_serve.specs.Events.{Event, looked, entered, waited, wrote, Known, known_after, IsGrown, IsHistory}
use Rattle.alto_serve.specs.Steps.{Becomes}
use Rattle.alto_serve.specs.Turns.{Exchange, IsReplied, Reaches, Setting, Stage, looks_next, has_answer, sees, submits}
use Rattle.alto_serve.specs.Walks.{AsksEdge, EdgeAsked, GivesEdge, IsWalkIn, WalksReachDocuments, content_in, edge_of}
use Rattle.alto_serve.proofs.EventLemmas.{grown_legal, history_behind, history_grown}

-- ---- the answer to a request for an edge

-- an edge was answered 200 at a look
pub record IsGiven (look : Book) (of : Resource) (edge : EdgeAsked) (reply : ReplyData) : Type 0 where
  pub declared : is_declared (rows_of look) of ≡ true
  pub here : status_at look of edge.i edge.j ≡ Here
  pub same : reply ≡ edge_reply look of edge.form edge.i edge.j

-- where an answer is 200, it gives the edge; and it is no import
abbrev IsEdgeAnswer : Book → Resource → EdgeAsked → Answer → Type 0
IsEdgeAnswer look of edge (answer.Reply reply) = reply.status ≡ 200 → IsGiven look of edge reply
IsEdgeAnswer look of edge (answer.Hold held from to) = Unit {0}
IsEdgeAnswer look of edge (answer.Edit import) = ⊥

answer_by : (look : Book) (of : Resource) (edge : EdgeAsked) (status : EdgeStatus)
    → status_at look of edge.i edge.j ≡ status → is_declared (rows_of look) of ≡ true
    → IsEdgeAnswer look of edge (edge_by status look of edge.form edge.i edge.j)
answer_by look of edge Awaited is declared = tt
answer_by look of edge Here is declared = λ ok. record { declared = declared; here = is; same = refl }
answer_by look of edge _ is declared = λ ok. absurd (omega (arith, ok))

-- the id of a resource names it where it is declared
named-by_id : (rows : Rows) (text : List ℕ) (of : Resource) → AreGood rows → IsResource of → resource_id of ≡ text
    → resource_named rows text ≡ (if is_declared rows of then Some of else None)
named-by_id rows text of good is id =
    sym (names_if_declared rows text of good (λ other. (
      λ both. ap (λ (x : Resource). Some x) (unambiguous of other is both.0 (id ∙ sym both.1)),
      λ same. let one : of ≡ other = cc in (subst IsResource one is, ap resource_id (sym one) ∙ id),
    )))

edge_answer : (look : Book) (client : Client) (request : RequestData) (of : Resource) (edge : EdgeAsked) (met : Answer)
    → IsLegal look → AsksEdge client request of edge → AnswersTo request look client met → IsEdgeAnswer look of edge met
unfolding AnswersTo
edge_answer look client request of edge met legal asks is =
    subst (λ (met : Answer). IsEdgeAnswer look of edge met) (sym (rw asks.routed at is)) (by request.verb)
  where
    if_declared : (b : Bool) → is_declared (rows_of look) of ≡ b → IsEdgeAnswer look of edge
        (named_edge look (if b then Some of else None) (patch_form request.accept)
        (segment (path_of request.target) 4) (segment (path_of request.target) 5))
    if_declared true declared =
        rw (asks.from, asks.to, asks.accepts) (answer_by look of edge (status_at look of edge.i edge.j) refl declared)
    if_declared false declared = λ ok. absurd (omega (arith, ok))

    by : (v : Verb) → IsEdgeAnswer look of edge (edges_answer v look (patch_form request.accept)
        (segment (path_of request.target) 2) (segment (path_of request.target) 4) (segment (path_of request.target) 5))
    by verb.Get =
        let named = named-by_id (rows_of look) _ of (good_rows look legal) asks.good asks.id in
        rw named (if_declared (is_declared (rows_of look) of) refl)
    by _ = λ ok. absurd (omega (arith, ok))

-- ---- a turn

-- an edge was given at a legal book, from which this one grew
pub record WasGiven (book : Book) (of : Resource) (edge : EdgeAsked) (reply : ReplyData) : Type 0 where
  pub look : Book
  pub legal : IsLegal look
  pub grown : IsGrown book look
  pub given : IsGiven look of edge reply

-- what was looked at last is a legal book, from which the last one grew; and no import was entered
abbrev IsAt : Book → Stage → Type 0
IsAt last (looks_next left) = Unit {0}
IsAt last (sees left book) = IsLegal book × IsGrown last book
IsAt _ _ = ⊥

-- the book that is seen after events
abbrev seen_after : Bool → Known → List Event → Book
seen_after alone known events = (fold (known_after alone) known events).seen

module _ (alone : Bool) (client : Client) (request : RequestData) (of : Resource) (edge : EdgeAsked)
    (asks : AsksEdge client request of edge) (told : ReplyData) (ok : told.status ≡ 200) where
  reply_gives : (last : Book) (stage : Stage) → IsAt last stage → IsReplied client request stage told
      → WasGiven last of edge told
  reply_gives last (looks_next left) at replied = absurd replied
  reply_gives last (sees left book) at (inl answers) =
      let given = edge_answer book client request of edge (answer.Reply told) at.0 asks answers ok in
      record { look = book; legal = at.0; grown = at.1; given = given }
  reply_gives last (sees left book) at (inr (held, from, to, answers, none, is)) =
      absurd (omega (arith, sym (ap (λ (r : ReplyData). r.status) is) ∙ ok))
  reply_gives last _ at replied = absurd at

  turn_gives : (known : Known) (stage last : Stage) (events rest : List Event)
      → IsAt (seen_after alone known (events ++ rest)) stage → Reaches client request stage events last
      → IsReplied client request last told → IsHistory alone known (events ++ rest)
      → WasGiven (seen_after alone known (events ++ rest)) of edge told
  turn_gives known stage last [] rest at reached replied may =
      reply_gives (seen_after alone known rest) stage at (rw reached replied)
  turn_gives known (looks_next left) last (looked book ∷ events) rest at (next, leads, reached) replied may =
      let now = known_after alone known (looked book) in
      turn_gives now (sees left book) last events rest
      (may.0.legal, history_grown alone now (events ++ rest) may.1) (rw leads at reached) replied may.1
  turn_gives known (sees left book) last (waited n ∷ events) rest at (next, leads, reached) replied may =
      turn_gives (known_after alone known (waited n)) (looks_next leads.0) last events rest tt
      (rw leads.7 at reached) replied may.1
  turn_gives known (sees left book) last (entered look ∷ events) rest at (next, leads, reached) replied may =
      absurd (edge_answer book client request of edge (answer.Edit leads.0) at.0 asks leads.1)
  turn_gives known (submits import) last (event ∷ events) rest at reached replied may = absurd at
  turn_gives known (has_answer moment decided) last (event ∷ events) rest at reached replied may = absurd at
  turn_gives known _ last (_ ∷ events) rest at (next, leads, reached) replied may = absurd leads

-- ---- all turns

-- the edge that an exchange asked for, if it was answered 200, was given
abbrev GaveEdge : Client → Book → Exchange → Type 0
GaveEdge client book exchange = (of : Resource) (edge : EdgeAsked) → AsksEdge client exchange.request of edge
    → exchange.reply.status ≡ 200 → WasGiven book of edge exchange.reply

all_give : (setting : Setting) (known : Known) (exchanges : List Exchange) (tail : List Event)
    → All (IsTurn setting) exchanges → IsHistory setting.alone known (trace_of exchanges ++ tail)
    → All (GaveEdge setting.client (seen_after setting.alone known (trace_of exchanges ++ tail))) exchanges
all_give setting known [] tail turns may = All-nil (GaveEdge setting.client (seen_after setting.alone known tail))
all_give setting known (first ∷ exchanges) tail turns may =
    let turn = All-head (IsTurn setting) first exchanges turns in
    let more = wrote (bytes_of first.reply first.request.close) ∷ (trace_of exchanges ++ tail) in
    let whole : trace_of (first ∷ exchanges) ++ tail ≡ first.events ++ more = simp append_assoc in
    let may' : IsHistory setting.alone known (first.events ++ more) = (rw whole at may) in
    let rest = all_give setting (fold (known_after setting.alone) known first.events) exchanges tail
    (All-tail (IsTurn setting) first exchanges turns) (history_behind setting.alone known first.events more may').1 in
    subst (λ (xs : List Event). All (GaveEdge setting.client (seen_after setting.alone known xs)) (first ∷ exchanges))
    (sym whole) (All-cons (GaveEdge setting.client (seen_after setting.alone known (first.events ++ more))) first
    exchanges
    (λ of edge asks ok. turn_gives setting.alone setting.client first.request of edge asks first.reply ok known
    (looks_next setting.most_waits) turn.0 first.events more tt turn.1.0 turn.2 may')
    (subst (λ (now : Known). All (GaveEdge setting.client now.seen) exchanges)
    (sym (fold-append (known_after setting.alone) known first.events more)) rest))

-- ---- walks

module _ (book : Book) (of : Resource) (edge : EdgeAsked) (reply : ReplyData) (was : WasGiven book of edge reply) where
  edge-answered : (content : walks.Content) → content ≡ content_in was.look of edge
      → walks.IsAnswered book of (record (edge_of book of edge) { content = content })
  edge-answered content same = record {
    look = was.look;
    extends = (grown_legal book was.look was.grown was.legal).1;
    declared = was.given.declared;
    here = was.given.here;
    content = same;
  }

  edge_stays : content_in was.look of edge ≡ content_in book of edge
  edge_stays =
      bodies_stay book of (edge_of was.look of edge) (grown_legal book was.look was.grown was.legal).0
      (edge-answered (content_in was.look of edge) refl)

  reply_stays : reply ≡ edge_reply book of edge.form edge.i edge.j
  reply_stays = was.given.same ∙ ap (content_reply of) edge_stays

module _ (client : Client) (exchanges : List Exchange) (book : Book)
    (given : (of : Resource) (edge : EdgeAsked) (exchange : Exchange) → GivesEdge client exchanges of edge exchange
    → WasGiven book of edge exchange.reply) where
  walk_given : (of : Resource) (from : ℕ) (edges : List EdgeAsked) (at : ℕ)
      → IsWalkIn client exchanges of from edges at → walks.IsWalk book of from (map (edge_of book of) edges) at
  walk_given of from [] at along = along
  walk_given of from (edge ∷ edges) at (begins, (exchange, gives), along) =
      let was = given of edge exchange gives in
      let stays = edge_stays book of edge exchange.reply was in (
        begins,
        edge-answered book of edge exchange.reply was (content_in book of edge) (sym stays),
        walk_given of edge.j edges at along,
      )

  walks_reach : WalksReachDocuments client exchanges book
  walks_reach = record {
    replies = λ of edge exchange gives. reply_stays book of edge exchange.reply (given of edge exchange gives);
    bodies = λ of edge exchange gives.
        ap (λ (r : ReplyData). r.body) (reply_stays book of edge exchange.reply (given of edge exchange gives));
    walks = λ of from at first edges held along start.
        let was = given of first along.1.0 along.1.1 in
        walks_lead_on book of from at (edge_of book of first) (map (edge_of book of) edges) held
        (grown_legal book was.look was.grown was.legal).0 (walk_given of from (first ∷ edges) at along) start;
  }

-- ---- a connection

served_reach : (ended : End) (setting : Setting) (bytes : List ℕ) (left : Option (List ℕ)) (known : Known)
    (events : List Event) → IsHistory setting.alone known events → (served : IsServed ended setting bytes left events)
    → WalksReachDocuments setting.client served.exchanges (seen_after setting.alone known events)
served_reach ended setting bytes left known events may served =
    let last = seen_after setting.alone known (trace_of served.exchanges ++ served.tail) in
    let given = all_give setting known served.exchanges served.tail served.turns (rw served.whole at may) in
    subst (λ (xs : List Event). WalksReachDocuments setting.client served.exchanges (seen_after setting.alone known xs))
    (sym served.whole) (walks_reach setting.client served.exchanges last (λ of edge exchange gives.
    All-contains (GaveEdge setting.client last) served.exchanges exchange given gives.there of edge
    gives.asked gives.ok))

-- walks along the edges of what was served
pub served_walks : (ended : End) (setting : Setting) (before after : State)
    → Becomes setting (λ bytes after. IsServed ended setting bytes after.left) before after
    → Serves ended setting before after
served_walks ended setting before after became =
    IfSome_then before.left became (λ bytes h.
    let served = h.3.1 in
    let reach = subst (λ (known : Known). WalksReachDocuments setting.client served.exchanges known.seen) (sym h.2)
    (served_reach ended setting bytes after.left before.known h.0 h.1 served) in
    (h.0, h.1, h.2, (h.3.0, (served, reach))))
