-- The updates graph of a resource in a legal book with one batch more.
use Rattle.std.proofs.Common.{◌≡◌, refl, ap, sym, ◌∙◌, arith, suc, length-drop}
use Rattle.std.proofs.lemmas.List.{append-nil, append_assoc, length-append, drop-append-le}
use Rattle.std.proofs.Math.Seq.{drop-append_seam}
use Rattle.std.specs.Prelude.{ℕ, ◌+◌, ◌-◌, ◌≤◌, max, Bool, true, false, cond, not, ◌&&◌, List, [], ◌∷◌, ◌++◌, length}
use Rattle.std.specs.Prelude.{drop, Some, slice_get}
use Rattle.alto_rows.specs.declared.resource.Resource.{Resource}
use Rattle.alto_rows.specs.Accepted.{Accepted}
use Rattle.alto_rows.specs.Rows.{Rows, after}
use Rattle.alto_rows.specs.Versions.{is_declared, window_of, version_of}
use Rattle.tips_graph.proofs.GraphLaws.{one_push_more}
use Rattle.tips_graph.specs.Graph.{Push, GraphData, graph_from, with_push}
use Rattle.tips_graph.specs.Keys.{key_set}
use Rattle.alto_book.specs.Acceptance.{with_batch}
use Rattle.alto_book.specs.Book.{Book, Extends, state_at, rows_of}
use Rattle.alto_book.specs.Legal.{IsLegal}
use Rattle.alto_book.specs.Numbers.{renews, touching, base_push, pushes_of, origin_of, number_declared, floor_of}
use Rattle.alto_book.specs.Numbers.{updates_graph}
use Rattle.alto_book.proofs.BetweenLemmas.{pushes_from, pushes_from-append, one_push, no_push, length-pushes_of}
use Rattle.alto_book.proofs.DeclaredLemmas.{declared_upto, declared_upto-all, declared_upto-next}
use Rattle.alto_book.proofs.DeclaredLemmas.{declared_upto-extended, number_declared_below}
use Rattle.alto_book.proofs.GivenLemmas.{renews_declared}
use Rattle.alto_book.proofs.GrownLemmas.{state_at-grown}
use Rattle.alto_book.proofs.MapLemmas.{origin_below}
use Rattle.alto_book.proofs.PlaceLemmas.{version_of-next}
use Rattle.alto_book.proofs.StateLemmas.{state_at-all, state_at-next, good_state}
use Rattle.alto_book.proofs.StayLemmas.{window_of-extended}

-- ---- one batch more

-- the book with it extends the book
pub with_batch_extends : (book : Book) (batch : Accepted) → Extends (with_batch book batch) book
with_batch_extends book batch = record { base = refl; receipts = refl; more = batch ∷ []; batches = refl }

-- the rows after as many batches as there are with it
state_at-last : (book : Book) (batch : Accepted)
    → state_at (with_batch book batch) (suc (length book.batches)) ≡ rows_of (with_batch book batch)
state_at-last book batch =
    let counted : suc (length book.batches) ≡ length (book.batches ++ batch ∷ []) =
    omega (arith, length-append book.batches (batch ∷ [])) in
    ap (state_at (with_batch book batch)) counted ∙ state_at-all (with_batch book batch)

-- the rows before it
state_at-before : (book : Book) (batch : Accepted)
    → state_at (with_batch book batch) (length book.batches) ≡ rows_of book
state_at-before book batch =
    state_at-grown book batch (length book.batches) (omega arith) ∙ state_at-all book

-- it stands behind the others
slice_get-last : (batches : List Accepted) (batch : Accepted)
    → slice_get (batches ++ batch ∷ []) (length batches) ≡ Some batch
slice_get-last [] batch = refl
slice_get-last (first ∷ batches) batch = slice_get-last batches batch

-- the version after it
pub version_of-with_batch : (book : Book) (batch : Accepted) (of : Resource) → IsLegal (with_batch book batch)
    → version_of (rows_of (with_batch book batch)) of ≡ cond (renews of batch) (version_of (rows_of book) of + 1)
    (version_of (rows_of book) of)
version_of-with_batch book batch of legal =
    ap (λ (rows : Rows). version_of rows of) (sym (state_at-last book batch))
    ∙ (version_of-next (with_batch book batch) of (length book.batches) batch legal (slice_get-last book.batches batch)
    ∙ ap (λ (rows : Rows). cond (renews of batch) (version_of rows of + 1) (version_of rows of))
    (state_at-before book batch))

-- a resource that is declared after it and not before gets a number from it
pub renews_newly : (book : Book) (batch : Accepted) (of : Resource) → IsLegal (with_batch book batch)
    → is_declared (rows_of book) of ≡ false
    → is_declared (rows_of (with_batch book batch)) of ≡ true → renews of batch ≡ true
renews_newly book batch of legal out now =
    renews_declared (state_at (with_batch book batch) (length book.batches)) batch
    of (good_state (with_batch book batch) (length book.batches) legal)
    (legal.each (length book.batches) batch (slice_get-last book.batches batch))
    (ap (λ (rows : Rows). is_declared rows of) (state_at-before book batch) ∙ out)
    (ap (λ (rows : Rows). is_declared rows of)
    (sym (state_at-next (with_batch book batch) (length book.batches) batch (slice_get-last book.batches batch))
    ∙ state_at-last book batch) ∙ now)

-- the number with which a resource was last declared
number_declared-with_batch : (book : Book) (batch : Accepted) (of : Resource)
    → number_declared (with_batch book batch) of
    ≡ cond (not (is_declared (rows_of book) of) && is_declared (rows_of (with_batch book batch)) of)
    (version_of (rows_of (with_batch book batch)) of) (number_declared book of)
number_declared-with_batch book batch of =
    sym (declared_upto-all (with_batch book batch) of)
    ∙ (ap (declared_upto (with_batch book batch) of) counted
    ∙ (declared_upto-next (with_batch book batch) of (length book.batches) batch (slice_get-last book.batches batch)
    ∙ (ap (λ (rows : Rows). cond (not (is_declared rows of)
    && is_declared (state_at (with_batch book batch) (suc (length book.batches))) of)
    (version_of (state_at (with_batch book batch) (suc (length book.batches))) of)
    (declared_upto (with_batch book batch) of (length book.batches))) (state_at-before book batch)
    ∙ (ap (λ (rows : Rows). cond (not (is_declared (rows_of book) of) && is_declared rows of) (version_of rows of)
    (declared_upto (with_batch book batch) of (length book.batches))) (state_at-last book batch)
    ∙ ap (cond (not (is_declared (rows_of book) of) && is_declared (rows_of (with_batch book batch)) of)
    (version_of (rows_of (with_batch book batch)) of))
    (declared_upto-extended book (with_batch book batch) of (length book.batches) (with_batch_extends book batch)
    (omega arith) ∙ declared_upto-all book of)))))
  where
    counted : length (book.batches ++ batch ∷ []) ≡ suc (length book.batches)
    counted = omega (arith, length-append book.batches (batch ∷ []))

-- ---- its pushes

-- the pushes of the batches before it stay
pushes_from-with_batch : (book : Book) (batch : Accepted) (of : Resource) (start : ℕ) (rest : List Accepted)
    → start + length rest ≤ 1 + length book.batches
    → pushes_from (with_batch book batch) of start rest ≡ pushes_from book of start rest
pushes_from-with_batch book batch of start [] h = refl
pushes_from-with_batch book batch of start (one ∷ rest) h =
    by (renews of one) refl (pushes_from-with_batch book batch of (start + 1) rest (omega (arith, h)))
    (state_at-grown book batch start (omega (arith, h)))
  where
    by : (b : Bool) → renews of one ≡ b
        → pushes_from (with_batch book batch) of (start + 1) rest ≡ pushes_from book of (start + 1) rest
        → state_at (with_batch book batch) start ≡ state_at book start
        → pushes_from (with_batch book batch) of start (one ∷ rest) ≡ pushes_from book of start (one ∷ rest)
    by true e below same =
        rw (e, below)
        (ap (λ (rows : Rows). (let push : Push = record { rows = rows; keys = key_set (touching of one.writes) } in
        push) ∷ pushes_from book of (start + 1) rest) same)
    by false e below same = rw e below

-- and its own comes behind them
pushes_of-with_batch : (book : Book) (batch : Accepted) (of : Resource)
    → pushes_of (with_batch book batch) of ≡ pushes_of book of ++ pushes_from (with_batch book batch)
    of (1 + length book.batches) (batch ∷ [])
pushes_of-with_batch book batch of =
    ap (λ (more : List Push). base_push book of ++ more)
    (pushes_from-append (with_batch book batch) of 1 book.batches (batch ∷ [])
    ∙ ap (λ (before : List Push). before ++ pushes_from (with_batch book batch)
    of (1 + length book.batches) (batch ∷ []))
    (pushes_from-with_batch book batch of 1 book.batches (omega arith)))
    ∙ sym (append_assoc (base_push book of) (pushes_from book of 1 book.batches)
    (pushes_from (with_batch book batch) of (1 + length book.batches) (batch ∷ [])))

-- what a batch that gives a resource a number brings its graph
abbrev pub push_with : Book → Accepted → Resource → Push
push_with book batch of = record { rows = rows_of (with_batch book batch); keys = key_set (touching of batch.writes) }

-- the pushes of a resource that the batch gives a number
pushes_of-renewed : (book : Book) (batch : Accepted) (of : Resource) → renews of batch ≡ true
    → pushes_of (with_batch book batch) of ≡ pushes_of book of ++ push_with book batch of ∷ []
pushes_of-renewed book batch of h =
    pushes_of-with_batch book batch of
    ∙ ap (λ (more : List Push). pushes_of book of ++ more)
    (one_push (with_batch book batch) of (1 + length book.batches) batch h
    ∙ ap (λ (rows : Rows). (let push : Push = record { rows = rows; keys = key_set (touching of batch.writes) } in
    push) ∷ [])
    (ap (state_at (with_batch book batch)) counted ∙ state_at-last book batch))
  where
    counted : 1 + length book.batches ≡ suc (length book.batches)
    counted = omega arith

-- those of another
pushes_of-other : (book : Book) (batch : Accepted) (of : Resource) → renews of batch ≡ false
    → pushes_of (with_batch book batch) of ≡ pushes_of book of
pushes_of-other book batch of h =
    pushes_of-with_batch book batch of
    ∙ (ap (λ (more : List Push). pushes_of book of ++ more)
    (no_push (with_batch book batch) of (1 + length book.batches) batch h) ∙ append-nil (pushes_of book of))

-- ---- its graph

-- the graph of the pushes from a number on, where the pushes begin with this one
abbrev graph_since : ℕ → ℕ → ℕ → List Push → GraphData
graph_since window floor origin pushes = graph_from window (floor - 1) (drop (floor - origin) pushes)

-- the graph with the batch, by what becomes of its parts
graph_with_batch : (book : Book) (batch : Accepted) (of : Resource) (declared : ℕ) (pushes : List Push) → IsLegal book
    → IsLegal (with_batch book batch)
    → number_declared (with_batch book batch) of ≡ declared → pushes_of (with_batch book batch) of ≡ pushes
    → updates_graph (with_batch book batch) of
    ≡ graph_since (window_of (rows_of book)) (max (origin_of book of) declared) (origin_of book of) pushes
graph_with_batch book batch of declared pushes legal legal_with same are =
    ap (λ (window : ℕ). graph_since window (floor_of (with_batch book batch) of) (origin_of book of)
    (pushes_of (with_batch book batch) of))
    (window_of-extended book (with_batch book batch) legal legal_with (with_batch_extends book batch))
    ∙ (ap (λ (n : ℕ). graph_since (window_of (rows_of book)) (max (origin_of book of) n) (origin_of book of)
    (pushes_of (with_batch book batch) of)) same
    ∙ ap (graph_since (window_of (rows_of book)) (max (origin_of book of) declared) (origin_of book of)) are)

-- a declared resource wasn't declared by it
declared_stays : (book : Book) (batch : Accepted) (of : Resource) → is_declared (rows_of book) of ≡ true
    → number_declared (with_batch book batch) of ≡ number_declared book of
declared_stays book batch of declared = number_declared-with_batch book batch of ∙ rw declared refl

-- the lowest number that may be kept of a declared resource isn't above its version
pub floor_below : (book : Book) (of : Resource) → IsLegal book → is_declared (rows_of book) of ≡ true
    → floor_of book of ≤ version_of (rows_of book) of
floor_below book of legal declared =
    omega (arith, origin_below book of legal declared, number_declared_below book of legal)

-- the graph of a declared resource that the batch gives no number stays
pub updates_graph-other : (book : Book) (batch : Accepted) (of : Resource) → IsLegal book
    → IsLegal (with_batch book batch) → is_declared (rows_of book) of ≡ true
    → renews of batch ≡ false → updates_graph (with_batch book batch) of ≡ updates_graph book of
updates_graph-other book batch of legal legal_with declared h =
    graph_with_batch book batch of (number_declared book of) (pushes_of book of) legal
    legal_with (declared_stays book batch of declared) (pushes_of-other book batch of h)

-- that of a declared resource that the batch gives a number has a push more
pub updates_graph-renewed : (book : Book) (batch : Accepted) (of : Resource) → IsLegal book
    → IsLegal (with_batch book batch) → is_declared (rows_of book) of ≡ true
    → renews of batch ≡ true → updates_graph (with_batch book batch) of
    ≡ with_push (updates_graph book of) (push_with book batch of)
updates_graph-renewed book batch of legal legal_with declared h =
    graph_with_batch book batch of (number_declared book of) (pushes_of book of ++ push_with book batch of ∷ [])
    legal legal_with
    (declared_stays book batch of declared) (pushes_of-renewed book batch of h)
    ∙ (ap (graph_from (window_of (rows_of book)) (floor_of book of - 1))
    (drop-append-le (floor_of book of - origin_of book of) (pushes_of book of)
    (push_with book batch of ∷ []) within)
    ∙ sym (one_push_more (window_of (rows_of book)) (floor_of book of - 1)
    (drop (floor_of book of - origin_of book of) (pushes_of book of)) (push_with book batch of)))
  where
    within : floor_of book of - origin_of book of ≤ length (pushes_of book of)
    within = omega (arith, length-pushes_of book of legal, floor_below book of legal declared)

-- that of a resource that the batch declares begins with it
pub updates_graph-declared : (book : Book) (batch : Accepted) (of : Resource) → IsLegal book
    → IsLegal (with_batch book batch) → is_declared (rows_of book) of ≡ false
    → is_declared (rows_of (with_batch book batch)) of ≡ true
    → updates_graph (with_batch book batch) of ≡ graph_from (window_of (rows_of book)) (version_of (rows_of book) of)
    (push_with book batch of ∷ [])
updates_graph-declared book batch of legal legal_with out now =
    graph_with_batch book batch of (version_of (rows_of (with_batch book batch)) of)
    (pushes_of book of ++ push_with book batch of ∷ []) legal legal_with
    (number_declared-with_batch book batch of ∙ rw (out, now) refl) (pushes_of-renewed book batch of renewed)
    ∙ (ap (λ (n : ℕ). graph_from (window_of (rows_of book)) (floor - 1)
    (drop n (pushes_of book of ++ push_with book batch of ∷ []))) all
    ∙ (ap (graph_from (window_of (rows_of book)) (floor - 1))
    (drop-append_seam (pushes_of book of) (push_with book batch of ∷ []))
    ∙ ap (λ (n : ℕ). graph_from (window_of (rows_of book)) n (push_with book batch of ∷ [])) before))
  where
    floor : ℕ
    floor = max (origin_of book of) (version_of (rows_of (with_batch book batch)) of)

    renewed : renews of batch ≡ true
    renewed = renews_newly book batch of legal_with out now

    next : version_of (rows_of (with_batch book batch)) of ≡ version_of (rows_of book) of + 1
    next = version_of-with_batch book batch of legal_with ∙ rw renewed refl

    counted : length (pushes_of book of) + origin_of book of ≡ version_of (rows_of book) of + 1
    counted = length-pushes_of book of legal

    before : floor - 1 ≡ version_of (rows_of book) of
    before = omega (arith, next, counted)

    all : floor - origin_of book of ≡ length (pushes_of book of)
    all = omega (arith, next, counted)

-- the last number of the graph of a declared resource is its version
pub last-updates_graph : (book : Book) (of : Resource) → IsLegal book → is_declared (rows_of book) of ≡ true
    → (updates_graph book of).last ≡ version_of (rows_of book) of
last-updates_graph book of legal declared =
    omega (
      arith,
      length-pushes_of book of legal,
      floor_below book of legal declared,
      length-drop (floor_of book of - origin_of book of) (pushes_of book of),
    )
