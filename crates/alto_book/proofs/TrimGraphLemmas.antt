-- The updates graph of a resource in a book whose base moves on: it is cut at the number that the base shows, where it
-- keeps that.
use Rattle.std.proofs.Common.{◌≡◌, refl, ap, sym, ◌∙◌, arith, zero, length-drop}
use Rattle.std.proofs.lemmas.List.{append-nil, append_assoc, drop-drop, length-take-le, take-append-drop}
use Rattle.std.proofs.Math.Seq.{drop-append-add}
use Rattle.std.specs.Prelude.{ℕ, ◌+◌, ◌-◌, ◌<◌, ◌≤◌, max, Bool, true, false, List, [], ◌∷◌, ◌++◌, length, take, drop}
use Rattle.alto_rows.specs.declared.resource.Resource.{Resource}
use Rattle.alto_rows.specs.Accepted.{Accepted}
use Rattle.alto_rows.specs.Good.{AreGood}
use Rattle.alto_rows.specs.Rows.{Rows}
use Rattle.alto_rows.specs.Versions.{is_declared, version_of, window_of}
use Rattle.tips_graph.specs.Graph.{GraphData, Push, cut_at, graph_from}
use Rattle.tips_graph.specs.Keys.{key_set}
use Rattle.alto_book.specs.Book.{Book, Kept, state_at, rows_of, trimmed}
use Rattle.alto_book.specs.Legal.{IsLegal}
use Rattle.alto_book.specs.NumberLaws.{TellsNumbers}
use Rattle.alto_book.specs.Numbers.{renews, touching, base_push, pushes_of, origin_of, number_declared, floor_of}
use Rattle.alto_book.specs.Numbers.{first_kept, updates_graph}
use Rattle.alto_book.proofs.BetweenLemmas.{pushes_from, pushes_from-append, pushes_upto, length-base_push}
use Rattle.alto_book.proofs.BetweenLemmas.{length-pushes_of, length-pushes_upto}
use Rattle.alto_book.proofs.GraphLemmas.{floor_below, last-updates_graph}
use Rattle.alto_book.proofs.MapLemmas.{versioned}
use Rattle.alto_book.proofs.NumberLemmas.{version_of-later}
use Rattle.alto_book.proofs.PlaceLemmas.{above_zero}
use Rattle.alto_book.proofs.StateLemmas.{state_at-all}
use Rattle.alto_book.proofs.TellLemmas.{graph_tells}
use Rattle.alto_book.proofs.TrimLemmas.{state_at-trimmed, rows_of-trimmed}
use Rattle.alto_book.proofs.TrimNumberLemmas.{number_declared-trimmed}

-- ---- the base alone

-- what a base brings a resource that it shows
abbrev shown_by : Rows → Push
shown_by base = record { rows = base; keys = [] }

-- a base that shows a number brings its rows
base_push-shown : (book : Book) (of : Resource) → 1 ≤ version_of book.base of
    → base_push book of ≡ shown_by book.base ∷ []
base_push-shown book of some = rw (above_zero (version_of book.base of) some) refl

-- the graph of a resource that a base declares, before any batch
pub updates_graph-base : (base : Rows) (receipts : List Kept) (of : Resource) → AreGood base
    → is_declared base of ≡ true
    → updates_graph (record { base = base; receipts = receipts; batches = [] }) of
    ≡ graph_from (window_of base) (version_of base of - 1) (record { rows = base; keys = [] } ∷ [])
updates_graph-base base receipts of good declared =
    ap (λ (pushes : List Push). graph_from (window_of base) (floor_of book of - 1)
    (drop (floor_of book of - origin_of book of) pushes))
    (append-nil (base_push book of) ∙ base_push-shown book of some)
    ∙ (ap (λ (n : ℕ). graph_from (window_of base) n (drop (floor_of book of - origin_of book of) (shown_by base ∷ [])))
    before
    ∙ ap (λ (n : ℕ). graph_from (window_of base) (version_of base of - 1) (drop n (shown_by base ∷ []))) none)
  where
    book : Book
    book = record { base = base; receipts = receipts; batches = [] }

    some : 1 ≤ version_of base of
    some = versioned base of good declared

    before : floor_of book of - 1 ≡ version_of base of - 1
    before = omega (arith, some)

    none : floor_of book of - origin_of book of ≡ 0
    none = omega arith

-- ---- what a graph keeps

-- the graph of a declared resource keeps its pushes from the first number that is kept
abbrev kept_by : Book → Resource → ℕ → GraphData
kept_by book of first =
    record {
      window = window_of (rows_of book);
      last = version_of (rows_of book) of;
      kept = drop (first - origin_of book of) (pushes_of book of);
    }

keeps_from : (book : Book) (of : Resource) → IsLegal book → is_declared (rows_of book) of ≡ true
    → updates_graph book of ≡ kept_by book of (first_kept book of)
keeps_from book of legal declared =
    ap (λ (n : ℕ). (let graph : GraphData = record {
      window = window;
      last = n;
      kept = drop (length pushes - window)
          pushes;
    } in graph)) (last-updates_graph book of legal declared)
    ∙ ap (λ (kept : List Push). (let graph : GraphData = record {
      window = window;
      last = version_of (rows_of book) of;
      kept = kept;
    } in graph))
    (drop-drop (length pushes - window) past (pushes_of book of) ∙ ap (λ (n : ℕ). drop n (pushes_of book of)) place)
  where
    window : ℕ
    window = window_of (rows_of book)

    past : ℕ
    past = floor_of book of - origin_of book of

    pushes : List Push
    pushes = drop past (pushes_of book of)

    place : past + (length pushes - window) ≡ first_kept book of - origin_of book of
    place = omega (
      arith,
      length-drop past (pushes_of book of),
      length-pushes_of book of legal,
      floor_below book of legal declared,
    )

-- ---- the pushes past the new base

-- the pushes of the batches past the new base stay
pushes_from-trimmed : (book : Book) (of : Resource) (n start : ℕ) (rest : List Accepted)
    → pushes_from (trimmed book n) of start rest ≡ pushes_from book of (n + start) rest
pushes_from-trimmed book of n start [] = refl
pushes_from-trimmed book of n start (one ∷ rest) =
    by (renews of one) refl
    (pushes_from-trimmed book of n (start + 1) rest ∙ ap (λ (m : ℕ). pushes_from book of m rest) next)
    (state_at-trimmed book n start)
  where
    next : n + (start + 1) ≡ n + start + 1
    next = omega arith

    by : (b : Bool) → renews of one ≡ b
        → pushes_from (trimmed book n) of (start + 1) rest ≡ pushes_from book of (n + start + 1) rest
        → state_at (trimmed book n) start ≡ state_at book (n + start)
        → pushes_from (trimmed book n) of start (one ∷ rest) ≡ pushes_from book of (n + start) (one ∷ rest)
    by true e below same =
        rw (e, below)
        (ap (λ (rows : Rows). (let push : Push = record { rows = rows; keys = key_set (touching of one.writes) } in
        push) ∷ pushes_from book of (n + start + 1) rest) same)
    by false e below same = rw e below

-- they stand behind those up to the base
pushes_of-parts : (book : Book) (of : Resource) (n : ℕ) → n ≤ length book.batches
    → pushes_of book of ≡ pushes_upto book of n ++ pushes_from book of (n + 1) (drop n book.batches)
pushes_of-parts book of n le =
    ap (λ (batches : List Accepted). base_push book of ++ pushes_from book of 1 batches)
    (sym (take-append-drop n book.batches))
    ∙ (ap (λ (pushes : List Push). base_push book of ++ pushes)
    (pushes_from-append book of 1 (take n book.batches) (drop n book.batches))
    ∙ (sym (append_assoc (base_push book of) (pushes_from book of 1 (take n book.batches))
    (pushes_from book of (1 + length (take n book.batches)) (drop n book.batches)))
    ∙ ap (λ (m : ℕ). pushes_upto book of n ++ pushes_from book of m (drop n book.batches)) counted))
  where
    counted : 1 + length (take n book.batches) ≡ n + 1
    counted = omega (arith, length-take-le n book.batches le)

-- and behind that of the new base
pushes_of-trimmed : (book : Book) (of : Resource) (n : ℕ)
    → pushes_of (trimmed book n) of ≡ base_push (trimmed book n) of ++ pushes_from book of (n + 1) (drop n book.batches)
pushes_of-trimmed book of n = ap (λ (pushes : List Push). base_push (trimmed book n) of ++ pushes)
    (pushes_from-trimmed book of n 1 (drop n book.batches))

-- what is behind the first of two lists
behind_first : (xs ys : List Push) (n m : ℕ) → n ≡ length xs + m → drop n (xs ++ ys) ≡ drop m ys
behind_first xs ys n m e = ap (λ (k : ℕ). drop k (xs ++ ys)) e ∙ drop-append-add xs ys m

-- ---- the graph

-- what a trim leaves of the numbers of a declared resource
record Trims (book : Book) (of : Resource) (n : ℕ) : Type 0 where
  window : window_of (rows_of (trimmed book n)) ≡ window_of (rows_of book)
  version : version_of (rows_of (trimmed book n)) of ≡ version_of (rows_of book) of
  rises : version_of book.base of ≤ version_of (state_at book n) of
  upto : version_of (state_at book n) of ≤ version_of (rows_of book) of
  above : number_declared (trimmed book n) of ≤ number_declared book of
  below : number_declared book of ≤ max (version_of (state_at book n) of) (number_declared (trimmed book n) of)

trims : (book : Book) (of : Resource) (n : ℕ) → IsLegal book → n ≤ length book.batches → Trims book of n
trims book of n legal le = record {
  window = ap window_of (rows_of-trimmed book n);
  version = ap (λ (rows : Rows). version_of rows of) (rows_of-trimmed book n);
  rises = version_of-later book zero n of legal (omega arith);
  upto = rw (← state_at-all book) (version_of-later book n (length book.batches) of legal le);
  above = (number_declared-trimmed book of n legal le).0;
  below = (number_declared-trimmed book of n legal le).1;
}

-- the graph after a trim, by its first number and what it keeps
trimmed_by : (book : Book) (of : Resource) (n : ℕ) (kept : List Push) → IsLegal book → IsLegal (trimmed book n)
    → n ≤ length book.batches → is_declared (rows_of book) of ≡ true
    → drop (first_kept (trimmed book n) of - origin_of (trimmed book n) of) (pushes_of (trimmed book n) of) ≡ kept
    → updates_graph (trimmed book n) of
    ≡ record { window = window_of (rows_of book); last = version_of (rows_of book) of; kept = kept }
trimmed_by book of n kept legal legal_trimmed le declared same =
    let it : Trims book of n = trims book of n legal le in
    keeps_from (trimmed book n) of legal_trimmed (ap (λ (rows : Rows). is_declared rows of) (rows_of-trimmed book n)
    ∙ declared)
    ∙ (ap (λ (w : ℕ). (let graph : GraphData = record {
      window = w;
      last = version_of (rows_of (trimmed book n)) of;
      kept = first;
    } in graph)) it.window
    ∙ (ap (λ (v : ℕ). (let graph : GraphData = record { window = window_of (rows_of book); last = v; kept = first } in
    graph)) it.version
    ∙ ap (λ (pushes : List Push). (let graph : GraphData = record {
      window = window_of (rows_of book);
      last = version_of (rows_of book) of;
      kept = pushes;
    } in graph)) same))
  where
    first : List Push
    first = drop (first_kept (trimmed book n) of - origin_of (trimmed book n) of) (pushes_of (trimmed book n) of)

-- where the graph doesn't keep the number that the new base shows, it stays
pub updates_graph-uncut : (book : Book) (of : Resource) (n : ℕ) → IsLegal book → IsLegal (trimmed book n)
    → n ≤ length book.batches → is_declared (rows_of book) of ≡ true
    → version_of (state_at book n) of < first_kept book of → updates_graph (trimmed book n) of ≡ updates_graph book of
updates_graph-uncut book of n legal legal_trimmed le declared past =
    trimmed_by book of n (drop (first_kept book of - origin_of book of) (pushes_of book of)) legal
    legal_trimmed le declared
    (ap (drop (first_kept (trimmed book n) of - origin_of (trimmed book n) of)) (pushes_of-trimmed book of n)
    ∙ (behind_first (base_push (trimmed book n) of) rest (first_kept (trimmed book n) of - origin_of (trimmed book n)
    of) (first_kept book of - version_of (state_at book n) of - 1)
    (omega (arith, length-base_push (trimmed book n) of, first, past))
    ∙ sym (ap (drop (first_kept book of - origin_of book of)) (pushes_of-parts book of n le)
    ∙ behind_first (pushes_upto book of n) rest (first_kept book of - origin_of book of)
    (first_kept book of - version_of (state_at book n) of - 1)
    (omega (arith, length-pushes_upto book of n legal, past)))))
    ∙ sym (keeps_from book of legal declared)
  where
    rest : List Push
    rest = pushes_from book of (n + 1) (drop n book.batches)

    first : first_kept (trimmed book n) of ≡ first_kept book of
    first = let it : Trims book of n = trims book of n legal le in
        omega (arith, it.window, it.version, it.rises, it.above, it.below, past)

-- else it is cut there, and has the rows of the base
pub updates_graph-cut : (book : Book) (of : Resource) (n : ℕ) → IsLegal book → IsLegal (trimmed book n)
    → n ≤ length book.batches → is_declared (rows_of book) of ≡ true
    → first_kept book of ≤ version_of (state_at book n) of
    → updates_graph (trimmed book n) of ≡ cut_at (updates_graph book of) (version_of (state_at book n) of)
    (state_at book n)
updates_graph-cut book of n legal legal_trimmed le declared kept =
    trimmed_by book of n (shown_by (state_at book n) ∷ rest) legal legal_trimmed le declared
    (ap (λ (m : ℕ). drop m (pushes_of (trimmed book n) of)) none
    ∙ (pushes_of-trimmed book of n
    ∙ ap (λ (pushes : List Push). pushes ++ rest) (base_push-shown (trimmed book n) of (omega (arith, kept)))))
    ∙ sym (ap (λ (first : ℕ). cut (updates_graph book of) first) told.first
    ∙ (ap (λ (graph : GraphData). cut graph (first_kept book of)) (keeps_from book of legal declared)
    ∙ ap (λ (pushes : List Push). (let graph : GraphData = record {
      window = window_of (rows_of book);
      last = version_of (rows_of book) of;
      kept = shown_by (state_at book n) ∷ pushes;
    } in graph)) behind))
  where
    rest : List Push
    rest = pushes_from book of (n + 1) (drop n book.batches)

    number : ℕ
    number = version_of (state_at book n) of

    told : TellsNumbers (updates_graph book of) book of
    told = graph_tells book of legal declared

    cut : GraphData → ℕ → GraphData
    cut graph first = record {
      window = graph.window;
      last = graph.last;
      kept = shown_by (state_at book n)
          ∷ drop (number + 1 - first) graph.kept;
    }

    none : first_kept (trimmed book n) of - origin_of (trimmed book n) of ≡ 0
    none = let it : Trims book of n = trims book of n legal le in
        omega (arith, it.window, it.version, it.rises, it.above, kept)

    behind : drop (number + 1 - first_kept book of) (drop (first_kept book of - origin_of book of) (pushes_of book of))
        ≡ rest
    behind =
        drop-drop (number + 1 - first_kept book of) (first_kept book of - origin_of book of) (pushes_of book of)
        ∙ (ap (drop (first_kept book of - origin_of book of + (number + 1 - first_kept book of)))
        (pushes_of-parts book of n le)
        ∙ behind_first (pushes_upto book of n) rest (first_kept book of - origin_of book of
        + (number + 1 - first_kept book of)) 0
        (omega (arith, length-pushes_upto book of n legal, kept)))
