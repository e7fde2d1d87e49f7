-- Records whose base takes in batches stand for the book whose base has moved on.
use Rattle.std.proofs.Common.{◌≡◌, ℕ, zero, suc, ◌+◌, ◌-◌, ◌≤◌, ◌<◌, pos, List, [], ◌∷◌, ◌++◌, length, map, All, refl}
use Rattle.std.proofs.Common.{ap, sym, ◌∙◌, subst, arith}
use Rattle.std.proofs.lemmas.Bool.Decides.{nat_tests}
use Rattle.std.proofs.lemmas.Int.{ints}
use Rattle.std.specs.Prelude.{◌^◌, Bool, true, false, cond, not, filter, take, drop}
use Rattle.std.specs.List.{AllByRecursion}
use Rattle.std.proofs.lemmas.List.{append-nil, drop-map, length-map, map-append, take-map}
use Rattle.std.proofs.lemmas.List.Elements.{All-append, All-drop, All-from_recursion, All-take, recursion_from_All}
use Rattle.alto_rows.specs.Accepted.{Accepted}
use Rattle.alto_rows.specs.Rows.{Rows, AreSorted, after}
use Rattle.alto_book.specs.Book.{Book, Kept, kept_of, opening_rows, state_at, trimmed, writes_in}
use Rattle.alto_book.specs.Legal.{IsLegal}
use Rattle.alto_book.proofs.StateLemmas.{good_state, state_within}
use Rattle.alto_book.proofs.TrimLemmas.{length-receipts-trimmed, trim_keeps_legal}
use Rattle.alto_keeper.specs.Stored.{RowData, StoredData, is_taken_in, numbered, rebased}
use Rattle.base_code.specs.Bases.{AreStored, BaseData, IsBase, IsKept, KeptData}
use Rattle.base_code.specs.Pieces.{base_pieces}
use Rattle.batch_code.specs.Spelling.{batch_bytes, head_bytes}
use Rattle.batch_code.specs.Storable.{IsStorable}
use Rattle.alto_desk.specs.Ledger.{book_kept, receipt_of}
use Rattle.alto_desk.specs.Records.{Backs, StoredAs, book_from}
use Rattle.alto_desk.specs.Trim.{base_of, kept_data, trim, trim_number}
use Rattle.alto_desk.proofs.StoredRowsLemmas.{after_opening, behind, behind-opening, few_behind, good_stored}

-- ---- the rows of the records

-- whether a number is among 1 to another
taken_in : (upto n : ℕ) (bytes : List ℕ) → 1 ≤ n → n ≤ upto
    → is_taken_in (pos upto) (record { n = pos n; bytes = bytes }) ≡ true
taken_in upto n bytes low high = grind (arith, ints, nat_tests)

left_behind : (upto n : ℕ) (bytes : List ℕ) → upto < n
    → is_taken_in (pos upto) (record { n = pos n; bytes = bytes }) ≡ false
left_behind upto n bytes past = grind (arith, ints, nat_tests)

-- the rows with numbers above it all stay
all_stay : (upto k : ℕ) (texts : List (List ℕ)) → upto < k
    → filter (λ row. not (is_taken_in (pos upto) row)) (numbered k texts) ≡ numbered k texts
all_stay upto k [] past = refl
all_stay upto k (text ∷ texts) past =
    let row : RowData = record { n = pos k; bytes = text } in
    let rest : List RowData = filter (λ (row : RowData). not (is_taken_in (pos upto) row)) (numbered (k + 1) texts) in
    ap (λ (b : Bool). cond (not b) (row ∷ rest) rest) (left_behind upto k text past)
    ∙ ap (λ (more : List RowData). row ∷ more) (all_stay upto (k + 1) texts (omega (arith, past)))

-- those up to it go
first_go : (k n upto : ℕ) (texts : List (List ℕ)) → upto ≡ k + n
    → filter (λ row. not (is_taken_in (pos upto) row)) (numbered (k + 1) texts) ≡ numbered (upto + 1) (drop n texts)
first_go k zero upto texts same =
    let here : k + 1 ≡ upto + 1 = omega (arith, same) in
    all_stay upto (k + 1) texts (omega (arith, same)) ∙ ap (λ (number : ℕ). numbered number texts) here
first_go k (suc n) upto [] same = refl
first_go k (suc n) upto (text ∷ texts) same =
    let row : RowData = record { n = pos (k + 1); bytes = text } in
    let rest : List RowData = filter (λ (row : RowData). not (is_taken_in (pos upto) row))
    (numbered (k + 1 + 1) texts) in
    ap (λ (b : Bool). cond (not b) (row ∷ rest) rest) (taken_in upto (k + 1) text (omega arith) (omega (arith, same)))
    ∙ first_go (k + 1) n upto texts (omega (arith, same))

-- ---- the base

receipts_back : (kept : List Kept) → map receipt_of (map kept_data kept) ≡ kept
receipts_back [] = refl
receipts_back (one ∷ kept) = ap (λ (more : List Kept). one ∷ more) (receipts_back kept)

pub data_back : (receipts : List KeptData) → map kept_data (map receipt_of receipts) ≡ receipts
data_back [] = refl
data_back (one ∷ receipts) = ap (λ (more : List KeptData). one ∷ more) (data_back receipts)

batches_kept : (batches : List Accepted) → AllByRecursion IsStorable batches
    → AllByRecursion IsKept (map kept_data (map kept_of batches))
batches_kept [] all = tt
batches_kept (batch ∷ batches) all =
    (record { id = all.0.id; digest = all.0.digest; moment = all.0.moment }, batches_kept batches all.1)

-- a base that takes in batches can be stored where the base and the batches could
is_base_trimmed : (stored : StoredData) (book : Book) (n : ℕ) → IsLegal book → StoredAs stored book
    → 1 ≤ length book.receipts + n → n ≤ length book.batches
    → IsBase (base_of (trimmed book n))
is_base_trimmed stored book n legal stands some within = record {
  most = omega (arith, number, legal.small, legal.batches, within);
  each = length-map (trimmed book n).receipts kept_data;
  receipts =
      subst (All IsKept) (sym (map-append kept_data book.receipts (map kept_of (take n book.batches))))
      (All-append IsKept (map kept_data book.receipts) taken before since);
  few = few_behind (state_at book n) 400000 (state_within book n legal).all;
  rows = good_stored (state_at book n) (good_state book n legal);
  none = λ empty. absurd (omega (arith, number, some, empty));
}
  where
    number : length (trimmed book n).receipts ≡ length book.receipts + n
    number = length-receipts-trimmed book n within

    taken : List KeptData
    taken = map kept_data (map kept_of (take n book.batches))

    before : All IsKept (map kept_data book.receipts)
    before =
        subst (All IsKept)
        (sym (ap (λ (b : Book). map kept_data b.receipts) stands.began ∙ data_back stands.base.receipts))
        stands.is_base.receipts

    since : All IsKept taken
    since =
        let batches = recursion_from_All IsStorable (take n book.batches)
        (All-take IsStorable n book.batches stands.storable) in
        All-from_recursion IsKept taken (batches_kept (take n book.batches) batches)

-- ---- what is stored

-- records whose base takes in batches stand for the book whose base has moved on
pub stored_trimmed : (stored : StoredData) (book : Book) (n : ℕ) → IsLegal book → StoredAs stored book
    → 1 ≤ length book.receipts + n → n ≤ length book.batches
    → StoredAs (rebased (base_pieces (base_of (trimmed book n))) (pos (length book.receipts + n)) stored)
    (trimmed book n)
stored_trimmed stored book n legal stands some within = record {
  epoch = stands.epoch;
  window = stands.window;
  base = base_of (trimmed book n);
  head = stands.head;
  is_base = is_base_trimmed stored book n legal stands some within;
  storable = All-drop IsStorable n book.batches stands.storable;
  began = began;
  spelled = ap (rebased pieces (pos (length book.receipts + n))) stands.spelled ∙ ap records rows;
}
  where
    opening : Rows
    opening = opening_rows stands.epoch stands.window

    taken : List Accepted
    taken = take n book.batches

    later : Rows
    later = after stands.base.rows (writes_in taken)

    parts : state_at book n ≡ opening ++ later
    parts =
        ap (λ (b : Book). after b.base (writes_in taken)) stands.began
        ∙ after_opening stands.epoch stands.window stands.base.rows
        taken (All-take IsStorable n book.batches stands.storable)

    split : state_at book n ≡ opening ++ behind (state_at book n)
    split =
        let sorted = subst AreSorted parts (good_state book n legal).sorted in
        parts ∙ ap (λ (more : Rows). opening ++ more)
        (sym (ap behind parts ∙ behind-opening stands.epoch stands.window later sorted))

    began : trimmed book n ≡ book_from stands.epoch stands.window (base_of (trimmed book n)) (drop n book.batches)
    began =
        let kept = (trimmed book n).receipts in
        ap (λ (all : Rows). record { base = all; receipts = kept; batches = drop n book.batches }) split
        ∙ ap (λ (receipts : List Kept). record {
          base = opening ++ behind (state_at book n);
          receipts = receipts;
          batches = drop n book.batches;
        })
        (sym (receipts_back kept))

    texts : List (List ℕ)
    texts = map batch_bytes book.batches

    before : stands.base.b ≡ length book.receipts
    before =
        sym stands.is_base.each ∙ (sym (length-map stands.base.receipts receipt_of)
        ∙ sym (ap (λ (b : Book). length b.receipts) stands.began))

    rows : filter (λ row. not (is_taken_in (pos (length book.receipts + n)) row)) (numbered (stands.base.b + 1) texts)
        ≡ numbered (length (trimmed book n).receipts + 1) (map batch_bytes (drop n book.batches))
    rows =
        ap (λ (b : ℕ). filter (λ (row : RowData). not (is_taken_in (pos (length book.receipts + n)) row))
        (numbered (b + 1) texts)) before
        ∙ (first_go (length book.receipts) n (length book.receipts + n) texts refl
        ∙ (ap (λ (number : ℕ). numbered (number + 1) (drop n texts)) (sym (length-receipts-trimmed book n within))
        ∙ ap (numbered (length (trimmed book n).receipts + 1)) (drop-map batch_bytes n book.batches)))

    pieces : List (List ℕ)
    pieces = base_pieces (base_of (trimmed book n))

    records : List RowData → StoredData
    records more = record {
      base = numbered 0 pieces;
      rows = record { n = pos 0; bytes = head_bytes stands.epoch stands.window } ∷ more;
    }

-- what is held stands for the book whose base has moved on, once the keeper holds it so
pub backs_trimmed : (holds later : StoredData → Type 0) (book : Book) (n number : ℕ) (pieces : List (List ℕ))
    → IsLegal book → 1 ≤ length book.receipts + n
    → n ≤ length book.batches → number ≡ length book.receipts + n → pieces ≡ base_pieces (base_of (trimmed book n))
    → ((stored : StoredData) → holds stored → later (rebased pieces (pos number) stored)) → Backs holds book
    → Backs later (trimmed book n)
backs_trimmed holds later book n number pieces legal some within count spelled keeps (stored, held, stands) =
    let keeps' = rw (count, spelled) at keeps in (
      rebased (base_pieces (base_of (trimmed book n))) (pos (length book.receipts + n)) stored,
      keeps' stored held,
      stored_trimmed stored book n legal stands some within,
    )

-- ---- which book it is

-- the number of batches that are taken in tells the book
pub trim_of : (book : Book) (keep count : ℕ) → length book.receipts + count ≡ trim_number book keep
    → trimmed book count ≡ trim book (trim_number book keep)
trim_of book keep count number =
    let taken : count ≡ trim_number book keep - length book.receipts = omega (arith, number) in
    ap (trimmed book) taken

-- none leave it
pub trimmed_none : (book : Book) → trimmed book 0 ≡ book
trimmed_none book = ap (λ (kept : List Kept). record { base = book.base; receipts = kept; batches = book.batches })
    (append-nil book.receipts)

-- ---- the next base

-- rows and a base are those of a book whose base has moved on
pub record IsNextBase (book : Book) (n : ℕ) (rows : Rows) (base : BaseData) : Type 0 where
  pub same_rows : rows ≡ (trimmed book n).base
  pub same_receipts : map receipt_of base.receipts ≡ (trimmed book n).receipts
  pub stored : base ≡ base_of (trimmed book n)

-- a base that has taken in the first batches
pub is_next_base : {A : Type 0} (f : A → Accepted) (first : Rows) (receipts : List KeptData) (xs taken : List A) (n : ℕ)
    (rows : Rows) (base : BaseData)
    → taken ≡ take n xs → rows ≡ after first (writes_in (map f taken)) → base.rows ≡ behind rows
    → map receipt_of base.receipts ≡ map receipt_of receipts ++ map kept_of (map f taken)
    → base.b ≡ length base.receipts
    → IsNextBase (book_kept first receipts (map f xs)) n rows base
is_next_base f first receipts xs taken n rows base front led stored kept number = record {
  same_rows = same_rows;
  same_receipts = same_receipts;
  stored =
      ap (λ (b : ℕ). record { b = b; receipts = base.receipts; rows = base.rows })
      (number ∙ (sym (length-map base.receipts receipt_of) ∙ ap length same_receipts))
      ∙ (ap (λ (all : List KeptData). record { b = length next.receipts; receipts = all; rows = base.rows })
      (sym (data_back base.receipts) ∙ ap (map kept_data) same_receipts)
      ∙ ap (λ (all : Rows). record { b = length next.receipts; receipts = map kept_data next.receipts; rows = all })
      (stored ∙ ap behind same_rows));
}
  where
    next : Book
    next = trimmed (book_kept first receipts (map f xs)) n

    batches : map f taken ≡ take n (map f xs)
    batches = ap (map f) front ∙ sym (take-map f n xs)

    same_rows : rows ≡ next.base
    same_rows = led ∙ ap (λ (some : List Accepted). after first (writes_in some)) batches

    same_receipts : map receipt_of base.receipts ≡ next.receipts
    same_receipts = kept ∙ ap (λ (some : List Accepted). map receipt_of receipts ++ map kept_of some) batches

-- a base that can be encoded
pub record CanEncode (base : BaseData) : Type 0 where
  pub some : 1 ≤ base.b
  pub receipts : length base.receipts ≡ base.b
  pub few : length base.rows ≤ 400000
  pub rows : AreStored base.rows

pub can_encode : (book : Book) (n : ℕ) (rows : Rows) (base : BaseData) → IsLegal book → 1 ≤ length book.receipts + n
    → n ≤ length book.batches → IsNextBase book n rows base
    → CanEncode base
can_encode book n rows base legal some within next = subst CanEncode (sym next.stored) (record {
  some = omega (arith, some, length-receipts-trimmed book n within);
  receipts = length-map (trimmed book n).receipts kept_data;
  few = few_behind (state_at book n) 400000 (state_within book n legal).all;
  rows = good_stored (state_at book n) (good_state book n legal);
})

-- the book of its rows, its receipts and the batches behind it
pub book_trimmed : {A : Type 0} (f : A → Accepted) (first : Rows) (receipts : List KeptData) (xs left : List A) (n : ℕ)
    (rows : Rows) (base : BaseData)
    → IsNextBase (book_kept first receipts (map f xs)) n rows base → left ≡ drop n xs
    → book_kept rows base.receipts (map f left) ≡ trimmed (book_kept first receipts (map f xs)) n
book_trimmed f first receipts xs left n rows base next rest =
    let batches : map f left ≡ drop n (map f xs) = ap (map f) rest ∙ sym (drop-map f n xs) in
    ap (λ (all : Rows). book_kept all base.receipts (map f left)) next.same_rows
    ∙ (ap (λ (kept : List Kept). record {
      base = state_at (book_kept first receipts (map f xs)) n;
      receipts = kept;
      batches = map f left;
    }) next.same_receipts
    ∙ ap (λ (some : List Accepted). record {
      base = state_at (book_kept first receipts (map f xs)) n;
      receipts = (trimmed (book_kept first receipts (map f xs)) n).receipts;
      batches = some;
    }) batches)

-- it is legal
pub trimmed_is_legal : (book : Book) (n : ℕ) (rows : Rows) (base : BaseData) → IsLegal book → n ≤ length book.batches
    → IsNextBase book n rows base
    → length base.receipts < 2 ^ 62 → IsLegal (trimmed book n)
trimmed_is_legal book n rows base legal within next few =
    let count : length base.receipts ≡ length (trimmed book n).receipts = sym (length-map base.receipts receipt_of)
    ∙ ap length next.same_receipts in
    trim_keeps_legal book n legal within (omega (arith, few, count, length-receipts-trimmed book n within))

-- all of it: what is encoded and which book it makes
pub record MovesOn (book later : Book) (n : ℕ) (base : BaseData) : Type 0 where
  pub can : CanEncode base
  pub stored : base ≡ base_of (trimmed book n)
  pub same : later ≡ trimmed book n
  pub legal : IsLegal later

pub moves_on : {A : Type 0} (f : A → Accepted) (first : Rows) (receipts : List KeptData) (xs taken left : List A)
    (n : ℕ) (rows : Rows) (base : BaseData)
    → IsLegal (book_kept first receipts (map f xs)) → 1 ≤ length (map receipt_of receipts) + n → n ≤ length (map f xs)
    → taken ≡ take n xs → left ≡ drop n xs → rows ≡ after first (writes_in (map f taken)) → base.rows ≡ behind rows
    → map receipt_of base.receipts ≡ map receipt_of receipts ++ map kept_of (map f taken)
    → base.b ≡ length base.receipts
    → length base.receipts < 2 ^ 62
    → MovesOn (book_kept first receipts (map f xs)) (book_kept rows base.receipts (map f left)) n base
moves_on f first receipts xs taken left n rows base legal some within front back led stored kept number few = record {
  can = can_encode book n rows base legal some within next;
  stored = next.stored;
  same = same;
  legal = subst IsLegal (sym same) (trimmed_is_legal book n rows base legal within next few);
}
  where
    book : Book
    book = book_kept first receipts (map f xs)

    next : IsNextBase book n rows base
    next = is_next_base f first receipts xs taken n rows base front led stored kept number

    same : book_kept rows base.receipts (map f left) ≡ trimmed book n
    same = book_trimmed f first receipts xs left n rows base next back
