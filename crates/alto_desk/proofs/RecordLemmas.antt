-- Records with one row more, rows that are read, and which book records stand for.
use Rattle.std.proofs.Common.{◌≡◌, ℕ, zero, suc, ◌+◌, ◌≤◌, ◌<◌, pos, List, [], ◌∷◌, ◌++◌, length, map, All, Some}
use Rattle.std.proofs.Common.{slice_get, refl, ap, sym, ◌∙◌, add-one, arith}
use Rattle.std.specs.Prelude.{◌<ℤ◌, ◌≤ℤ◌, take, drop, get_or}
use Rattle.std.proofs.Math.Seq.{take-suc}
use Rattle.std.specs.List.{AllByRecursion}
use Rattle.std.proofs.lemmas.Int.{ints}
use Rattle.std.proofs.lemmas.List.{append_assoc, length-map, map-append, take-append-drop}
use Rattle.std.proofs.lemmas.List.Elements.{All-from_recursion, All-push, recursion_from_All}
use Rattle.alto_rows.specs.Accepted.{Accepted}
use Rattle.alto_book.specs.Acceptance.{with_batch}
use Rattle.alto_rows.specs.declared.key.Key.{Key}
use Rattle.alto_rows.specs.declared.key.Key.TheVariants as key
use Rattle.alto_rows.specs.declared.value.Value.{Value}
use Rattle.alto_rows.specs.declared.value.Value.TheVariants as value
use Rattle.alto_rows.specs.Rows.{Rows}
use Rattle.alto_book.specs.Book.{Book, Kept, number_of, opening_book, opening_rows}
use Rattle.alto_keeper.specs.Stored.{RowData, StoredData, IsNext, numbered, with_row}
use Rattle.batch_code.specs.Spelling.{batch_bytes, head_bytes}
use Rattle.batch_code.specs.Storable.{IsHead, IsStorable}
use Rattle.batch_code.proofs.OnceLemmas.{head_once}
use Rattle.base_code.specs.Bases.{BaseData, IsBase, KeptData}
use Rattle.base_code.specs.Pieces.{base_pieces}
use Rattle.base_code.proofs.BaseLemmas.{base_once, none_is_base, none_pieces}
use Rattle.alto_desk.specs.Ledger.{receipt_of}
use Rattle.alto_desk.specs.Opening.{Explains, IsBatchRow, TellsBroken, TellsRow, TellsRows}
use Rattle.alto_desk.specs.Records.{Backs, StoredAs, book_from, first_records, records_of}
use Rattle.alto_desk.specs.declared.fault.OpenFault.{OpenFault}
use Rattle.alto_desk.specs.declared.fault.OpenFault.TheVariants as fault

-- numbered texts with one more
pub numbered-append : (k : ℕ) (texts : List (List ℕ)) (text : List ℕ)
    → numbered k (texts ++ text ∷ []) ≡ numbered k texts ++ record { n = pos (k + length texts); bytes = text } ∷ []
numbered-append k [] text = ap (λ (n : ℕ). record { n = pos n; bytes = text } ∷ []) (omega arith)
numbered-append k (first ∷ texts) text =
    let same : k + 1 + length texts ≡ k + suc (length texts) = omega arith in
    ap (λ (more : List RowData). record { n = pos k; bytes = first } ∷ more)
    (numbered-append (k + 1) texts text
    ∙ ap (λ (n : ℕ). numbered (k + 1) texts ++ record { n = pos n; bytes = text } ∷ []) same)

-- as many rows as texts
pub length-numbered : (k : ℕ) (texts : List (List ℕ)) → length (numbered k texts) ≡ length texts
length-numbered k [] = refl
length-numbered k (text ∷ texts) = ap suc (length-numbered (k + 1) texts)

pos_below : (k n : ℕ) → k < n → pos k <ℤ pos n
pos_below k n h = grind (arith, ints)

from_zero : (n : ℕ) → pos 0 ≤ℤ pos n
from_zero n = grind (arith, ints)

-- the numbers of numbered texts are below the next one
below : (k next : ℕ) (texts : List (List ℕ)) → k + length texts ≤ next
    → AllByRecursion (λ row. row.n <ℤ pos next) (numbered k texts)
below k next [] le = tt
below k next (text ∷ texts) le = (pos_below k next (omega arith), below (k + 1) next texts (omega arith))

-- the numbers of a base and its batches
count_of : (stored : StoredData) (book : Book) (stands : StoredAs stored book)
    → stands.base.b + length (map batch_bytes book.batches) ≡ number_of book
count_of stored book stands =
    let receipts : length book.receipts ≡ stands.base.b =
    ap (λ (b : Book). length b.receipts) stands.began
    ∙ (length-map stands.base.receipts receipt_of ∙ stands.is_base.each) in
    let same : length (map batch_bytes book.batches) ≡ length book.batches = length-map book.batches batch_bytes in
    omega arith

-- the next number of records that stand for a book
pub is_next : (stored : StoredData) (book : Book) → StoredAs stored book → IsNext stored (pos (number_of book + 1))
is_next stored book stands =
    let count = count_of stored book stands in
    let rows = (records_of stands.epoch stands.window stands.base book.batches).rows in (
      from_zero (number_of book + 1),
      rw stands.spelled
          (All-from_recursion (λ (row : RowData). row.n <ℤ pos (number_of book + 1)) rows (
            pos_below 0 (number_of book + 1) (omega arith),
            below (stands.base.b + 1) (number_of book + 1)
                (map batch_bytes book.batches) (omega arith),
          )),
    )

-- records with the row of the next batch stand for the book with it
pub stored_more : (stored : StoredData) (book : Book) (batch : Accepted) → StoredAs stored book → IsStorable batch
    → StoredAs (with_row (pos (number_of book + 1)) (batch_bytes batch) stored) (with_batch book batch)
stored_more stored book batch stands storable =
    let b = stands.base.b + 1 in
    let texts = map batch_bytes book.batches in
    let count = count_of stored book stands in
    let next : pos (b + length texts) ≡ pos (number_of book + 1) = ap pos (omega arith) in
    let rows : numbered b texts ++ record { n = pos (number_of book + 1); bytes = batch_bytes batch } ∷ []
    ≡ numbered b (map batch_bytes (book.batches ++ batch ∷ [])) =
    rw (map-append batch_bytes book.batches (batch ∷ []))
    (rw (numbered-append b texts (batch_bytes batch), next) refl) in
    record {
      epoch = stands.epoch;
      window = stands.window;
      base = stands.base;
      head = stands.head;
      is_base = stands.is_base;
      storable = All-push IsStorable book.batches batch stands.storable storable;
      began = ap (λ (b : Book). with_batch b batch) stands.began;
      spelled = rw stands.spelled (ap
          (λ (rows : List RowData). record {
            base = numbered 0 (base_pieces stands.base);
            rows = record { n = pos 0; bytes = head_bytes stands.epoch stands.window } ∷ rows;
          })
          rows);
    }

-- what is held stands for the book with a batch more, once the batch's row is held
pub backs_more : (holds later : StoredData → Type 0) (book kept grown : Book) (batch : Accepted) (bytes : List ℕ)
    → kept ≡ book → bytes ≡ batch_bytes batch → grown ≡ with_batch book batch → IsStorable batch
    → ((stored : StoredData) → holds stored → IsNext stored (pos (number_of kept + 1))
    → later (with_row (pos (number_of kept + 1)) bytes stored))
    → Backs holds book → Backs later grown
backs_more holds later book kept grown batch bytes same spelled more storable keeps (stored, held, stands) =
    let keeps' = rw (same, spelled) at keeps in (
      with_row (pos (number_of book + 1)) (batch_bytes batch) stored,
      keeps' stored held (is_next stored book stands),
      rw more (stored_more stored book batch stands storable),
    )

-- ---- rows that are read

-- one more of a list
pub taken : {A : Type 0} (xs : List A) (i : ℕ) (x : A) → i < length xs → x ≡ get_or xs i x
    → take (i + 1) xs ≡ take i xs ++ x ∷ []
taken xs i x within is = rw (add-one i) (take-suc xs i x within ∙ ap (λ y. take i xs ++ y ∷ []) (sym is))

-- the rows so far are those of the batches so far, with one more of each
pub spelled_more : (b : ℕ) (rows : List RowData) (i : ℕ) (row : RowData) (batches : List Accepted)
    (batch : Accepted) (number : ℕ)
    → i < length rows → row ≡ get_or rows i row → take i rows ≡ numbered (b + 1) (map batch_bytes batches)
    → number ≡ b + 1 + length batches → row ≡ record { n = pos number; bytes = batch_bytes batch }
    → take (i + 1) rows ≡ numbered (b + 1) (map batch_bytes (batches ++ batch ∷ []))
spelled_more b rows i row batches batch number within is so_far count spelled =
    let n : pos number ≡ pos (b + 1 + length (map batch_bytes batches)) =
    ap pos (rw (count, length-map batches batch_bytes) refl) in
    taken rows i row within is
    ∙ rw (so_far, spelled, n, map-append batch_bytes batches (batch ∷ []))
    (sym (numbered-append (b + 1) (map batch_bytes batches) (batch_bytes batch)))

-- rows of batches are those of their places
sound_at : (start m : ℕ) (batches : List Accepted) (one : RowData) → AllByRecursion IsStorable batches
    → slice_get (numbered start (map batch_bytes batches)) m ≡ Some one → IsBatchRow (start + m) one
sound_at start m [] one all h = cc
sound_at start zero (batch ∷ batches) one all h =
    let same : record { n = pos start; bytes = batch_bytes batch } ≡ one = cc in
    rw (← same) (ap pos (omega arith), (batch, all.0, refl))
sound_at start (suc m) (batch ∷ batches) one all h =
    let below = sound_at (start + 1) m batches one all.1 h in
    let n : start + 1 + m ≡ start + suc m = omega arith in
    (below.0 ∙ ap pos n, below.1)

-- a row that isn't the one of its place is the first such row
pub damaged_behind : (why : OpenFault) (b : ℕ) (rows : List RowData) (i : ℕ) (row : RowData)
    (batches : List Accepted) (number : ℕ)
    → i < length rows → row ≡ get_or rows i row → take i rows ≡ numbered (b + 1) (map batch_bytes batches)
    → All IsStorable batches
    → number ≡ b + 1 + length batches → TellsRow why number row → TellsRows why b rows
damaged_behind (fault.Damaged n) b rows i row batches number within is so_far all count (same, unsound) =
    let behind : rows ≡ take i rows ++ row ∷ drop (i + 1) rows =
    sym (take-append-drop (i + 1) rows)
    ∙ (rw (taken rows i row within is) (append_assoc (take i rows) (row ∷ []) (drop (i + 1) rows))) in
    record {
      earlier = numbered (b + 1) (map batch_bytes batches);
      row = row;
      later = drop (i + 1) rows;
      parts = behind ∙ ap (λ (front : List RowData). front ++ row ∷ drop (i + 1) rows) so_far;
      number = rw (same, count, ← length-map batches batch_bytes, ← length-numbered (b + 1) (map batch_bytes batches))
          refl;
      sound = λ k one h. sound_at (b + 1) k batches one (recursion_from_All IsStorable batches all) h;
      unsound = rw same unsound;
    }
damaged_behind fault.Memory b rows i row batches number within is so_far all count tells = tt
damaged_behind fault.Keeper b rows i row batches number within is so_far all count tells = absurd tells
damaged_behind (fault.DamagedBase k) b rows i row batches number within is so_far all count tells = absurd tells
damaged_behind (fault.BadBook n broken) b rows i row batches number within is so_far all count tells = absurd tells

-- ---- a new book

-- the bytes of the first row
abbrev first_bytes : List RowData → List ℕ
first_bytes [] = []
first_bytes (row ∷ rows) = row.bytes

-- no texts are numbered where no rows are
none_numbered : (k : ℕ) (texts : List (List ℕ)) → numbered k texts ≡ [] → texts ≡ []
none_numbered k [] h = refl
none_numbered k (text ∷ texts) h = cc

-- a base without pieces is that of a new book
no_base : (base : BaseData) → IsBase base → base_pieces base ≡ [] → base ≡ record { b = 0; receipts = []; rows = [] }
no_base base is none = base_once base (record { b = 0; receipts = []; rows = [] }) is none_is_base (none ∙ none_pieces)

-- records that were begun stand for the new book alone
pub begun : (epoch : List ℕ) (window : ℕ) (book : Book) → IsHead epoch window
    → StoredAs (first_records epoch window) book
    → book ≡ opening_book epoch window
begun epoch window book head stands = by book.batches refl
  where
    base : stands.base ≡ record { b = 0; receipts = []; rows = [] }
    base = no_base stands.base stands.is_base
        (none_numbered 0 (base_pieces stands.base) (sym (ap (λ (stored : StoredData). stored.base) stands.spelled)))

    by : (batches : List Accepted) → book.batches ≡ batches → book ≡ opening_book epoch window
    by (batch ∷ batches) e =
        let spelled : first_records epoch window ≡ records_of stands.epoch stands.window stands.base (batch ∷ batches) =
        rw e at stands.spelled in
        let count : 1 ≡ suc (suc (length (numbered (stands.base.b + 1 + 1) (map batch_bytes batches)))) =
        ap (λ (stored : StoredData). length stored.rows) spelled in
        absurd (omega arith)
    by [] e =
        let bytes : head_bytes epoch window ≡ head_bytes stands.epoch stands.window =
        ap (λ (stored : StoredData). first_bytes stored.rows) stands.spelled in
        let same = head_once epoch stands.epoch window stands.window head stands.head bytes in
        stands.began
        ∙ (ap (λ (batches : List Accepted). book_from stands.epoch stands.window stands.base batches) e
        ∙ (ap (λ (base : BaseData). book_from stands.epoch stands.window base []) base ∙ rw (same.0, same.1) refl))

-- ---- why no book is opened

-- what is told of a base and batches explains the records that spell them
pub explained : (why : OpenFault) (stored : StoredData) (epoch : List ℕ) (window : ℕ) (base : BaseData)
    (batches : List Accepted) → IsHead epoch window
    → IsBase base → All IsStorable batches → stored ≡ records_of epoch window base batches
    → TellsBroken why epoch window base batches
    → Explains why stored
explained (fault.BadBook n broken) stored epoch window base batches head is storable spelled tells = record {
  epoch = epoch;
  window = window;
  base = base;
  batches = batches;
  head = head;
  is_base = is;
  storable = storable;
  spelled = spelled;
  first = tells;
}
explained fault.Memory stored epoch window base batches head is storable spelled tells = tt
explained fault.Keeper stored epoch window base batches head is storable spelled tells = absurd tells
explained (fault.Damaged n) stored epoch window base batches head is storable spelled tells = absurd tells
explained (fault.DamagedBase k) stored epoch window base batches head is storable spelled tells = absurd tells

-- ---- one book

-- the receipt of what a book keeps
abbrev kept_back : Kept → KeptData
kept_back kept = record { id = kept.id; digest = kept.digest; moment = kept.moment }

-- receipts of which a book keeps the same are the same
receipts_once : (one other : List KeptData) → map receipt_of one ≡ map receipt_of other → one ≡ other
receipts_once [] [] h = refl
receipts_once [] (kept ∷ other) h = cc
receipts_once (kept ∷ one) [] h = cc
receipts_once (kept ∷ one) (kept' ∷ other) h =
    let first : receipt_of kept ≡ receipt_of kept' = cc in
    let rest : map receipt_of one ≡ map receipt_of other = cc in
    ap (λ (k : Kept). kept_back k ∷ one) first
    ∙ ap (λ (more : List KeptData). kept' ∷ more) (receipts_once one other rest)

-- a base is told by its receipts and rows
bases_once : (one other : BaseData) → IsBase one → IsBase other → one.receipts ≡ other.receipts
    → one.rows ≡ other.rows → one ≡ other
bases_once one other is is' receipts rows =
    ap (λ (b : ℕ). record { b = b; receipts = one.receipts; rows = one.rows }) (sym is.each
    ∙ (ap length receipts ∙ is'.each))
    ∙ (ap (λ (all : List KeptData). record { b = other.b; receipts = all; rows = one.rows }) receipts
    ∙ ap (λ (all : Rows). record { b = other.b; receipts = other.receipts; rows = all }) rows)

-- records that stand for one book are the same
pub stored_once : (one other : StoredData) (book : Book) → StoredAs one book → StoredAs other book → one ≡ other
stored_once one other book a b =
    let began : book_from a.epoch a.window a.base book.batches ≡ book_from b.epoch b.window b.base book.batches =
    sym a.began ∙ b.began in
    let all : opening_rows a.epoch a.window ++ a.base.rows ≡ opening_rows b.epoch b.window ++ b.base.rows =
    ap (λ (book : Book). book.base) began in
    let first : (key.Epoch, value.Text a.epoch) ≡ (key.Epoch, value.Text b.epoch) = cc in
    let second : (key.Window, value.Num a.window) ≡ (key.Window, value.Num b.window) = cc in
    let rows : a.base.rows ≡ b.base.rows = cc in
    let text : value.Text a.epoch ≡ value.Text b.epoch = ap (λ (row : Key × Value). row.1) first in
    let number : value.Num a.window ≡ value.Num b.window = ap (λ (row : Key × Value). row.1) second in
    let epoch : a.epoch ≡ b.epoch = cc in
    let window : a.window ≡ b.window = cc in
    let receipts = receipts_once a.base.receipts b.base.receipts (ap (λ (book : Book). book.receipts) began) in
    let base = bases_once a.base b.base a.is_base b.is_base receipts rows in
    let spelled : records_of a.epoch a.window a.base book.batches ≡ records_of b.epoch b.window b.base book.batches =
    rw (epoch, window, base) refl in
    a.spelled ∙ (spelled ∙ sym b.spelled)
