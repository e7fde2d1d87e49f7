-- Rows behind others, read and written.
use Rattle.std.proofs.Common.{◌≡◌, ℕ, ◌-◌, ◌<◌, ◌≤◌, ◌+◌, List, [], ◌∷◌, ◌++◌, length, get_or, map, take, All, None}
use Rattle.std.proofs.Common.{Some, true, refl, sym, ap, subst, ◌∙◌, append_assoc, append-nil, arith}
use Rattle.std.specs.Prelude.{slice_get, suc}
use Rattle.std.specs.Ordering.{is_gt}
use Rattle.std.specs.declared.cmp.Ordering.{Ordering}
use Rattle.std.specs.declared.cmp.Ordering.TheVariants.{Less, Equal, Greater}
use Rattle.std.specs.List.{flat_map}
use Rattle.std.specs.List.Sorted.{IsStrictlySortedBy}
use Rattle.std.proofs.lemmas.List.{length-map, map_more, map_push, take_all}
use Rattle.std.proofs.lemmas.List.Concat.{flat_map-append}
use Rattle.std.proofs.lemmas.List.Elements.{All-push, All-tail}
use Rattle.alto_rows.specs.Order.{key_cmp}
use Rattle.alto_rows.specs.Rows.{Rows, AreSorted}
use Rattle.alto_rows.specs.declared.key.Key.{Key}
use Rattle.alto_rows.specs.declared.value.Value.{Value}
use Rattle.alto_rows.specs.declared.write.Write.{Write}
use Rattle.alto_rows.proofs.RowsLemmas.{before_middle, greater_back, less_back, past_lesser, past_middle, sorted_join}
use Rattle.alto_rows.proofs.RowsLemmas.{sorted_left, sorted_more}
use Rattle.code_bytes.specs.Pieces.{number}
use Rattle.code_bytes.specs.declared.stop.Stop.{Stop}
use Rattle.batch_code.specs.Spelling.{write_bytes}
use Rattle.batch_code.specs.Storable.{IsStored}
use Rattle.batch_code.proofs.OnceLemmas.{write_apart}
use Rattle.base_code.proofs.PartLemmas.{all_right}
use Rattle.base_code.specs.Bases.{AreStored, write_of}
use Rattle.base_code.specs.Parts.{Denies, HasItems, HasRows}
use Rattle.base_code.specs.Pieces.{piece_of, rows_piece}
use Rattle.base_code.proofs.PieceLemmas.{all_puts, denied_as, one_put, piece_once, stored_left}

-- ---- rows of writes

pub rows_as_writes : (rows more : Rows) (count : ℕ) (piece : List ℕ) → HasRows rows count piece more
    → HasItems 0x45 write_bytes IsStored count piece (map write_of more)
rows_as_writes rows more count piece has = record {
  all = all_puts more (all_right (λ row. IsStored (write_of row)) rows more has.stored.each);
  many = length-map more write_of ∙ has.many;
  spelled = has.spelled;
}

pub rows_writeless : (rows : Rows) (count : ℕ) (piece : List ℕ) (why : Stop)
    → Denies ((writes : List Write) × HasItems 0x45 write_bytes IsStored count piece writes) why
    → Denies ((more : Rows) × HasRows rows count piece more) why
rows_writeless rows count piece why never =
    denied_as ((writes : List Write) × HasItems 0x45 write_bytes IsStored count piece writes)
    ((more : Rows) × HasRows rows count piece more) why
    (λ thing. (map write_of thing.0, rows_as_writes rows thing.0 count piece thing.1)) never

pub rows_putless : (rows : Rows) (writes : List Write) (count : ℕ) (piece : List ℕ) (why : Stop) → count ≤ 4096
    → HasItems 0x45 write_bytes IsStored count piece writes
    → Denies ((more : Rows) × AreStored (rows ++ more) × (map write_of more ≡ writes)) why
    → Denies ((more : Rows) × HasRows rows count piece more) why
rows_putless rows writes count piece why few has never =
    denied_as ((more : Rows) × AreStored (rows ++ more) × (map write_of more ≡ writes))
    ((more : Rows) × HasRows rows count piece more) why (λ thing.
    let its = rows_as_writes rows thing.0 count piece thing.1 in (
      thing.0,
      thing.1.stored,
      piece_once 0x45 IsStored write_bytes write_apart (map write_of thing.0) writes its.all
          has.all (omega (arith, its.many, few)) (omega (arith, has.many, few))
          (sym its.spelled ∙ has.spelled),
    )) never

-- ---- rows put one by one

record PutsThere (put : Rows) (write : Write) (more : Rows) : Type 0 where
  pub value : Value
  pub back : Rows
  pub is : write.value ≡ Some value
  pub split : more ≡ put ++ (write.key, value) ∷ back

puts_split : (put : Rows) (write : Write) (rest : List Write) (more : Rows)
    → map write_of more ≡ map write_of put ++ write ∷ rest → PutsThere put write more
puts_split [] write rest [] e = absurd cc
puts_split [] write rest ((key, value) ∷ more) e =
    let head : write_of (key, value) ≡ write = cc in
    let keys : key ≡ write.key = ap (λ (w : Write). w.key) head in
    record {
      value = value;
      back = more;
      is = ap (λ (w : Write). w.value) (sym head);
      split = ap (λ k. (k, value) ∷ more) keys;
    }
puts_split (x ∷ put) write rest [] e = absurd cc
puts_split (x ∷ put) write rest (y ∷ more) e =
    let heads : write_of y ≡ write_of x = cc in
    let tails : map write_of more ≡ map write_of put ++ write ∷ rest = cc in
    let on = puts_split put write rest more tails in
    let first : y ≡ x = one_put y x heads in
    record { value = on.value; back = on.back; is = on.is; split = (λ i. first i ∷ on.split i) }

-- the rows of the first writes stand behind the others, and these writes are left
pub record HasPut (rows now : Rows) (writes left : List Write) : Type 0 where
  pub put : Rows
  pub made : now ≡ rows ++ put
  pub whole : writes ≡ map write_of put ++ left
  pub stored : AreStored now
  pub rest : All IsStored left

pub put_more : (rows now next : Rows) (writes left : List Write) (write : Write) (value : Value)
    → HasPut rows now writes (write ∷ left) → AreStored next
    → write.value ≡ Some value → next ≡ now ++ ((write.key, value) ∷ []) → HasPut rows next writes left
put_more rows now next writes left write value has stored is e =
    let row : Key × Value = (write.key, value) in
    let same : write ≡ write_of row = (λ i. record { key = write.key; value = is i }) in
    record {
      put = has.put ++ (row ∷ []);
      made = e ∙ ap (λ t. t ++ (row ∷ [])) has.made ∙ append_assoc rows has.put (row ∷ []);
      whole = has.whole ∙ ap (λ w. map write_of has.put ++ w ∷ left) same
          ∙ sym (append_assoc (map write_of has.put) (write_of row ∷ []) left)
          ∙ ap (λ t. t ++ left) (sym (map_push write_of has.put row));
      stored = stored;
      rest = All-tail IsStored write left has.rest;
    }

pub put_stops : (rows now : Rows) (writes left : List Write) (write : Write) (why : Stop)
    → HasPut rows now writes (write ∷ left)
    → Denies ((value : Value) × AreStored (now ++ ((write.key, value) ∷ [])) × (write.value ≡ Some value)) why
    → Denies ((more : Rows) × AreStored (rows ++ more) × (map write_of more ≡ writes)) why
put_stops rows now writes left write why has never =
    denied_as ((value : Value) × AreStored (now ++ ((write.key, value) ∷ [])) × (write.value ≡ Some value))
    ((more : Rows) × AreStored (rows ++ more) × (map write_of more ≡ writes)) why (λ thing.
    let at = puts_split has.put write left thing.0 (thing.2 ∙ has.whole) in
    let row : Key × Value = (write.key, at.value) in
    let split : rows ++ thing.0 ≡ (now ++ (row ∷ [])) ++ at.back =
    ap (λ t. rows ++ t) (at.split ∙ sym (append_assoc has.put (row ∷ []) at.back))
    ∙ sym (append_assoc rows (has.put ++ (row ∷ [])) at.back)
    ∙ ap (λ t. t ++ at.back) (sym (append_assoc rows has.put (row ∷ [])) ∙ ap (λ t. t ++ (row ∷ [])) (sym has.made)) in
    (at.value, stored_left (now ++ (row ∷ [])) at.back (subst AreStored split thing.1), at.is)) never

-- ---- one row behind others

sorted_one : (row : Key × Value) → AreSorted (row ∷ [])
unfolding IsStrictlySortedBy
sorted_one row = (tt, tt)

-- the last of rows
record IsLast (rows : Rows) (row : Key × Value) : Type 0 where
  pub front : Rows
  pub split : rows ≡ front ++ (row ∷ [])

last_of : (rows : Rows) (row : Key × Value) → Some row ≡ slice_get rows (length rows - 1) → IsLast rows row
last_of [] row e = absurd cc
last_of (x ∷ []) row e =
    let same : row ≡ x = cc in
    record { front = []; split = ap (λ r. r ∷ []) (sym same) }
last_of (x ∷ y ∷ rows) row e =
    let n : length (x ∷ y ∷ rows) - 1 ≡ suc (length (y ∷ rows) - 1) = omega arith in
    let more = last_of (y ∷ rows) row (e ∙ ap (slice_get (x ∷ y ∷ rows)) n) in
    record { front = x ∷ more.front; split = ap (λ t. x ∷ t) more.split }

is_greater : (o : Ordering) → is_gt o ≡ true → o ≡ Greater
is_greater Less e = absurd cc
is_greater Equal e = absurd cc
is_greater Greater e = refl

pub rises_if : (rows : Rows) (row : Key × Value) (key : Key) (value : Value) → AreSorted rows
    → Some row ≡ slice_get rows (length rows - 1)
    → is_gt (key_cmp key row.0) ≡ true → AreSorted (rows ++ ((key, value) ∷ []))
rises_if rows row key value sorted at greater =
    let last = last_of rows row at in
    let next : Key × Value = (key, value) in
    let less : key_cmp row.0 key ≡ Less = greater_back key row.0 (is_greater (key_cmp key row.0) greater) in
    let split : AreSorted (last.front ++ (row ∷ [])) = subst AreSorted last.split sorted in
    let behind : AreSorted (row ∷ next ∷ []) = sorted_more row (next ∷ []) (less, tt) (sorted_one next) in
    let whole : AreSorted (last.front ++ (row ∷ next ∷ [])) =
    sorted_join row.0 last.front (row ∷ next ∷ []) (sorted_left last.front (row ∷ []) split)
    (before_middle last.front row [] split) behind (λ low far.
    (greater_back row.0 low far, past_lesser low row.0 (greater_back row.0 low far) (next ∷ []) (less, tt))) in
    subst AreSorted (sym (ap (λ t. t ++ (next ∷ [])) last.split ∙ append_assoc last.front (row ∷ []) (next ∷ []))) whole

pub if_rises : (rows : Rows) (row : Key × Value) (key : Key) (value : Value)
    → Some row ≡ slice_get rows (length rows - 1) → AreSorted (rows ++ ((key, value) ∷ []))
    → is_gt (key_cmp key row.0) ≡ true
if_rises rows row key value at sorted =
    let last = last_of rows row at in
    let next : Key × Value = (key, value) in
    let whole : AreSorted (last.front ++ row ∷ next ∷ []) =
    subst AreSorted (ap (λ t. t ++ (next ∷ [])) last.split ∙ append_assoc last.front (row ∷ []) (next ∷ [])) sorted in
    let past = past_middle last.front row (next ∷ []) whole in
    ap is_gt (less_back row.0 key past.0)

none_of : (rows : Rows) → None ≡ slice_get rows (length rows - 1) → rows ≡ []
none_of [] e = refl
none_of (x ∷ []) e = absurd cc
none_of (x ∷ y ∷ rows) e =
    let n : length (x ∷ y ∷ rows) - 1 ≡ suc (length (y ∷ rows) - 1) = omega arith in
    let nil : y ∷ rows ≡ [] = none_of (y ∷ rows) (e ∙ ap (slice_get (x ∷ y ∷ rows)) n) in
    absurd cc

pub first_rises : (rows : Rows) (key : Key) (value : Value) → None ≡ slice_get rows (length rows - 1)
    → AreSorted (rows ++ ((key, value) ∷ []))
first_rises rows key value none = subst (λ t. AreSorted (t ++ ((key, value) ∷ []))) (sym (none_of rows none))
    (sorted_one (key, value))

pub one_more : (rows next : Rows) (write : Write) (value : Value) → AreStored rows → IsStored write
    → write.value ≡ Some value → AreSorted (rows ++ ((write.key, value) ∷ []))
    → next ≡ rows ++ ((write.key, value) ∷ []) → AreStored next
one_more rows next write value is stored some sorted e =
    let row : Key × Value = (write.key, value) in
    let same : write ≡ write_of row = (λ i. record { key = write.key; value = some i }) in
    subst AreStored (sym e) (record {
      sorted = sorted;
      each = All-push (λ row. IsStored (write_of row)) rows row is.each (subst IsStored same stored);
    })

-- ---- a loop over rows

pub rows_more : (out next start : List ℕ) (rows : Rows) (i : ℕ) (row : Key × Value) → i < length rows
    → row ≡ get_or rows i row
    → out ≡ start ++ flat_map write_bytes (map write_of (take i rows)) → next ≡ out ++ write_bytes (write_of row)
    → next ≡ start ++ flat_map write_bytes (map write_of (take (i + 1) rows))
rows_more out next start rows i row lt at so_far e =
    let front = map write_of (take i rows) in
    let more : map write_of (take (i + 1) rows) ≡ front ++ (write_of row ∷ []) =
    map_more write_of rows i row lt ∙ ap (λ r. front ++ (write_of r ∷ [])) (sym at) in
    let spelled : flat_map write_bytes (front ++ (write_of row ∷ [])) ≡ flat_map write_bytes front
    ++ write_bytes (write_of row) =
    flat_map-append write_bytes front (write_of row ∷ [])
    ∙ ap (λ t. flat_map write_bytes front ++ t) (append-nil (write_bytes (write_of row))) in
    e ∙ ap (λ t. t ++ write_bytes (write_of row)) so_far ∙ append_assoc start (flat_map write_bytes front)
    (write_bytes (write_of row))
    ∙ ap (λ t. start ++ t) (sym (ap (flat_map write_bytes) more ∙ spelled))
