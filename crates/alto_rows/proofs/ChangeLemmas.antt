-- The last write of each key does what all writes do, and changes in the order of their keys are one merge with the
-- rows.
use Rattle.std.proofs.Common.{◌≡◌, refl, ap, sym, ◌∙◌, subst, append_assoc, append-nil}
use Rattle.std.proofs.Math.Path.{fun_ext}
use Rattle.std.proofs.lemmas.Map.Keys.{sorted_head, sorted_tail}
use Rattle.std.specs.Prelude.{ℕ, Bool, true, false, cond, List, [], ◌∷◌, ◌++◌, Option, Some, None}
use Rattle.std.specs.BTreeMap as map
use Rattle.std.specs.BTreeMap.{BTreeMap, is_at}
use Rattle.std.specs.List.{AllByRecursion}
use Rattle.std.specs.Map.{keys_of, lookup}
use Rattle.std.specs.Option.{unwrap_or}
use Rattle.std.specs.Ordering.{is_eq}
use Rattle.std.specs.declared.cmp.Ordering.{Ordering}
use Rattle.std.specs.declared.cmp.Ordering.TheVariants.{Less}
use Rattle.alto_rows.specs.contracts.key.KeyOrd.TheImpl as key_order
use Rattle.alto_rows.specs.declared.key.Key.{Key}
use Rattle.alto_rows.specs.declared.value.Value.{Value}
use Rattle.alto_rows.specs.declared.write.Write.{Write}
use Rattle.alto_rows.specs.Changes.{Changes, AreOrdered, DoAs, changed, own_row}
use Rattle.alto_rows.specs.Order.{key_cmp}
use Rattle.alto_rows.specs.Place.{rows_before}
use Rattle.alto_rows.specs.Rows.{Rows, AreSorted, value_of, with_value, after, rows_past}
use Rattle.alto_rows.proofs.OrderLemmas.{derived_key_cmp, key_cmp_itself, key_cmp_total, one_key}
use Rattle.alto_rows.proofs.PlaceLemmas.{IsMissing, IsPlaced, found, missing, placed, delete-past, put-past}
use Rattle.alto_rows.proofs.PlaceLemmas.{rows_before-before, rows_before-past, with_value-before}
use Rattle.alto_rows.proofs.RowsLemmas.{AreBefore, before_middle, greater_back, less_back, past_middle, same_key_back}
use Rattle.alto_rows.proofs.RowsLemmas.{same_rows}
use Rattle.alto_rows.proofs.RunLemmas.{rows_past-before, rows_past-middle, rows_past-past}
use Rattle.alto_rows.proofs.WriteLemmas.{sorted_after, sorted_with_value, value_after, value_of-after}
use Rattle.alto_rows.proofs.WriteLemmas.{value_of-with_value}

-- what holds of the derived order of keys holds of the order of keys
pub by_key_cmp : (P : (Key → Key → Ordering) → Type 0) → P key_order.cmp-value.it → P key_cmp
by_key_cmp P h = subst P (fun_ext (λ a. fun_ext (λ b. derived_key_cmp a b))) h

-- ---- the last write of each key

-- the map has the last value that writes give each key, and no other key
abbrev pub HasLast : List Write → BTreeMap Key (Option Value) → Type 0
HasLast writes last = (old : Option Value) (at : Key)
    → value_after old writes at ≡ unwrap_or (map.get key_cmp last at) old

-- one write more
value_after-push : (old : Option Value) (writes : List Write) (write : Write) (at : Key)
    → value_after old (writes ++ write ∷ []) at
    ≡ cond (is_eq (key_cmp at write.key)) write.value (value_after old writes at)
value_after-push old [] write at = refl
value_after-push old (first ∷ writes) write at =
    value_after-push (cond (is_eq (key_cmp at first.key)) first.value old) writes write at

-- the map gains its value
pub last_more : (writes : List Write) (write : Write) (last more : BTreeMap Key (Option Value)) → HasLast writes last
    → map.Updates key_cmp last more write.key (Some write.value) → HasLast (writes ++ write ∷ []) more
last_more writes write last more has put old at =
    rw (value_after-push old writes write at, put.0 at, same_key_back at write.key, has old at)
    (by (is_eq (key_cmp write.key at)) (map.get key_cmp last at))
  where
    by : (b : Bool) (o : Option (Option Value))
        → cond b write.value (unwrap_or o old) ≡ unwrap_or (cond b (Some write.value) o) old
    by true o = refl
    by false o = refl

-- ---- the value at a key after changes

-- a key before all changes isn't changed
lookup-past : (key : Key) (changes : Changes) → AllByRecursion (λ other. key_cmp key other ≡ Less) (keys_of changes)
    → lookup (is_at (key_cmp key)) changes ≡ None
lookup-past key [] h = refl
lookup-past key (change ∷ changes) h = rw h.0 (lookup-past key changes h.1)

-- rows stay sorted under changes
pub sorted_changed : (rows : Rows) (changes : Changes) → AreSorted rows → AreSorted (changed rows changes)
sorted_changed rows [] s = s
sorted_changed rows (change ∷ changes) s =
    sorted_changed (with_value rows change.0 change.1) changes (sorted_with_value rows change.0 change.1 s)

-- a key has the value of its change, or what it had
value_of-changed : (rows : Rows) (changes : Changes) (at : Key) → AreSorted rows → AreOrdered changes
    → value_of (changed rows changes) at ≡ unwrap_or (lookup (is_at (key_cmp at)) changes) (value_of rows at)
value_of-changed rows [] at s o = refl
value_of-changed rows (change ∷ changes) at s o =
    value_of-changed (with_value rows change.0 change.1) changes at (sorted_with_value rows change.0 change.1 s)
    (sorted_tail key_cmp change.0 (keys_of changes) o)
    ∙ rw (value_of-with_value rows change.0 change.1 at s) (by (is_eq (key_cmp at change.0)) refl)
  where
    by : (b : Bool) → is_eq (key_cmp at change.0) ≡ b
        → unwrap_or (lookup (is_at (key_cmp at)) changes) (cond b change.1 (value_of rows at))
        ≡ unwrap_or (cond b (Some change.1) (lookup (is_at (key_cmp at)) changes)) (value_of rows at)
    by true e =
        let same : at ≡ change.0 = one_key at change.0 e in
        let none : lookup (is_at (key_cmp at)) changes ≡ None =
        rw same (lookup-past change.0 changes (sorted_head key_cmp change.0 (keys_of changes) o)) in
        rw none refl
    by false e = refl

-- the last values, in the order of their keys, do what the writes do
pub last_do : (writes : List Write) (last : BTreeMap Key (Option Value)) → HasLast writes last → AreOrdered last.entries
    → DoAs writes last.entries
last_do writes last has o rows s =
    same_rows (changed rows last.entries) (after rows writes) (sorted_changed rows last.entries s)
    (sorted_after rows writes s)
    (λ at. value_of-changed rows last.entries at s o ∙ sym (has (value_of rows at) at)
    ∙ sym (value_of-after rows writes at s))

-- ---- one change after another

-- rows part at a key, and a write of the key goes between
record IsCut (rows : Rows) (key : Key) : Type 0 where
  pub before : AreBefore key (rows_before rows key)
  pub written : (value : Option Value)
      → with_value rows key value ≡ rows_before rows key ++ (own_row key value ++ rows_past rows key)

-- sorted rows part at every key
cut : (rows : Rows) (key : Key) → AreSorted rows → IsCut rows key
cut rows key s = by (placed rows key s)
  where
    at_row : (front : Rows) (old : Value) (back : Rows) → rows ≡ front ++ (key, old) ∷ back
        → AreSorted (front ++ (key, old) ∷ back) → IsCut rows key
    at_row front old back whole t =
        let before : AreBefore key front = before_middle front (key, old) back t in
        let first : rows_before rows key ≡ front =
        rw whole (rows_before-before key front ((key, old) ∷ back) before
        ∙ rw (key_cmp_itself key, rows_before-past key back (past_middle front (key, old) back t))
        (append-nil front)) in
        let past : rows_past rows key ≡ back = rw whole (rows_past-middle front (key, old) back t) in
        record {
          before = rw first before;
          written = λ value. rw (first, past, whole) (with_value-before key value front ((key, old) ∷ back) before
              ∙ ap (λ (more : Rows). front ++ more) (here value));
        }
      where
        here : (value : Option Value) → with_value ((key, old) ∷ back) key value ≡ own_row key value ++ back
        here None = rw (key_cmp_itself key) refl
        here (Some value) = rw (key_cmp_itself key) refl

    at_gap : (at : ℕ) → IsMissing rows key at → IsCut rows key
    at_gap at m =
        let first : rows_before rows key ≡ m.front =
        rw m.whole (rows_before-before key m.front m.back m.before
        ∙ rw (rows_before-past key m.back m.past) (append-nil m.front)) in
        let past : rows_past rows key ≡ m.back =
        rw m.whole (rows_past-before key m.front m.back m.before ∙ rows_past-past key m.back m.past) in
        record {
          before = rw first m.before;
          written = λ value. rw (first, past, m.whole) (with_value-before key value m.front m.back m.before
              ∙ ap (λ (more : Rows). m.front ++ more) (here value));
        }
      where
        here : (value : Option Value) → with_value m.back key value ≡ own_row key value ++ m.back
        here None = delete-past key m.back m.past
        here (Some value) = put-past key value m.back m.past

    by : IsPlaced rows key → IsCut rows key
    by (found at f) = at_row f.front f.value f.back f.whole (rw f.whole at s)
    by (missing at m) = at_gap at m

-- rows before a key are before a later one
before_greater : (low high : Key) → key_cmp low high ≡ Less → (rows : Rows) → AreBefore low rows → AreBefore high rows
before_greater low high less [] h = tt
before_greater low high less (row ∷ rows) h = (
  less_back row.0 high (key_cmp_total.trans row.0 low high (greater_back low row.0 h.0) less),
  before_greater low high less rows h.1,
)

-- and so is the row of the key
own_before : (low high : Key) → key_cmp low high ≡ Less → (value : Option Value) → AreBefore high (own_row low value)
own_before low high less None = tt
own_before low high less (Some value) = (less_back low high less, tt)

-- rows before all changes stay as they are
changed-behind : (front rest : Rows) (changes : Changes) → AllByRecursion (λ key. AreBefore key front) (keys_of changes)
    → changed (front ++ rest) changes ≡ front ++ changed rest changes
changed-behind front rest [] h = refl
changed-behind front rest (change ∷ changes) h =
    ap (λ rows. changed rows changes) (with_value-before change.0 change.1 front rest h.0)
    ∙ changed-behind front (with_value rest change.0 change.1) changes h.1

-- the first change passes the rows before its key, puts its own row, and leaves those after its key to the other
-- changes
changed-first : (rest : Rows) (key : Key) (value : Option Value) (changes : Changes) → AreSorted rest
    → AreOrdered ((key, value) ∷ changes)
    → changed rest ((key, value) ∷ changes) ≡ rows_before rest key
    ++ (own_row key value ++ changed (rows_past rest key) changes)
changed-first rest key value changes s o =
    ap (λ rows. changed rows changes) (c.written value)
    ∙ changed-behind (rows_before rest key) (own_row key value ++ rows_past rest key) changes (fronts changes past)
    ∙ ap (λ (more : Rows). rows_before rest key ++ more)
    (changed-behind (own_row key value) (rows_past rest key) changes (owns changes past))
  where
    c : IsCut rest key
    c = cut rest key s

    past : AllByRecursion (λ other. key_cmp key other ≡ Less) (keys_of changes)
    past = sorted_head key_cmp key (keys_of changes) o

    fronts : (more : Changes) → AllByRecursion (λ other. key_cmp key other ≡ Less) (keys_of more)
        → AllByRecursion (λ other. AreBefore other (rows_before rest key)) (keys_of more)
    fronts [] h = tt
    fronts (change ∷ more) h = (before_greater key change.0 h.0 (rows_before rest key) c.before, fronts more h.1)

    owns : (more : Changes) → AllByRecursion (λ other. key_cmp key other ≡ Less) (keys_of more)
        → AllByRecursion (λ other. AreBefore other (own_row key value)) (keys_of more)
    owns [] h = tt
    owns (change ∷ more) h = (own_before key change.0 h.0 value, owns more h.1)

-- the step of a merge
pub merged_more : (done rest whole : Rows) (key : Key) (value : Option Value) (changes : Changes) → AreSorted rest
    → AreOrdered ((key, value) ∷ changes)
    → done ++ changed rest ((key, value) ∷ changes) ≡ whole
    → ((done ++ rows_before rest key) ++ own_row key value) ++ changed (rows_past rest key) changes ≡ whole
merged_more done rest whole key value changes s o e =
    append_assoc (done ++ rows_before rest key) (own_row key value) (changed (rows_past rest key) changes)
    ∙ append_assoc done (rows_before rest key) (own_row key value ++ changed (rows_past rest key) changes)
    ∙ ap (λ (more : Rows). done ++ more) (sym (changed-first rest key value changes s o))
    ∙ e
