-- What rows name stays declared under a batch where no written row names what isn't, and no row names what the batch
-- withdraws.
use Rattle.std.proofs.Common.{◌≡◌, refl, ap, sym, ◌∙◌}
use Rattle.std.proofs.lemmas.Bool.{and_from, and_right, both_ways, not_from_true, or_from, or_parts}
use Rattle.std.proofs.lemmas.List.Elements.{All-from_recursion, recursion_from_All}
use Rattle.std.proofs.lemmas.List.Folds.{list_any-append}
use Rattle.std.specs.Prelude.{Bool, true, false, not, cond, ◌&&◌, ◌||◌, Decides, List, [], ◌∷◌, ◌++◌, Option, Some}
use Rattle.std.specs.Prelude.{None, is_some}
use Rattle.std.specs.BTreeSet as set
use Rattle.std.specs.BTreeSet.{BTreeSet, contains}
use Rattle.std.specs.List.{AllByRecursion, list_any}
use Rattle.std.specs.Ordering.{is_eq, is_gt}
use Rattle.alto_rows.specs.declared.key.Key.{Key}
use Rattle.alto_rows.specs.declared.key.Key.TheVariants as key
use Rattle.alto_rows.specs.declared.value.Value.{Value}
use Rattle.alto_rows.specs.declared.write.Write.{Write}
use Rattle.alto_rows.specs.Good.{AreGood, needs}
use Rattle.alto_rows.specs.Order.{key_cmp}
use Rattle.alto_rows.specs.Rows.{Rows, AreSorted, value_of, has_row, after, rows_from}
use Rattle.alto_rows.proofs.DeletionLemmas.{each_row}
use Rattle.alto_rows.proofs.NeedsLemmas as needing
use Rattle.alto_rows.proofs.OrderLemmas.{one_key}
use Rattle.alto_rows.proofs.RowsLemmas.{same_key_back}
use Rattle.alto_rows.proofs.WriteLemmas.{NoneWrites, sorted_after, value_of-after-none}
use Rattle.alto_edits.specs.Rules.{lacks}
use Rattle.batch_check.specs.Named.{AreDeclared, AreWithdrawn, HasGone, declares, is_gone, is_orphan, is_written_key}
use Rattle.batch_check.specs.Named.{names_some, orphans, puts_orphan}

-- ---- rows that are there

-- these keys have rows
abbrev HaveRows : Rows → List Key → Type 0
HaveRows rows keys = AllByRecursion (λ need. has_row rows need ≡ true) keys

-- a key that has a row doesn't lack it
has_not_lacks : (rows : Rows) (at : Key) → has_row rows at ≡ true → lacks rows at ≡ false
has_not_lacks rows at h = not_from_true (has_row rows at) h

-- and the other way
lacks_not : (rows : Rows) (at : Key) → lacks rows at ≡ false → has_row rows at ≡ true
lacks_not rows at h = by (has_row rows at) h
  where
    by : (b : Bool) → not b ≡ false → b ≡ true
    by true e = refl
    by false e = cc

-- of keys that have rows none lacks its row
none_lacks : (rows : Rows) (keys : List Key) → HaveRows rows keys → list_any (lacks rows) keys ≡ false
none_lacks rows [] have = refl
none_lacks rows (at ∷ keys) have = or_from _ _ (has_not_lacks rows at have.0) (none_lacks rows keys have.1)

-- and the other way
all_have : (rows : Rows) (keys : List Key) → list_any (lacks rows) keys ≡ false → HaveRows rows keys
all_have rows [] h = tt
all_have rows (at ∷ keys) h =
    let parts = or_parts (lacks rows at) (list_any (lacks rows) keys) h in
    (lacks_not rows at parts.0, all_have rows keys parts.1)

-- the needs of a row of declared rows have rows
pub needs_have : (rows : Rows) (at : Key) (v : Value) → AreDeclared rows → value_of rows at ≡ Some v
    → HaveRows rows (needs at v)
needs_have rows at v declared is = recursion_from_All (λ (need : Key). has_row rows need ≡ true) (needs at v)
    (declared at v is)

-- a test that each row fails is failed by the value at a key
pub fails_at : (test : Key × Value → Bool) (rows : Rows) (at : Key) (v : Value) → list_any test rows ≡ false
    → value_of rows at ≡ Some v
    → test (at, v) ≡ false
fails_at test [] at v h is = cc
fails_at test (row ∷ rows) at v h is = by (λ g f. fails_at test rows at v g f) (is_eq (key_cmp at row.0)) refl is
  where
    parts : (test row ≡ false) × (list_any test rows ≡ false)
    parts = or_parts (test row) (list_any test rows) h

    by : (list_any test rows ≡ false → value_of rows at ≡ Some v → test (at, v) ≡ false) → (b : Bool)
        → is_eq (key_cmp at row.0) ≡ b
        → cond b (Some row.1) (value_of rows at) ≡ Some v → test (at, v) ≡ false
    by more true e f =
        let one : row.1 ≡ v = cc in
        rw (one_key at row.0 e, ← one) parts.0
    by more false e f = more parts.1 f

-- a test that the value at each key fails is failed by each row
pub all_fail : (test : Key × Value → Bool) (rows : Rows) → AreSorted rows
    → ((at : Key) (v : Value) → value_of rows at ≡ Some v → test (at, v) ≡ false)
    → list_any test rows ≡ false
all_fail test rows s fails = by rows (each_row rows rows s (λ at v h. h))
  where
    by : (rest : Rows) → AllByRecursion (λ row. value_of rows row.0 ≡ Some row.1) rest → list_any test rest ≡ false
    by [] all = refl
    by (row ∷ rest) all = or_from _ _ (fails row.0 row.1 all.0) (by rest all.1)

-- no key is before the epoch
epoch_first : (at : Key) → is_gt (key_cmp key.Epoch at) ≡ false
unfolding key_cmp
epoch_first key.Epoch = refl
epoch_first _ = refl

-- so all rows are from it on
pub all_from_first : (rows : Rows) → rows_from rows key.Epoch ≡ rows
all_from_first [] = refl
all_from_first (row ∷ rows) = rw (epoch_first row.0) (ap (λ (more : Rows). row ∷ more) (all_from_first rows))

-- ---- declared rows

-- the row of a key names nothing that isn't declared
no_orphan : (rows : Rows) (at : Key) → AreDeclared rows → (v : Option Value) → value_of rows at ≡ v
    → orphans rows at v ≡ false
no_orphan rows at declared None is = refl
no_orphan rows at declared (Some v) is = none_lacks rows (needs at v) (needs_have rows at v declared is)

-- so no written row does
pub puts_none : (rows : Rows) (writes : List Write) → AreDeclared rows → puts_orphan rows writes ≡ false
puts_none rows [] declared = refl
puts_none rows (write ∷ writes) declared =
    or_from _ _ (no_orphan rows write.key declared (value_of rows write.key) refl) (puts_none rows writes declared)

-- a key that has a row isn't among those that are withdrawn
not_withdrawn : (rows : Rows) (writes : List Write) (gone : BTreeSet Key) (at : Key) → AreWithdrawn rows writes gone
    → has_row rows at ≡ true
    → contains key_cmp gone at ≡ false
not_withdrawn rows writes gone at are h =
    are at ∙ and_right (is_written_key writes at) (is_gone rows at)
    (and_right (declares at) (lacks rows at) (has_not_lacks rows at h))

none_withdrawn : (rows : Rows) (writes : List Write) (gone : BTreeSet Key) (keys : List Key)
    → AreWithdrawn rows writes gone → HaveRows rows keys
    → list_any (contains key_cmp gone) keys ≡ false
none_withdrawn rows writes gone [] are have = refl
none_withdrawn rows writes gone (at ∷ keys) are have =
    or_from _ _ (not_withdrawn rows writes gone at are have.0) (none_withdrawn rows writes gone keys are have.1)

-- no row of declared rows names what is withdrawn
pub names_none : (rows : Rows) (writes : List Write) (gone : BTreeSet Key) → AreSorted rows → AreDeclared rows
    → AreWithdrawn rows writes gone
    → list_any (names_some gone) rows ≡ false
names_none rows writes gone s declared are =
    all_fail (names_some gone) rows s (λ at v is. none_withdrawn rows writes gone (needs at v)
    are (needs_have rows at v declared is))

-- ---- and the other way

-- a key that no write is of
pub none_written : (writes : List Write) (at : Key) → is_written_key writes at ≡ false → NoneWrites at writes
none_written [] at h = tt
none_written (write ∷ writes) at h =
    let parts = or_parts (is_eq (key_cmp at write.key)) (is_written_key writes at) h in
    (parts.0, none_written writes at parts.1)

-- keeps its row
pub unwritten : (rows : Rows) (writes : List Write) (at : Key) → AreSorted rows → is_written_key writes at ≡ false
    → value_of (after rows writes) at ≡ value_of rows at
unwritten rows writes at s h = value_of-after-none rows writes at s (none_written writes at h)

-- the row of a written key names nothing that isn't declared
put_has : (rows : Rows) (writes : List Write) (at : Key) (v : Value) → puts_orphan rows writes ≡ false
    → is_written_key writes at ≡ true
    → value_of rows at ≡ Some v → HaveRows rows (needs at v)
put_has rows [] at v none h is = cc
put_has rows (write ∷ writes) at v none h is =
    by (λ g f. put_has rows writes at v g f is) (is_eq (key_cmp at write.key)) refl h
  where
    parts : (orphans rows write.key (value_of rows write.key) ≡ false) × (puts_orphan rows writes ≡ false)
    parts = or_parts (orphans rows write.key (value_of rows write.key)) (puts_orphan rows writes) none

    here : (one : Key) → at ≡ one → orphans rows one (value_of rows one) ≡ false → HaveRows rows (needs at v)
    here one e f =
        let own : value_of rows one ≡ Some v = ap (λ (k : Key). value_of rows k) (sym e) ∙ is in
        let lacking : is_orphan rows (one, v) ≡ false = ap (orphans rows one) (sym own) ∙ f in
        rw e (all_have rows (needs one v) lacking)

    by : (puts_orphan rows writes ≡ false → is_written_key writes at ≡ true → HaveRows rows (needs at v)) → (b : Bool)
        → is_eq (key_cmp at write.key) ≡ b → (b || is_written_key writes at) ≡ true → HaveRows rows (needs at v)
    by more true e f = here write.key (one_key at write.key e) parts.0
    by more false e f = more parts.1 f

-- the same keys declare names
same_declares : (at : Key) → declares at ≡ needing.declares at
same_declares (key.Net net) = refl
same_declares (key.Pid net pid) = refl
same_declares (key.Metric net metric) = refl
same_declares (key.Ane net ane) = refl
same_declares _ = refl

-- a key that declares a name and had a row has one, where it isn't withdrawn
need_stays : (rows : Rows) (writes : List Write) (gone : BTreeSet Key) (need : Key) → AreSorted rows
    → AreWithdrawn (after rows writes) writes gone
    → contains key_cmp gone need ≡ false → needing.declares need ≡ true → has_row rows need ≡ true
    → has_row (after rows writes) need ≡ true
need_stays rows writes gone need s are out declare had =
    by (has_row (after rows writes) need) refl (is_written_key writes need) refl
  where
    by : (b : Bool) → has_row (after rows writes) need ≡ b → (w : Bool) → is_written_key writes need ≡ w → b ≡ true
    by true e w f = refl
    by false e true f =
        let there : contains key_cmp gone need ≡ true =
        are need ∙ and_from _ _ f (and_from _ _ (same_declares need ∙ declare) (ap not e)) in
        absurd (both_ways (contains key_cmp gone need) out there)
    by false e false f = absurd (both_ways (has_row rows need)
        (sym (ap is_some (unwritten rows writes need s f)) ∙ e) had)

needs_stay : (rows : Rows) (writes : List Write) (gone : BTreeSet Key) (keys : List Key) → AreSorted rows
    → AreWithdrawn (after rows writes) writes gone
    → list_any (contains key_cmp gone) keys ≡ false → AllByRecursion (λ need. needing.declares need ≡ true) keys
    → HaveRows rows keys
    → HaveRows (after rows writes) keys
needs_stay rows writes gone [] s are out declare had = tt
needs_stay rows writes gone (need ∷ keys) s are out declare had =
    let parts = or_parts (contains key_cmp gone need) (list_any (contains key_cmp gone) keys) out in (
      need_stays rows writes gone need s are parts.0 declare.0 had.0,
      needs_stay rows writes gone keys s are parts.1
          declare.1 had.1,
    )

-- what rows name stays declared where no written row names what isn't and no row names what is withdrawn
pub stay_declared : (rows : Rows) (writes : List Write) (gone : BTreeSet Key) → AreGood rows
    → AreWithdrawn (after rows writes) writes gone
    → puts_orphan (after rows writes) writes ≡ false → list_any (names_some gone) (after rows writes) ≡ false
    → AreDeclared (after rows writes)
stay_declared rows writes gone good are none out at v is =
    All-from_recursion (λ (need : Key). has_row (after rows writes) need ≡ true) (needs at v)
    (by (is_written_key writes at) refl)
  where
    by : (w : Bool) → is_written_key writes at ≡ w → HaveRows (after rows writes) (needs at v)
    by true e = put_has (after rows writes) writes at v none e is
    by false e =
        needs_stay rows writes gone (needs at v) good.sorted
        are (fails_at (names_some gone) (after rows writes) at v out is) (needing.needs_declare at v)
        (needs_have rows at v good.declared (sym (unwritten rows writes at good.sorted e) ∙ is))

-- ---- the three answers

-- some written row names what isn't declared
pub declared_refuted : (next : Rows) (writes : List Write) (puts : Bool) → puts ≡ puts_orphan next writes → puts ≡ true
    → Decides false (AreDeclared next)
declared_refuted next writes puts is h = (
  λ e. absurd (both_ways false refl e),
  λ declared.
      absurd (both_ways (puts_orphan next writes) (puts_none next writes declared) (sym is ∙ h)),
)

-- nothing is withdrawn
pub declared_kept : (rows next : Rows) (writes : List Write) (gone : BTreeSet Key) → AreGood rows
    → next ≡ after rows writes → AreWithdrawn next writes gone
    → puts_orphan next writes ≡ false → gone.keys ≡ [] → Decides true (AreDeclared next)
declared_kept rows next writes gone good is are none empty = (
  λ e. rw is (stay_declared rows writes gone good (rw is at are) (rw is at none)
      (all_fail (names_some gone) (after rows writes) (sorted_after rows writes good.sorted)
      (λ at v _. nothing (needs at v)))),
  λ declared. refl,
)
  where
    nothing : (keys : List Key) → list_any (contains key_cmp gone) keys ≡ false
    nothing [] = refl
    nothing (at ∷ keys) = or_from _ _ (rw empty refl) (nothing keys)

-- something is, and rows name it or don't
pub declared_told : (rows next : Rows) (writes : List Write) (gone : BTreeSet Key) (some : Bool) → AreGood rows
    → next ≡ after rows writes → AreWithdrawn next writes gone
    → puts_orphan next writes ≡ false → some ≡ list_any (names_some gone) next → Decides (not some) (AreDeclared next)
declared_told rows next writes gone some good is are none names = by some refl
  where
    by : (b : Bool) → some ≡ b → Decides (not b) (AreDeclared next)
    by true e = (
      λ f. absurd (both_ways false refl f),
      λ declared. absurd (both_ways (list_any (names_some gone) next)
          (names_none next writes gone (rw is (sorted_after rows writes good.sorted)) declared are) (sym names ∙ e)),
    )
    by false e = (
      λ f. rw is (stay_declared rows writes gone good (rw is at are) (rw is at none)
          (ap (λ (r : Rows). list_any (names_some gone) r) (sym is) ∙ (sym names ∙ e))),
      λ declared. refl,
    )

-- ---- the set of withdrawn keys

-- a key more, where it is gone
pub withdrawn_more : (next : Rows) (writes : List Write) (write : Write) (gone gone' : BTreeSet Key)
    → AreWithdrawn next writes gone
    → HasGone (is_gone next write.key) write.key gone gone' → AreWithdrawn next (writes ++ write ∷ []) gone'
withdrawn_more next writes write gone gone' are more at =
    more at
    ∙ (ap (λ b. b || (is_eq (key_cmp at write.key) && is_gone next write.key)) (are at)
    ∙ (by (is_eq (key_cmp at write.key)) refl (is_written_key writes at)
    ∙ ap (λ b. b && is_gone next at)
    (sym (list_any-append (λ (one : Write). is_eq (key_cmp at one.key)) writes (write ∷ [])))))
  where
    mixed : (w g : Bool) → ((w && g) || g) ≡ ((w || (true || false)) && g)
    mixed true true = refl
    mixed true false = refl
    mixed false true = refl
    mixed false false = refl

    alone : (w g h : Bool) → ((w && g) || (false && h)) ≡ ((w || (false || false)) && g)
    alone true true h = refl
    alone true false h = refl
    alone false g h = refl

    by : (b : Bool) → is_eq (key_cmp at write.key) ≡ b → (w : Bool)
        → ((w && is_gone next at) || (b && is_gone next write.key)) ≡ ((w || (b || false)) && is_gone next at)
    by true e w = rw (ap (is_gone next) (sym (one_key at write.key e))) (mixed w (is_gone next at))
    by false e w = alone w (is_gone next at) (is_gone next write.key)

-- the set stays as it is where the key isn't gone
pub gone_same : (test : Bool) (key : Key) (gone : BTreeSet Key) → test ≡ false → HasGone test key gone gone
gone_same test key gone h at = rw h (by (contains key_cmp gone at) (is_eq (key_cmp at key)))
  where
    by : (c b : Bool) → c ≡ (c || (b && false))
    by true b = refl
    by false true = refl
    by false false = refl

-- and has the key where it is
pub gone_more : (test : Bool) (key : Key) (gone gone' : BTreeSet Key) → test ≡ true
    → set.Updates key_cmp gone gone' key true → HasGone test key gone gone'
gone_more test key gone gone' h more at =
    more.0 at ∙ rw (same_key_back key at, h) (by (is_eq (key_cmp at key)) (contains key_cmp gone at))
  where
    by : (b c : Bool) → cond b true c ≡ (c || (b && true))
    by true true = refl
    by true false = refl
    by false true = refl
    by false false = refl
