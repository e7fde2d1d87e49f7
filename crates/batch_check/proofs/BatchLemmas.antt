-- What good rows keep under a batch whose writes fit and whose version rows are right: all but what the rows name and
-- who has a
-- prefix.
use Rattle.std.proofs.Common.{◌≡◌, refl, ap, sym, ◌∙◌, subst}
use Rattle.std.proofs.lemmas.Bool.{both_ways}
use Rattle.std.specs.Prelude.{Bool, true, false, not, cond, ◌&&◌, Decides, List, [], ◌∷◌, ◌++◌, Option, Some, None}
use Rattle.std.specs.Prelude.{IfSome, is_some, All}
use Rattle.std.proofs.lemmas.List.Elements.{recursion_from_All}
use Rattle.std.specs.List.{AllByRecursion}
use Rattle.std.specs.Ordering.{is_eq}
use Rattle.alto_rows.specs.declared.key.Key.{Key}
use Rattle.alto_rows.specs.declared.key.Key.TheVariants as key
use Rattle.alto_rows.specs.declared.resource.Resource.{Resource}
use Rattle.alto_rows.specs.declared.value.Value.{Value}
use Rattle.alto_rows.specs.declared.write.Write.{Write}
use Rattle.alto_rows.specs.Good.{AreGood, Fits, IsKey, Takes}
use Rattle.alto_rows.specs.Order.{key_cmp}
use Rattle.alto_rows.specs.Rows.{Rows, value_of, has_row, after}
use Rattle.alto_rows.specs.Versions.{is_declared}
use Rattle.alto_rows.proofs.OrderLemmas.{one_key}
use Rattle.alto_rows.proofs.WriteLemmas.{NoneWrites, sorted_after, value_after, value_of-after, value_of-after-none}
use Rattle.alto_edits.specs.Laws.{FitsBatch, FitsEdit, IsOfBatch, IsOfEdit}
use Rattle.alto_edits.specs.Versions.{is_touched, sequence_writes}
use Rattle.alto_edits.proofs.VersionLemmas.{gained_touched, is_declared-batch, next_of, value_of-batch}
use Rattle.batch_check.specs.Named.{AreDeclared}
use Rattle.batch_check.specs.Owners.{HaveOnePid}
use Rattle.batch_check.specs.Rules.{is_version, edits_in, KeepsVersions}

-- ---- values fit their keys

-- the names in a key that a batch may write are of their alphabets
batch_key : (at : Key) → IsOfBatch at → IsKey at
batch_key key.Epoch h = absurd h
batch_key key.Window h = absurd h
batch_key _ h = h

-- a value that a batch puts fits its key
put_fits : (at : Key) (v : Option Value) → IsOfBatch at → IfSome v (Takes at) → IfSome v (Fits at)
put_fits at None of takes = takes
put_fits at (Some v) of takes = (batch_key at of, takes)

-- so the value at a key fits after a batch
value_fits : (writes : List Write) (old : Option Value) (at : Key) → AllByRecursion FitsBatch writes
    → IfSome old (Fits at)
    → IfSome (value_after old writes at) (Fits at)
value_fits [] old at all fit = fit
value_fits (write ∷ writes) old at all fit =
    value_fits writes (cond (is_eq (key_cmp at write.key)) write.value old) at
    all.1 (by (is_eq (key_cmp at write.key)) refl)
  where
    by : (b : Bool) → is_eq (key_cmp at write.key) ≡ b → IfSome (cond b write.value old) (Fits at)
    by true e = rw (one_key at write.key e) (put_fits write.key write.value all.0.0 all.0.1)
    by false e = fit

-- ---- the epoch and the window

-- a batch writes neither
apart_epoch : (at : Key) → IsOfBatch at → is_eq (key_cmp key.Epoch at) ≡ false
unfolding key_cmp
apart_epoch key.Epoch h = absurd h
apart_epoch _ h = refl

apart_window : (at : Key) → IsOfBatch at → is_eq (key_cmp key.Window at) ≡ false
unfolding key_cmp
apart_window key.Window h = absurd h
apart_window _ h = refl

none_epoch : (writes : List Write) → AllByRecursion FitsBatch writes → NoneWrites key.Epoch writes
none_epoch [] all = tt
none_epoch (write ∷ writes) all = (apart_epoch write.key all.0.0, none_epoch writes all.1)

none_window : (writes : List Write) → AllByRecursion FitsBatch writes → NoneWrites key.Window writes
none_window [] all = tt
none_window (write ∷ writes) all = (apart_window write.key all.0.0, none_window writes all.1)

-- ---- versions

-- a key of a batch that is no version's is one that edits may write
edit_key : (at : Key) → is_version at ≡ false → IsOfBatch at → IsOfEdit at
edit_key (key.Seq of) e h = cc
edit_key _ e h = h

-- the edits of a batch fit
edits_fit : (writes : List Write) → AllByRecursion FitsBatch writes → AllByRecursion FitsEdit (edits_in writes)
edits_fit [] all = tt
edits_fit (write ∷ writes) all = by (edits_fit writes all.1) (is_version write.key) refl
  where
    by : AllByRecursion FitsEdit (edits_in writes) → (b : Bool) → is_version write.key ≡ b
        → AllByRecursion FitsEdit (cond (not b) (write ∷ edits_in writes) (edits_in writes))
    by more true e = more
    by more false e = ((edit_key write.key e all.0.0, all.0.1), more)

-- declared resources have versions after edits with their version rows
versions_stay : (rows : Rows) (edits : List Write) (of : Resource) → AreGood rows → AllByRecursion FitsEdit edits
    → is_declared (after rows (edits ++ sequence_writes rows edits)) of ≡ true
    → has_row (after rows (edits ++ sequence_writes rows edits)) (key.Seq of) ≡ true
versions_stay rows edits of good fit h =
    rw (value_of-batch rows edits of good.sorted fit)
    (by (is_touched edits of) (is_declared (after rows edits) of) (is_declared rows of) refl refl
    refl (sym (is_declared-batch rows edits of good.sorted) ∙ h))
  where
    by : (t d b : Bool) → is_touched edits of ≡ t → is_declared (after rows edits) of ≡ d
        → is_declared rows of ≡ b → d ≡ true
        → is_some (cond (t && d) (next_of rows of) (value_of rows (key.Seq of))) ≡ true
    by t false b f e g h = cc
    by true true b f e g h = refl
    by false true true f e g h = good.versions of g
    by false true false f e g h = absurd
        (both_ways (is_touched edits of) f (gained_touched rows edits of good.sorted g e))

-- ---- all of it

-- rows after a batch are good where what they name is declared and a prefix is in one PID of a network at most
pub good_after : (rows : Rows) (writes : List Write) → AreGood rows → All FitsBatch writes → KeepsVersions rows writes
    → AreDeclared (after rows writes) → HaveOnePid (after rows writes) → AreGood (after rows writes)
good_after rows writes good fit keeps declared one_pid = record {
  sorted = sorted_after rows writes good.sorted;
  fit = λ at. rw (value_of-after rows writes at good.sorted)
      (value_fits writes (value_of rows at) at all (good.fit at));
  epoch = ap is_some (value_of-after-none rows writes key.Epoch good.sorted (none_epoch writes all)) ∙ good.epoch;
  window = ap is_some (value_of-after-none rows writes key.Window good.sorted (none_window writes all)) ∙ good.window;
  declared = declared;
  one_pid = one_pid;
  versions = λ of. subst (λ (w : List Write). is_declared (after rows w) of ≡ true
      → has_row (after rows w) (key.Seq of) ≡ true) (sym keeps)
      (versions_stay rows (edits_in writes) of good (edits_fit writes all));
}
  where
    all : AllByRecursion FitsBatch writes
    all = recursion_from_All FitsBatch writes fit

-- so they are good exactly where a prefix is in one PID of a network at most, once what they name is declared
pub good_decided : (rows next : Rows) (writes : List Write) (one : Bool) → AreGood rows → All FitsBatch writes
    → KeepsVersions rows writes → next ≡ after rows writes
    → AreDeclared next → Decides one (HaveOnePid next) → Decides one (AreGood (after rows writes))
good_decided rows next writes one good fit keeps is declared decides = (
  λ h. good_after rows writes good fit keeps (subst AreDeclared is declared) (subst HaveOnePid is (decides.0 h)),
  λ after_good. decides.1 (subst HaveOnePid (sym is) after_good.one_pid),
)
