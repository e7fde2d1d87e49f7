-- An edit that breaks no rule leaves sound rows, and each of its writes fits.
use Rattle.std.proofs.Common.{◌≡◌, refl, arith}
use Rattle.std.proofs.lemmas.Bool.{both_ways, not-false, or_parts}
use Rattle.std.specs.Prelude.{ℕ, Bool, true, false, cond, ◌≤◌, length, List, [], ◌∷◌, ◌++◌, map, filter, find, Some}
use Rattle.std.specs.Prelude.{None, option_map}
use Rattle.std.specs.List.{AllByRecursion, list_any}
use Rattle.alto_addr.specs.declared.prefix.Prefix.{Prefix}
use Rattle.alto_rows.specs.declared.entity.Entity.{Entity}
use Rattle.alto_rows.specs.declared.entity.Entity.TheVariants as entity
use Rattle.alto_rows.specs.declared.key.Key.{Key}
use Rattle.alto_rows.specs.declared.key.Key.TheVariants as key
use Rattle.alto_rows.specs.declared.resource.Resource.{Resource}
use Rattle.alto_rows.specs.declared.value.Value.{Value}
use Rattle.alto_rows.specs.declared.value.Value.TheVariants as value
use Rattle.alto_rows.specs.declared.write.Write.{Write}
use Rattle.alto_rows.specs.Good.{IsKey, Fits, Takes, entity_needs}
use Rattle.alto_rows.specs.Order.{key_cmp}
use Rattle.alto_rows.specs.Rows.{Rows, value_of, has_row, after}
use Rattle.alto_rows.proofs.WriteLemmas.{after-push}
use Rattle.alto_rows.proofs.NeedsLemmas.{declares}
use Rattle.alto_rows.proofs.SoundLemmas.{AreSound, HaveRows, IsClosed, sound_put}
use Rattle.alto_rows.proofs.DeletionLemmas.{deletion, each_row}
use Rattle.alto_edits.proofs.ClosedLemmas.{names_closed, sound_withdrawing, leaves_closed, sound_deleting, is_elsewhere}
use Rattle.alto_edits.proofs.ClosedLemmas.{elsewhere_leaf, taking-elsewhere, sound_taking, has_row-taking, taken_alone}
use Rattle.alto_edits.specs.declared.edit.Edit.{Edit}
use Rattle.alto_edits.specs.declared.edit.Edit.TheVariants as edit
use Rattle.alto_edits.specs.declared.edit.PropValue.{PropValue}
use Rattle.alto_edits.specs.declared.edit.PropValue.TheVariants as property
use Rattle.alto_edits.specs.Edits.{IsPropValue, IsEdit}
use Rattle.alto_edits.specs.Laws.{IsOfEdit, FitsEdit}
use Rattle.alto_edits.specs.Rules.{Check, lacks, entity_pids, checks, first_broken, broken_rule}
use Rattle.alto_edits.specs.Writes.{putting, names, withdrawing, taking, property_value, writes_of}

-- ---- what no broken rule says

-- none of the checks is of a broken rule
abbrev pub NoneBroken : List Check → Type 0
NoneBroken all = AllByRecursion (λ check. check.1 ≡ false) all

pub none_broken : (all : List Check) → first_broken all ≡ None → NoneBroken all
none_broken [] h = tt
none_broken (check ∷ all) h = by (λ g. none_broken all g) check.1 refl h
  where
    by : (first_broken all ≡ None → NoneBroken all) → (b : Bool) → check.1 ≡ b
        → option_map (λ (c : Check). c.0) (cond b (Some check) (find (λ c. c.1) all)) ≡ None → NoneBroken (check ∷ all)
    by more true e g = cc
    by more false e g = (e, more g)

-- where no rule is broken, none of the checks is of one
pub unbroken : (rows : Rows) (edit : Edit) → broken_rule rows edit ≡ None → NoneBroken (checks rows edit)
unfolding broken_rule
unbroken rows edit h = none_broken (checks rows edit) h

-- a key that isn't lacking has a row
pub not_lacking : (rows : Rows) (at : Key) → lacks rows at ≡ false → has_row rows at ≡ true
not_lacking rows at h = not-false (has_row rows at) h

-- keys of which none is lacking have rows
none_lacking : (rows : Rows) (key_of : List ℕ → Key) (names : List (List ℕ))
    → list_any (λ name. lacks rows (key_of name)) names ≡ false
    → HaveRows rows (map key_of names)
none_lacking rows key_of [] h = tt
none_lacking rows key_of (name ∷ names) h =
    let parts : (lacks rows (key_of name) ≡ false) × (list_any (λ name. lacks rows (key_of name)) names ≡ false) =
    or_parts (lacks rows (key_of name)) (list_any (λ name. lacks rows (key_of name)) names) h in
    (not_lacking rows (key_of name) parts.0, none_lacking rows key_of names parts.1)

-- the PID that an entity names is declared
entity_has_rows : (rows : Rows) (net : List ℕ) (of : Entity)
    → list_any (λ pid. lacks rows (key.Pid net pid)) (entity_pids of) ≡ false
    → HaveRows rows (entity_needs net of)
entity_has_rows rows net (entity.Block block) h = tt
entity_has_rows rows net (entity.Pid pid) h = none_lacking rows (key.Pid net) (pid ∷ []) h

-- ---- the rows after an edit are sound

-- so they are after a prefix is taken from other PIDs and put
sound_prefix : (rows : Rows) (net pid : List ℕ) (prefix : Prefix) → AreSound rows → IsKey (key.Prefix net pid prefix)
    → has_row rows (key.Net net) ≡ true → has_row rows (key.Pid net pid) ≡ true
    → AreSound (after rows (taking rows net pid prefix ++ putting (key.Prefix net pid prefix) value.Unit ∷ []))
sound_prefix rows net pid prefix sound is net_has pid_has =
    rw (after-push rows (taking rows net pid prefix) (putting (key.Prefix net pid prefix) value.Unit))
    (sound_put (after rows (taking rows net pid prefix)) (key.Prefix net pid prefix)
    value.Unit (sound_taking rows net pid prefix sound) (is, tt) (
      has_row-taking rows net pid prefix (key.Net net) sound refl net_has,
      (has_row-taking rows net pid prefix (key.Pid net pid) sound refl pid_has, tt),
    )
    (taken_alone rows net pid prefix sound))

-- the value of a property is one that its row takes
property_taken : (net : List ℕ) (of : Entity) (name : List ℕ) (v : PropValue) → IsPropValue v
    → Takes (key.Prop net of name) (property_value v)
property_taken net of name (property.Text text) is =
    let most : length text ≤ 65535 = omega (arith, is.1) in
    (is.0, most)
property_taken net of name (property.Number n) is = is

-- an edit that breaks no rule leaves sound rows
pub edit_keeps_sound : (rows : Rows) (edit : Edit) → AreSound rows → IsEdit edit → broken_rule rows edit ≡ None
    → AreSound (after rows (writes_of rows edit))
edit_keeps_sound rows (edit.NetAdd net) sound is h =
    sound_put rows (key.Net net) value.Unit sound (is, tt) tt (λ of pid other prefix e g. cc)
edit_keeps_sound rows (edit.NetDrop net) sound is h = sound_withdrawing rows (key.Net net) sound refl
edit_keeps_sound rows (edit.PidAdd net pid) sound is h =
    let passed : NoneBroken (checks rows (edit.PidAdd net pid)) = unbroken rows (edit.PidAdd net pid) h in
    sound_put rows (key.Pid net pid) value.Unit sound (is, tt) (not_lacking rows (key.Net net) passed.0, tt)
    (λ of pid other prefix e g. cc)
edit_keeps_sound rows (edit.PidDrop net pid) sound is h = sound_withdrawing rows (key.Pid net pid) sound refl
edit_keeps_sound rows (edit.PrefixPut net pid prefix) sound is h =
    let passed : NoneBroken (checks rows (edit.PrefixPut net pid prefix)) =
    unbroken rows (edit.PrefixPut net pid prefix) h in
    let pids : HaveRows rows (key.Pid net pid ∷ []) = none_lacking rows (key.Pid net) (pid ∷ []) passed.1.0 in
    sound_prefix rows net pid prefix sound is (not_lacking rows (key.Net net) passed.0) pids.0
edit_keeps_sound rows (edit.PrefixDel net pid prefix) sound is h =
    sound_deleting rows (key.Prefix net pid prefix) sound refl
edit_keeps_sound rows (edit.MetricAdd net metric) sound is h =
    let passed : NoneBroken (checks rows (edit.MetricAdd net metric)) = unbroken rows (edit.MetricAdd net metric) h in
    sound_put rows (key.Metric net metric) value.Unit sound (is, tt) (not_lacking rows (key.Net net) passed.0, tt)
    (λ of pid other prefix e g. cc)
edit_keeps_sound rows (edit.MetricDrop net metric) sound is h =
    sound_withdrawing rows (key.Metric net metric) sound refl
edit_keeps_sound rows (edit.CostPut net metric source destination cost) sound is h =
    let passed : NoneBroken (checks rows (edit.CostPut net metric source destination cost)) =
    unbroken rows (edit.CostPut net metric source destination cost) h in
    sound_put rows (key.Cost net metric source destination) (value.Num cost) sound (is.0, is.1) (
      not_lacking rows (key.Net net) passed.0,
      (
        not_lacking rows (key.Metric net metric) passed.1.1.0,
        none_lacking rows (key.Pid net)
            (source ∷ destination ∷ []) passed.1.0,
      ),
    )
    (λ of pid other prefix e g. cc)
edit_keeps_sound rows (edit.CostDel net metric source destination) sound is h =
    sound_deleting rows (key.Cost net metric source destination) sound refl
edit_keeps_sound rows (edit.PropPut net of name v) sound is h =
    let passed : NoneBroken (checks rows (edit.PropPut net of name v)) = unbroken rows (edit.PropPut net of name v) h in
    sound_put rows (key.Prop net of name) (property_value v) sound (is.0, property_taken net of name v is.1)
    (not_lacking rows (key.Net net) passed.0, entity_has_rows rows net of passed.1.0) (λ of pid other prefix e g. cc)
edit_keeps_sound rows (edit.PropDel net of name) sound is h = sound_deleting rows (key.Prop net of name) sound refl
edit_keeps_sound rows (edit.AneAdd net ane) sound is h =
    let passed : NoneBroken (checks rows (edit.AneAdd net ane)) = unbroken rows (edit.AneAdd net ane) h in
    sound_put rows (key.Ane net ane) value.Unit sound (is, tt) (not_lacking rows (key.Net net) passed.0, tt)
    (λ of pid other prefix e g. cc)
edit_keeps_sound rows (edit.AneSet net ane name number) sound is h =
    let passed : NoneBroken (checks rows (edit.AneSet net ane name number)) =
    unbroken rows (edit.AneSet net ane name number) h in
    sound_put rows (key.AneProp net ane name) (value.Num number) sound (is.0, is.2)
    (not_lacking rows (key.Net net) passed.0, (not_lacking rows (key.Ane net ane) passed.1.0, tt))
    (λ of pid other prefix e g. cc)
edit_keeps_sound rows (edit.PathPut net source destination anes) sound is h =
    let passed : NoneBroken (checks rows (edit.PathPut net source destination anes)) =
    unbroken rows (edit.PathPut net source destination anes) h in
    let pids : HaveRows rows (key.Pid net source ∷ key.Pid net destination ∷ []) =
    none_lacking rows (key.Pid net) (source ∷ destination ∷ []) passed.1.0 in
    sound_put rows (key.Path net source destination) (value.Names anes) sound (is.0, (is.1, is.2, is.3))
    (not_lacking rows (key.Net net) passed.0, (pids.0, (pids.1.0, none_lacking rows (key.Ane net) anes passed.1.1.0)))
    (λ of pid other prefix e g. cc)
edit_keeps_sound rows (edit.PathDel net source destination) sound is h =
    sound_deleting rows (key.Path net source destination) sound refl

-- ---- the writes of an edit fit

-- a key that edits may write, since its row goes and neither the epoch's, the window's nor a version's does
goes_of_edit : (goes : Key × Value → Bool) (at : Key) (v : Value) → IsClosed goes
    → ((of : Resource) (w : Value) → goes (key.Seq of, w) ≡ false)
    → goes (at, v) ≡ true → IsKey at → IsOfEdit at
goes_of_edit goes key.Epoch v closed seq h is = both_ways (goes (key.Epoch, v)) (closed.epoch v) h
goes_of_edit goes key.Window v closed seq h is = both_ways (goes (key.Window, v)) (closed.window v) h
goes_of_edit goes (key.Seq of) v closed seq h is = both_ways (goes (key.Seq of, v)) (seq of v) h
goes_of_edit goes _ v closed seq h is = is

-- the deletions of rows that go fit
deletions_fit : (goes : Key × Value → Bool) (rows : Rows) → AreSound rows → IsClosed goes
    → ((of : Resource) (w : Value) → goes (key.Seq of, w) ≡ false)
    → AllByRecursion FitsEdit (map deletion (filter goes rows))
deletions_fit goes rows sound closed seq = each rows (each_row rows rows sound.sorted (λ at v h. h))
  where
    fits : (row : Key × Value) → value_of rows row.0 ≡ Some row.1 → Fits row.0 row.1
    fits row h = rw h at (sound.fit row.0)

    first : (row : Key × Value) (rest : Rows) → value_of rows row.0 ≡ Some row.1
        → AllByRecursion FitsEdit (map deletion (filter goes rest))
        → (b : Bool) → goes row ≡ b
        → AllByRecursion FitsEdit (map deletion (cond b (row ∷ filter goes rest) (filter goes rest)))
    first row rest h more true e = ((goes_of_edit goes row.0 row.1 closed seq e (fits row h).0, tt), more)
    first row rest h more false e = more

    each : (rest : Rows) → AllByRecursion (λ row. value_of rows row.0 ≡ Some row.1) rest
        → AllByRecursion FitsEdit (map deletion (filter goes rest))
    each [] all = tt
    each (row ∷ rest) all = first row rest all.0 (each rest all.1) (goes row) refl

-- a version names nothing that is declared
version_names_none : (declared : Key) (of : Resource) (v : Value) → declares declared ≡ true
    → names declared (key.Seq of, v) ≡ false
unfolding key_cmp
version_names_none (key.Net net) of v h = refl
version_names_none (key.Pid net pid) of v h = refl
version_names_none (key.Metric net metric) of v h = refl
version_names_none (key.Ane net ane) of v h = refl
version_names_none _ of v h = cc

withdrawing_fits : (rows : Rows) (declared : Key) → AreSound rows → declares declared ≡ true
    → AllByRecursion FitsEdit (withdrawing rows declared)
withdrawing_fits rows declared sound h =
    deletions_fit (names declared) rows sound (names_closed declared h) (λ of v. version_names_none declared of v h)

taking_fits : (rows : Rows) (net pid : List ℕ) (prefix : Prefix) → AreSound rows
    → AllByRecursion FitsEdit (taking rows net pid prefix)
taking_fits rows net pid prefix sound =
    rw (taking-elsewhere rows net pid prefix)
    (deletions_fit (is_elsewhere net pid prefix) rows
    sound (leaves_closed (is_elsewhere net pid prefix) (elsewhere_leaf net pid prefix)) (λ of v. refl))

-- what holds of each of two lists' writes holds of those of both
pub all_append : (P : Write → Type 0) (first second : List Write) → AllByRecursion P first → AllByRecursion P second
    → AllByRecursion P (first ++ second)
all_append P [] second a b = b
all_append P (write ∷ first) second a b = (a.0, all_append P first second a.1 b)

-- each write of an edit fits
pub edit_fits : (rows : Rows) (edit : Edit) → AreSound rows → IsEdit edit
    → AllByRecursion FitsEdit (writes_of rows edit)
edit_fits rows (edit.NetAdd net) sound is = ((is, tt), tt)
edit_fits rows (edit.NetDrop net) sound is = withdrawing_fits rows (key.Net net) sound refl
edit_fits rows (edit.PidAdd net pid) sound is = ((is, tt), tt)
edit_fits rows (edit.PidDrop net pid) sound is = withdrawing_fits rows (key.Pid net pid) sound refl
edit_fits rows (edit.PrefixPut net pid prefix) sound is =
    all_append FitsEdit (taking rows net pid prefix) (putting (key.Prefix net pid prefix) value.Unit ∷ [])
    (taking_fits rows net pid prefix sound) ((is, tt), tt)
edit_fits rows (edit.PrefixDel net pid prefix) sound is = ((is, tt), tt)
edit_fits rows (edit.MetricAdd net metric) sound is = ((is, tt), tt)
edit_fits rows (edit.MetricDrop net metric) sound is = withdrawing_fits rows (key.Metric net metric) sound refl
edit_fits rows (edit.CostPut net metric source destination cost) sound is = ((is.0, is.1), tt)
edit_fits rows (edit.CostDel net metric source destination) sound is = ((is, tt), tt)
edit_fits rows (edit.PropPut net of name v) sound is = ((is.0, property_taken net of name v is.1), tt)
edit_fits rows (edit.PropDel net of name) sound is = ((is, tt), tt)
edit_fits rows (edit.AneAdd net ane) sound is = ((is, tt), tt)
edit_fits rows (edit.AneSet net ane name number) sound is = ((is.0, is.2), tt)
edit_fits rows (edit.PathPut net source destination anes) sound is = ((is.0, (is.1, is.2, is.3)), tt)
edit_fits rows (edit.PathDel net source destination) sound is = ((is, tt), tt)
