-- Sound rows, which are good but for their versions, and the two changes that keep them so: a row more whose names are
-- declared,
-- and fewer rows of which none that is left needs one that is gone.
use Rattle.std.proofs.Common.{◌≡◌, refl, ap, sym, ◌∙◌, inl, inr}
use Rattle.std.proofs.lemmas.Bool.{or_cases, or_right}
use Rattle.std.proofs.lemmas.List.Elements.{All-from_recursion, recursion_from_All}
use Rattle.std.specs.Prelude.{ℕ, Bool, true, false, cond, ◌||◌, ◌⊎◌, List, [], ◌∷◌, All, Option, Some, None, IfSome}
use Rattle.std.specs.Prelude.{is_some}
use Rattle.std.specs.List.{AllByRecursion}
use Rattle.std.specs.Ordering.{is_eq}
use Rattle.alto_addr.specs.declared.prefix.Prefix.{Prefix}
use Rattle.alto_rows.specs.declared.key.Key.{Key}
use Rattle.alto_rows.specs.declared.key.Key.TheVariants as key
use Rattle.alto_rows.specs.declared.resource.Resource.{Resource}
use Rattle.alto_rows.specs.declared.resource.Resource.TheVariants as resource
use Rattle.alto_rows.specs.declared.value.Value.{Value}
use Rattle.alto_rows.specs.Good.{IsResource, IsKey, Fits, needs, AreGood}
use Rattle.alto_rows.specs.Order.{key_cmp}
use Rattle.alto_rows.specs.Rows.{Rows, AreSorted, value_of, has_row, with_value}
use Rattle.alto_rows.specs.Versions.{is_declared}
use Rattle.alto_rows.proofs.NeedsLemmas.{declares, is_among, among_first, of_among, needs_declare}
use Rattle.alto_rows.proofs.OrderLemmas.{one_key}
use Rattle.alto_rows.proofs.WriteLemmas.{value_of-put, sorted_with_value}

-- good but for versions
pub record AreSound (rows : Rows) : Type 0 where
  pub sorted : AreSorted rows
  pub fit : (at : Key) → IfSome (value_of rows at) (Fits at)
  pub epoch : has_row rows key.Epoch ≡ true
  pub window : has_row rows key.Window ≡ true
  pub declared : (at : Key) (v : Value) → value_of rows at ≡ Some v
      → All (λ need. has_row rows need ≡ true) (needs at v)
  pub one_pid : (net first second : List ℕ) (prefix : Prefix) → has_row rows (key.Prefix net first prefix) ≡ true
      → has_row rows (key.Prefix net second prefix) ≡ true → first ≡ second

-- good rows are sound
pub sound_of_good : (rows : Rows) → AreGood rows → AreSound rows
sound_of_good rows good = record {
  sorted = good.sorted;
  fit = good.fit;
  epoch = good.epoch;
  window = good.window;
  declared = good.declared;
  one_pid = good.one_pid;
}

-- sound rows are good where declared resources have versions
pub good_of_sound : (rows : Rows) → AreSound rows
    → ((of : Resource) → is_declared rows of ≡ true → has_row rows (key.Seq of) ≡ true) → AreGood rows
good_of_sound rows sound versions = record {
  sorted = sound.sorted;
  fit = sound.fit;
  epoch = sound.epoch;
  window = sound.window;
  declared = sound.declared;
  one_pid = sound.one_pid;
  versions = versions;
}

-- these keys have rows
abbrev pub HaveRows : Rows → List Key → Type 0
HaveRows rows keys = AllByRecursion (λ need. has_row rows need ≡ true) keys

-- all keys that have rows keep them
abbrev pub KeepsRows : Rows → Rows → Type 0
KeepsRows rows later = (at : Key) → has_row rows at ≡ true → has_row later at ≡ true

-- keys that have rows keep them
have_rows_kept : (rows later : Rows) (keys : List Key) → KeepsRows rows later → HaveRows rows keys → HaveRows later keys
have_rows_kept rows later [] keeps have = tt
have_rows_kept rows later (at ∷ keys) keeps have = (keeps at have.0, have_rows_kept rows later keys keeps have.1)

-- a key with a value has a row
pub has_row-some : (rows : Rows) (at : Key) (v : Value) → value_of rows at ≡ Some v → has_row rows at ≡ true
has_row-some rows at v h = ap is_some h

-- a key that sound rows need has a row
pub need_has_row : (rows : Rows) (need at : Key) (v : Value) → AreSound rows → value_of rows at ≡ Some v
    → is_among need (needs at v) ≡ true
    → has_row rows need ≡ true
need_has_row rows need at v sound is among =
    of_among (λ need. has_row rows need ≡ true) need (needs at v)
    (recursion_from_All (λ (need : Key). has_row rows need ≡ true) (needs at v) (sound.declared at v is)) among

-- ---- one row more

-- after a put its key has a row, and each key that had one
pub has_row-put : (rows : Rows) (at : Key) (v : Value) (other : Key)
    → has_row (with_value rows at (Some v)) other ≡ (is_eq (key_cmp other at) || has_row rows other)
has_row-put rows at v other = rw (value_of-put rows at v other) (by (is_eq (key_cmp other at)))
  where
    by : (b : Bool) → is_some (cond b (Some v) (value_of rows other)) ≡ (b || has_row rows other)
    by true = refl
    by false = refl

-- a key that has a row keeps one under a put
pub has_row-kept : (rows : Rows) (at : Key) (v : Value) → KeepsRows rows (with_value rows at (Some v))
has_row-kept rows at v other h =
    rw (has_row-put rows at v other) (or_right (is_eq (key_cmp other at)) (has_row rows other) h)

-- each value fits its key under a put that fits
fit_put : (rows : Rows) (at : Key) (v : Value) → ((other : Key) → IfSome (value_of rows other) (Fits other)) → Fits at v
    → (other : Key) → IfSome (value_of (with_value rows at (Some v)) other) (Fits other)
fit_put rows at v fit fits other = rw (value_of-put rows at v other) (by (is_eq (key_cmp other at)) refl)
  where
    by : (b : Bool) → is_eq (key_cmp other at) ≡ b → IfSome (cond b (Some v) (value_of rows other)) (Fits other)
    by true e = rw (one_key other at e) fits
    by false e = fit other

-- what rows need has rows under a put whose needs have
declared_put : (rows : Rows) (at : Key) (v : Value) → AreSound rows → HaveRows rows (needs at v)
    → (other : Key) (w : Value) → value_of (with_value rows at (Some v)) other ≡ Some w
    → All (λ need. has_row (with_value rows at (Some v)) need ≡ true) (needs other w)
declared_put rows at v sound have other w is =
    All-from_recursion (λ (need : Key). has_row (with_value rows at (Some v)) need ≡ true) (needs other w)
    (have_rows_kept rows (with_value rows at (Some v)) (needs other w) (has_row-kept rows at v)
    (by (is_eq (key_cmp other at)) refl (sym (value_of-put rows at v other) ∙ is)))
  where
    by : (b : Bool) → is_eq (key_cmp other at) ≡ b → cond b (Some v) (value_of rows other) ≡ Some w
        → HaveRows rows (needs other w)
    by true e h =
        let one : v ≡ w = cc in
        rw (one_key other at e, ← one) have
    by false e h = recursion_from_All (λ (need : Key). has_row rows need ≡ true) (needs other w)
        (sound.declared other w h)

-- a prefix that the key gives to a PID is in no other
abbrev pub GivesAlone : Rows → Key → Type 0
GivesAlone rows at = (net pid other : List ℕ) (prefix : Prefix) → at ≡ key.Prefix net pid prefix
    → has_row rows (key.Prefix net other prefix) ≡ true → other ≡ pid

-- a prefix has one PID under a put that gives it to one alone
one_pid_put : (rows : Rows) (at : Key) (v : Value) → AreSound rows → GivesAlone rows at
    → (net first second : List ℕ) (prefix : Prefix)
    → has_row (with_value rows at (Some v)) (key.Prefix net first prefix) ≡ true
    → has_row (with_value rows at (Some v)) (key.Prefix net second prefix) ≡ true → first ≡ second
one_pid_put rows at v sound alone net first second prefix f s =
    by (or_cases (is_eq (key_cmp (key.Prefix net first prefix) at)) (has_row rows (key.Prefix net first prefix))
    (sym (has_row-put rows at v (key.Prefix net first prefix)) ∙ f))
    (or_cases (is_eq (key_cmp (key.Prefix net second prefix) at)) (has_row rows (key.Prefix net second prefix))
    (sym (has_row-put rows at v (key.Prefix net second prefix)) ∙ s))
  where
    one : (a b : List ℕ) → key.Prefix net a prefix ≡ key.Prefix net b prefix → a ≡ b
    one a b e = cc

    by : (is_eq (key_cmp (key.Prefix net first prefix) at) ≡ true) ⊎ (has_row rows (key.Prefix net first prefix) ≡ true)
        → (is_eq (key_cmp (key.Prefix net second prefix) at) ≡ true) ⊎ (has_row rows (key.Prefix net second prefix)
        ≡ true) → first ≡ second
    by (inl a) (inl b) = one first second (one_key (key.Prefix net first prefix) at a
        ∙ sym (one_key (key.Prefix net second prefix) at b))
    by (inl a) (inr b) = sym (alone net first second prefix (sym (one_key (key.Prefix net first prefix) at a)) b)
    by (inr a) (inl b) = alone net second first prefix (sym (one_key (key.Prefix net second prefix) at b)) a
    by (inr a) (inr b) = sound.one_pid net first second prefix a b

-- sound rows stay so under a put that fits, whose names are declared, and which gives no prefix to a second PID
pub sound_put : (rows : Rows) (at : Key) (v : Value) → AreSound rows → Fits at v → HaveRows rows (needs at v)
    → GivesAlone rows at
    → AreSound (with_value rows at (Some v))
sound_put rows at v sound fits have alone = record {
  sorted = sorted_with_value rows at (Some v) sound.sorted;
  fit = fit_put rows at v sound.fit fits;
  epoch = has_row-kept rows at v key.Epoch sound.epoch;
  window = has_row-kept rows at v key.Window sound.window;
  declared = declared_put rows at v sound have;
  one_pid = one_pid_put rows at v sound alone;
}

-- ---- fewer rows

-- what is left of a value where a test tells which rows go
abbrev pub left_of : (Key × Value → Bool) → Key → Option Value → Option Value
left_of goes at None = None
left_of goes at (Some v) = cond (goes (at, v)) None (Some v)

-- a test of rows that neither the epoch nor the window passes, and no row that a row needs which doesn't pass itself
pub record IsClosed (goes : Key × Value → Bool) : Type 0 where
  pub epoch : (v : Value) → goes (key.Epoch, v) ≡ false
  pub window : (v : Value) → goes (key.Window, v) ≡ false
  pub needs : (at need : Key) (v w : Value) → goes (at, v) ≡ false → is_among need (needs at v) ≡ true
      → goes (need, w) ≡ false

-- a row that doesn't go is left
pub left_stays : (goes : Key × Value → Bool) (at : Key) (old : Option Value) → ((v : Value) → goes (at, v) ≡ false)
    → is_some old ≡ true
    → is_some (left_of goes at old) ≡ true
left_stays goes at None stays h = h
left_stays goes at (Some v) stays h = rw (stays v) refl

-- what is left was there, and doesn't go
pub left_was : (goes : Key × Value → Bool) (at : Key) (old : Option Value) (v : Value) → left_of goes at old ≡ Some v
    → (old ≡ Some v) × (goes (at, v) ≡ false)
left_was goes at None v h = cc
left_was goes at (Some u) v h = by (goes (at, u)) refl h
  where
    by : (b : Bool) → goes (at, u) ≡ b → cond b None (Some u) ≡ Some v → (Some u ≡ Some v) × (goes (at, v) ≡ false)
    by true e g = cc
    by false e g =
        let one : u ≡ v = cc in
        (g, rw (← one) e)

-- a row that is left was there
left_had : (goes : Key × Value → Bool) (at : Key) (old : Option Value) → is_some (left_of goes at old) ≡ true
    → is_some old ≡ true
left_had goes at None h = h
left_had goes at (Some v) h = refl

left_fits : (goes : Key × Value → Bool) (at : Key) (old : Option Value) → IfSome old (Fits at)
    → IfSome (left_of goes at old) (Fits at)
left_fits goes at None fit = fit
left_fits goes at (Some v) fit = by (goes (at, v))
  where
    by : (b : Bool) → IfSome (cond b None (Some v)) (Fits at)
    by true = tt
    by false = fit

-- sound rows stay so without the rows that pass a closed test
pub sound_without : (goes : Key × Value → Bool) (rows later : Rows) → AreSound rows → IsClosed goes → AreSorted later
    → ((at : Key) → value_of later at ≡ left_of goes at (value_of rows at)) → AreSound later
sound_without goes rows later sound closed sorted left = record {
  sorted = sorted;
  fit = λ at. rw (left at) (left_fits goes at (value_of rows at) (sound.fit at));
  epoch = rw (left key.Epoch) (left_stays goes key.Epoch (value_of rows key.Epoch) closed.epoch sound.epoch);
  window = rw (left key.Window) (left_stays goes key.Window (value_of rows key.Window) closed.window sound.window);
  declared = λ at v is. declared at v is;
  one_pid = λ net first second prefix f s. sound.one_pid net first second prefix (had (key.Prefix net first prefix) f)
      (had (key.Prefix net second prefix) s);
}
  where
    had : (at : Key) → has_row later at ≡ true → has_row rows at ≡ true
    had at h = left_had goes at (value_of rows at) (sym (ap is_some (left at)) ∙ h)

    each : (at : Key) (v : Value) → goes (at, v) ≡ false → (keys : List Key)
        → ((need : Key) → is_among need keys ≡ true → is_among need (needs at v) ≡ true)
        → HaveRows rows keys → HaveRows later keys
    each at v stays [] among have = tt
    each at v stays (need ∷ keys) among have = (
      rw (left need) (left_stays goes need (value_of rows need)
          (λ w. closed.needs at need v w stays (among need (among_first need keys))) have.0),
      each at v stays keys (λ other h. among other (or_right (is_eq (key_cmp other need)) (is_among other keys) h))
          have.1,
    )

    declared : (at : Key) (v : Value) → value_of later at ≡ Some v
        → All (λ need. has_row later need ≡ true) (needs at v)
    declared at v is =
        let was : (value_of rows at ≡ Some v) × (goes (at, v) ≡ false) =
        left_was goes at (value_of rows at) v (sym (left at) ∙ is) in
        All-from_recursion (λ (need : Key). has_row later need ≡ true) (needs at v)
        (each at v was.1 (needs at v) (λ need h. h) (recursion_from_All (λ (need : Key). has_row rows need ≡ true)
        (needs at v) (sound.declared at v was.0)))

-- ---- other versions

-- a key is that of a version
abbrev pub is_version : Key → Bool
is_version (key.Seq of) = true
is_version _ = false

-- what declares is no version
declares_no_version : (at : Key) → declares at ≡ true → is_version at ≡ false
declares_no_version (key.Seq of) h = cc
declares_no_version _ h = refl

-- sound rows stay so when only versions change, to ones that fit
pub sound_versions : (rows later : Rows) → AreSound rows → AreSorted later
    → ((at : Key) → is_version at ≡ false → value_of later at ≡ value_of rows at)
    → ((of : Resource) → IfSome (value_of later (key.Seq of)) (Fits (key.Seq of))) → AreSound later
sound_versions rows later sound sorted same fit = record {
  sorted = sorted;
  fit = fits;
  epoch = ap is_some (same key.Epoch refl) ∙ sound.epoch;
  window = ap is_some (same key.Window refl) ∙ sound.window;
  declared = λ at v is. All-from_recursion (λ (need : Key). has_row later need ≡ true) (needs at v) (declared at v is);
  one_pid = λ net first second prefix f s. sound.one_pid net first second prefix
      (ap is_some (sym (same (key.Prefix net first prefix) refl)) ∙ f)
      (ap is_some (sym (same (key.Prefix net second prefix) refl)) ∙ s);
}
  where
    fits : (at : Key) → IfSome (value_of later at) (Fits at)
    fits (key.Seq of) = fit of
    fits at = rw (same at refl) (sound.fit at)

    stay : (keys : List Key) → AllByRecursion (λ need. declares need ≡ true) keys → HaveRows rows keys
        → HaveRows later keys
    stay [] declare have = tt
    stay (need ∷ keys) declare have =
        (ap is_some (same need (declares_no_version need declare.0)) ∙ have.0, stay keys declare.1 have.1)

    had : (at : Key) (v : Value) → value_of rows at ≡ Some v → HaveRows later (needs at v)
    had at v is =
        stay (needs at v) (needs_declare at v) (recursion_from_All (λ (need : Key). has_row rows need ≡ true)
        (needs at v) (sound.declared at v is))

    declared : (at : Key) (v : Value) → value_of later at ≡ Some v → HaveRows later (needs at v)
    declared (key.Seq of) v is = tt
    declared at v is = had at v (sym (same at refl) ∙ is)

-- the key of a row that fits has names of their alphabets
key_fits : (at : Key) (o : Option Value) → is_some o ≡ true → IfSome o (Fits at) → IsKey at
key_fits at None h fit = cc
key_fits at (Some v) h fit = fit.0

-- the names of a declared resource are of their alphabets
pub resource_fits : (rows : Rows) (of : Resource) → AreSound rows → is_declared rows of ≡ true → IsResource of
resource_fits rows (resource.Net net) sound h =
    key_fits (key.Net net) (value_of rows (key.Net net)) h (sound.fit (key.Net net))
resource_fits rows (resource.Cost net metric) sound h =
    key_fits (key.Metric net metric) (value_of rows (key.Metric net metric)) h (sound.fit (key.Metric net metric))
resource_fits rows (resource.Prop net) sound h =
    key_fits (key.Net net) (value_of rows (key.Net net)) h (sound.fit (key.Net net))
