-- What the version rows of a batch do: a touched resource that is declared gets its next version, and all else stays.
use Rattle.std.proofs.Common.{◌≡◌, refl, ap, sym, ◌∙◌}
use Rattle.std.proofs.lemmas.Bool.{both_ways, or_left, or_parts, or_right}
use Rattle.std.specs.Prelude.{Bool, true, false, cond, ◌||◌, ◌&&◌, ◌+◌, List, [], ◌∷◌, ◌++◌, map, filter, Option, Some}
use Rattle.std.specs.Prelude.{is_some}
use Rattle.std.specs.List.{AllByRecursion}
use Rattle.std.specs.Ordering.{is_eq}
use Rattle.alto_rows.proofs.OrderLemmas.{one_key}
use Rattle.alto_rows.proofs.ResourceLemmas.{resources_found}
use Rattle.alto_rows.proofs.TouchesLemmas.{same_name_itself}
use Rattle.alto_rows.proofs.WriteLemmas.{value_of-with_value, value_of-after-none, sorted_with_value, sorted_after}
use Rattle.alto_rows.proofs.WriteLemmas.{after-append, NoneWrites}
use Rattle.alto_rows.specs.declared.key.Key.{Key}
use Rattle.alto_rows.specs.declared.key.Key.TheVariants as key
use Rattle.alto_rows.specs.declared.resource.Resource.{Resource}
use Rattle.alto_rows.specs.declared.resource.Resource.TheVariants as resource
use Rattle.alto_rows.specs.declared.value.Value.{Value}
use Rattle.alto_rows.specs.declared.value.Value.TheVariants as value
use Rattle.alto_rows.specs.declared.write.Write.{Write}
use Rattle.alto_rows.specs.Order.{key_cmp, resource_cmp}
use Rattle.alto_rows.specs.Rows.{Rows, AreSorted, value_of, has_row, with_value, after}
use Rattle.alto_rows.specs.Touches.{touches}
use Rattle.alto_rows.specs.Versions.{is_declared, resources_of, version_of}
use Rattle.alto_rows.proofs.DeletionLemmas.{is_written_at}
use Rattle.alto_rows.proofs.SoundLemmas.{is_version}
use Rattle.alto_rows.proofs.StandsLemmas.{tied_resource, stands, stands-filter}
use Rattle.alto_edits.specs.Laws.{IsOfEdit, FitsEdit}
use Rattle.alto_edits.specs.Versions.{is_written, is_touched, next_version, sequence_writes}

-- ---- the rows after the version rows

-- no version row is of the key
abbrev pub IsNoVersion : Key → Type 0
IsNoVersion at = (of : Resource) → is_eq (key_cmp at (key.Seq of)) ≡ false

-- of another kind of key none is
pub no_version : (at : Key) → is_version at ≡ false → IsNoVersion at
unfolding key_cmp
no_version (key.Seq one) h of = cc
no_version _ h of = refl

-- the next version of a resource, by the rows before
abbrev pub next_of : Rows → Resource → Option Value
next_of rows of = Some (value.Num (version_of rows of + 1))

-- the version of a resource once it was written for one resource and perhaps for more
step : (rows : Rows) (of one : Resource) (old : Option Value) (later c : Bool) → is_eq (resource_cmp of one) ≡ c
    → cond later (next_of rows of) (cond c (next_of rows one) old) ≡ cond (c || later) (next_of rows of) old
step rows of one old true true e = refl
step rows of one old true false e = refl
step rows of one old false true e = ap (next_of rows) (sym (tied_resource of one e))
step rows of one old false false e = refl

-- after the version rows of resources, each of these has its next version
value_of-versions : (rows : Rows) (ofs : List Resource) (base : Rows) (of : Resource) → AreSorted base
    → value_of (after base (map (next_version rows) ofs)) (key.Seq of)
    ≡ cond (stands of ofs) (next_of rows of) (value_of base (key.Seq of))
unfolding key_cmp
value_of-versions rows [] base of s = refl
value_of-versions rows (one ∷ ofs) base of s =
    value_of-versions rows ofs (with_value base (key.Seq one) (next_of rows one))
    of (sorted_with_value base (key.Seq one) (next_of rows one) s)
    ∙ ap (cond (stands of ofs) (next_of rows of))
    (value_of-with_value base (key.Seq one) (next_of rows one) (key.Seq of) s)
    ∙ step rows of one (value_of base (key.Seq of)) (stands of ofs) (is_eq (resource_cmp of one)) refl

-- version rows are of no other key
none_versions : (rows : Rows) (ofs : List Resource) (at : Key) → IsNoVersion at
    → NoneWrites at (map (next_version rows) ofs)
none_versions rows [] at no_version = tt
none_versions rows (one ∷ ofs) at no_version = (no_version one, none_versions rows ofs at no_version)

-- a key that edits may write is no version's
edit_apart : (at : Key) (of : Resource) → IsOfEdit at → is_eq (key_cmp (key.Seq of) at) ≡ false
unfolding key_cmp
edit_apart (key.Seq one) of h = absurd h
edit_apart _ of h = refl

-- the writes of edits are of no version row
none_edits : (edits : List Write) (of : Resource) → AllByRecursion FitsEdit edits → NoneWrites (key.Seq of) edits
none_edits [] of all = tt
none_edits (write ∷ edits) of all = (edit_apart write.key of all.0.0, none_edits edits of all.1)

-- writes of edits leave the versions
pub value_of-edits : (rows : Rows) (edits : List Write) (of : Resource) → AreSorted rows → AllByRecursion FitsEdit edits
    → value_of (after rows edits) (key.Seq of) ≡ value_of rows (key.Seq of)
value_of-edits rows edits of s all = value_of-after-none rows edits (key.Seq of) s (none_edits edits of all)

-- the version row of a resource after a batch
pub value_of-batch : (rows : Rows) (edits : List Write) (of : Resource) → AreSorted rows → AllByRecursion FitsEdit edits
    → value_of (after rows (edits ++ sequence_writes rows edits)) (key.Seq of)
    ≡ cond (is_touched edits of && is_declared (after rows edits) of) (next_of rows of) (value_of rows (key.Seq of))
value_of-batch rows edits of s all =
    rw (
      after-append rows edits (sequence_writes rows edits),
      value_of-versions rows (filter (is_touched edits) (resources_of (after rows edits))) (after rows edits)
          of (sorted_after rows edits s),
      stands-filter (is_touched edits) of (resources_of (after rows edits)),
      resources_found (after rows edits) of,
      value_of-edits rows edits of s all,
    ) refl

-- any other row is after a batch as its edits left it
pub value_of-batch_other : (rows : Rows) (edits : List Write) (at : Key) → AreSorted rows → IsNoVersion at
    → value_of (after rows (edits ++ sequence_writes rows edits)) at ≡ value_of (after rows edits) at
value_of-batch_other rows edits at s no_version =
    rw (after-append rows edits (sequence_writes rows edits))
    (value_of-after-none (after rows edits) (sequence_writes rows edits) at (sorted_after rows edits s)
    (none_versions rows (filter (is_touched edits) (resources_of (after rows edits))) at no_version))

-- a resource is declared after a batch where it is after its edits
pub is_declared-batch : (rows : Rows) (edits : List Write) (of : Resource) → AreSorted rows
    → is_declared (after rows (edits ++ sequence_writes rows edits)) of ≡ is_declared (after rows edits) of
is_declared-batch rows edits (resource.Net net) s =
    ap is_some (value_of-batch_other rows edits (key.Net net) s (no_version (key.Net net) refl))
is_declared-batch rows edits (resource.Cost net metric) s =
    ap is_some (value_of-batch_other rows edits (key.Metric net metric) s (no_version (key.Metric net metric) refl))
is_declared-batch rows edits (resource.Prop net) s =
    ap is_some (value_of-batch_other rows edits (key.Net net) s (no_version (key.Net net) refl))

-- ---- what is newly declared is touched

-- where no write is of the key
none_written : (at : Key) (writes : List Write) → is_written_at at writes ≡ false → NoneWrites at writes
none_written at [] h = tt
none_written at (write ∷ writes) h =
    let parts : (is_eq (key_cmp at write.key) ≡ false) × (is_written_at at writes ≡ false) =
    or_parts (is_eq (key_cmp at write.key)) (is_written_at at writes) h in
    (parts.0, none_written at writes parts.1)

-- a key that gains a row is written
gained_written : (rows : Rows) (writes : List Write) (at : Key) → AreSorted rows → has_row rows at ≡ false
    → has_row (after rows writes) at ≡ true
    → is_written_at at writes ≡ true
gained_written rows writes at s out now = by (is_written_at at writes) refl
  where
    by : (b : Bool) → is_written_at at writes ≡ b → b ≡ true
    by true e = refl
    by false e =
        absurd (both_ways (has_row rows at)
        out (ap is_some (sym (value_of-after-none rows writes at s (none_written at writes e))) ∙ now))

-- a write of a key that the resource is made of changes it
written_touches : (of : Resource) (at : Key) (writes : List Write) → touches of at ≡ true
    → is_written_at at writes ≡ true → is_written writes of ≡ true
written_touches of at [] t h = cc
written_touches of at (write ∷ writes) t h =
    by (λ g. written_touches of at writes t g) (is_eq (key_cmp at write.key)) refl h
  where
    by : (is_written_at at writes ≡ true → is_written writes of ≡ true) → (b : Bool) → is_eq (key_cmp at write.key) ≡ b
        → (b || is_written_at at writes) ≡ true
        → (touches of write.key || is_written writes of) ≡ true
    by more true e g = or_left (touches of write.key) (is_written writes of)
        (ap (touches of) (sym (one_key at write.key e)) ∙ t)
    by more false e g = or_right (touches of write.key) (is_written writes of) (more g)

-- a resource that the writes declare is touched
pub gained_touched : (rows : Rows) (writes : List Write) (of : Resource) → AreSorted rows → is_declared rows of ≡ false
    → is_declared (after rows writes) of ≡ true
    → is_touched writes of ≡ true
gained_touched rows writes (resource.Net net) s out now =
    or_left (is_written writes (resource.Net net)) (is_written writes (resource.Net net))
    (written_touches (resource.Net net) (key.Net net) writes (rw (same_name_itself net) refl)
    (gained_written rows writes (key.Net net) s out now))
gained_touched rows writes (resource.Cost net metric) s out now =
    or_left (is_written writes (resource.Cost net metric)) (is_written writes (resource.Net net))
    (written_touches (resource.Cost net metric) (key.Metric net metric)
    writes (rw (same_name_itself net, same_name_itself metric) refl)
    (gained_written rows writes (key.Metric net metric) s out now))
gained_touched rows writes (resource.Prop net) s out now =
    or_right (is_written writes (resource.Prop net)) (is_written writes (resource.Net net))
    (written_touches (resource.Net net) (key.Net net) writes (rw (same_name_itself net) refl)
    (gained_written rows writes (key.Net net) s out now))
