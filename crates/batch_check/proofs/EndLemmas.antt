-- The version rows of a batch, and the end of its writes.
use Rattle.std.proofs.Common.{◌≡◌, refl, ap, sym, ◌∙◌, arith, subst}
use Rattle.std.proofs.Math.Seq.{drop-append_seam, take-append_seam}
use Rattle.std.proofs.lemmas.Bool.{and_from, and_parts, eq-eqb, eqb-true, le-leb}
use Rattle.std.proofs.lemmas.List.{append-nil, length-append, take-append-drop}
use Rattle.std.proofs.lemmas.List.Elements.{filter-append}
use Rattle.std.specs.Prelude.{ℕ, ◌+◌, ◌-◌, Bool, true, false, not, cond, ◌&&◌, ◌==◌, nat_le, Decides, List, [], ◌∷◌}
use Rattle.std.specs.Prelude.{◌++◌, length, take, drop, filter, map, Option, Some, None, is_some}
use Rattle.std.specs.BTreeSet.{BTreeSet, IsOrdered}
use Rattle.std.specs.Cmp.Lexicographic.{pointwise}
use Rattle.std.specs.Ordering.{is_eq}
use Rattle.alto_rows.specs.declared.key.Key.{Key}
use Rattle.alto_rows.specs.declared.key.Key.TheVariants as key
use Rattle.alto_rows.specs.declared.resource.Resource.{Resource}
use Rattle.alto_rows.specs.declared.resource.Resource.TheVariants as resource
use Rattle.alto_rows.specs.declared.value.Value.{Value}
use Rattle.alto_rows.specs.declared.value.Value.TheVariants as value
use Rattle.alto_rows.specs.declared.write.Write.{Write}
use Rattle.alto_rows.specs.Order.{key_cmp, resource_cmp}
use Rattle.alto_rows.specs.Rows.{Rows, AreSorted, value_of, after}
use Rattle.alto_rows.specs.Versions.{is_declared, number_in, resources_of, version_of}
use Rattle.alto_rows.proofs.OrderLemmas.{key_cmp_itself, one_key}
use Rattle.alto_rows.proofs.WriteLemmas.{value_after, value_of-after}
use Rattle.alto_edits.specs.Versions.{is_touched, next_version, sequence_writes}
use Rattle.batch_check.specs.Rules.{is_version, edits_in, KeepsVersions}
use Rattle.batch_check.specs.Touched.{HasTouched, are_edits, ends_in, gives_version}
use Rattle.batch_check.proofs.TouchedLemmas.{touched_in_order}

-- ---- what is declared after a batch

-- a key of another kind is no version's
other_kind : (one : Key) (of : Resource) → is_version one ≡ false → is_eq (key_cmp one (key.Seq of)) ≡ false
unfolding key_cmp
other_kind (key.Seq one) of e = cc
other_kind _ of e = refl

-- the key of a version is no other
apart : (one other : Key) → is_version one ≡ false → is_version other ≡ true → is_eq (key_cmp one other) ≡ false
apart one (key.Seq of) e f = other_kind one of e
apart one _ e f = cc

-- the version rows of a batch write no other key
value_after-edits : (writes : List Write) (old : Option Value) (at : Key) → is_version at ≡ false
    → value_after old writes at ≡ value_after old (edits_in writes) at
value_after-edits [] old at h = refl
value_after-edits (write ∷ writes) old at h = by (λ v. value_after-edits writes v at h) (is_version write.key) refl
  where
    by : ((v : Option Value) → value_after v writes at ≡ value_after v (edits_in writes) at) → (b : Bool)
        → is_version write.key ≡ b
        → value_after (cond (is_eq (key_cmp at write.key)) write.value old) writes at
        ≡ value_after old (cond (not b) (write ∷ edits_in writes) (edits_in writes)) at
    by more true e = rw (apart at write.key h e) (more old)
    by more false e = more (cond (is_eq (key_cmp at write.key)) write.value old)

-- so all rows but versions are as the edits of a batch leave them
pub value_of-edits_in : (rows : Rows) (writes : List Write) (at : Key) → AreSorted rows → is_version at ≡ false
    → value_of (after rows writes) at ≡ value_of (after rows (edits_in writes)) at
value_of-edits_in rows writes at s h =
    value_of-after rows writes at s
    ∙ (value_after-edits writes (value_of rows at) at h ∙ sym (value_of-after rows (edits_in writes) at s))

-- and what is declared
is_declared-edits_in : (rows : Rows) (writes : List Write) (of : Resource) → AreSorted rows
    → is_declared (after rows writes) of ≡ is_declared (after rows (edits_in writes)) of
is_declared-edits_in rows writes (resource.Net net) s = ap is_some (value_of-edits_in rows writes (key.Net net) s refl)
is_declared-edits_in rows writes (resource.Cost net metric) s =
    ap is_some (value_of-edits_in rows writes (key.Metric net metric) s refl)
is_declared-edits_in rows writes (resource.Prop net) s = ap is_some (value_of-edits_in rows writes (key.Net net) s refl)

-- two tests that agree pick the same
picked : (p q : Resource → Bool) → ((of : Resource) → p of ≡ q of) → (ofs : List Resource) → filter p ofs ≡ filter q ofs
picked p q same [] = refl
picked p q same (of ∷ ofs) = rw (same of, picked p q same ofs) refl

-- the version rows of the declared ones among what the edits of a batch touch are those of the edits
pub batch_versions : (rows next : Rows) (writes : List Write) (all : BTreeSet Resource) → AreSorted rows
    → next ≡ after rows writes
    → IsOrdered resource_cmp all → HasTouched rows (edits_in writes) all
    → map (next_version rows) (filter (is_declared next) all.keys) ≡ sequence_writes rows (edits_in writes)
batch_versions rows next writes all s is ordered touched =
    ap (map (next_version rows))
    (picked (is_declared next) (is_declared (after rows (edits_in writes)))
    (λ of. ap (λ (r : Rows). is_declared r of) is ∙ is_declared-edits_in rows writes of s) all.keys
    ∙ touched_in_order rows (edits_in writes) all s ordered touched)

-- ---- one version row

-- a number that isn't 0 is in one value alone
only_number : (v : Option Value) (n : ℕ) → number_in v ≡ n + 1 → v ≡ Some (value.Num (n + 1))
only_number None n h = absurd (omega (arith, h))
only_number (Some (value.Num m)) n h = ap (λ (k : ℕ). Some (value.Num k)) h
only_number (Some value.Unit) n h = absurd (omega (arith, h))
only_number (Some (value.Text text)) n h = absurd (omega (arith, h))
only_number (Some (value.Names names)) n h = absurd (omega (arith, h))

-- a write of a key
abbrev writing : Key → Option Value → Write
writing at v = record { key = at; value = v }

-- a write that gives the next version of a resource is that write
gives_exact : (rows : Rows) (write : Write) (of : Resource) → gives_version write (next_version rows of) ≡ true
    → write ≡ next_version rows of
gives_exact rows write of h =
    let both = and_parts (is_eq (key_cmp write.key (key.Seq of)))
    (number_in write.value == (version_of rows of + 1)) h in
    let at : write.key ≡ key.Seq of = one_key write.key (key.Seq of) both.0 in
    let v : write.value ≡ Some (value.Num (version_of rows of + 1)) =
    only_number write.value (version_of rows of) (eqb-true (number_in write.value) (version_of rows of + 1) both.1) in
    ap (λ (k : Key). writing k write.value) at ∙ ap (writing (key.Seq of)) v

-- and that write gives it
gives_itself : (rows : Rows) (of : Resource) → gives_version (next_version rows of) (next_version rows of) ≡ true
gives_itself rows of = rw (key_cmp_itself (key.Seq of)) (eq-eqb (version_of rows of + 1) (version_of rows of + 1) refl)

-- ---- all of them

-- writes that give the next versions of resources, one by one, are the version rows
all_exact : (rows : Rows) (writes : List Write) (ofs : List Resource)
    → pointwise gives_version writes (map (next_version rows) ofs) ≡ true
    → writes ≡ map (next_version rows) ofs
all_exact rows [] [] h = refl
all_exact rows [] (of ∷ ofs) h = cc
all_exact rows (write ∷ writes) [] h = cc
all_exact rows (write ∷ writes) (of ∷ ofs) h =
    let both = and_parts (gives_version write (next_version rows of))
    (pointwise gives_version writes (map (next_version rows) ofs)) h in
    rw (gives_exact rows write of both.0, all_exact rows writes ofs both.1) refl

-- and version rows give them
all_give : (rows : Rows) (ofs : List Resource)
    → pointwise gives_version (map (next_version rows) ofs) (map (next_version rows) ofs) ≡ true
all_give rows [] = refl
all_give rows (of ∷ ofs) = and_from _ _ (gives_itself rows of) (all_give rows ofs)

-- none of them is an edit
no_edits : (rows : Rows) (ofs : List Resource) → edits_in (map (next_version rows) ofs) ≡ []
no_edits rows [] = refl
no_edits rows (of ∷ ofs) = no_edits rows ofs

-- the edits of writes none of which is of a version are these
all_edits : (writes : List Write) → are_edits writes ≡ true → edits_in writes ≡ writes
all_edits [] h = refl
all_edits (write ∷ writes) h =
    let both = and_parts (not (is_version write.key)) (are_edits writes) h in
    rw (both.0) (ap (λ (rest : List Write). write ∷ rest) (all_edits writes both.1))

-- the edits of a batch are of no version
pub edits_are : (writes : List Write) → are_edits (edits_in writes) ≡ true
edits_are [] = refl
edits_are (write ∷ writes) = by (edits_are writes) (not (is_version write.key)) refl
  where
    by : are_edits (edits_in writes) ≡ true → (b : Bool) → not (is_version write.key) ≡ b
        → are_edits (cond b (write ∷ edits_in writes) (edits_in writes)) ≡ true
    by more true e = and_from (not (is_version write.key)) (are_edits (edits_in writes)) e more
    by more false e = more

-- writes that end in their version rows
ends_back : (rows : Rows) (edits : List Write) (ofs : List Resource) → are_edits edits ≡ true
    → ends_in (edits ++ map (next_version rows) ofs) (map (next_version rows) ofs) ≡ true
ends_back rows edits ofs are =
    let whole : length (edits ++ map (next_version rows) ofs) ≡ length edits + length (map (next_version rows) ofs) =
    length-append edits (map (next_version rows) ofs) in
    let front : length (edits ++ map (next_version rows) ofs) - length (map (next_version rows) ofs) ≡ length edits =
    omega (arith, whole) in
    and_from _ _ (le-leb (length (map (next_version rows) ofs)) (length (edits ++ map (next_version rows) ofs))
    (omega (arith, whole)))
    (rw (
      front,
      take-append_seam edits (map (next_version rows) ofs),
      drop-append_seam edits (map (next_version rows) ofs),
    ) (and_from _ _ are (all_give rows ofs)))

-- the end of a batch tells whether its version rows are those of its edits
pub ends_tell : (rows : Rows) (writes versions : List Write) → versions ≡ sequence_writes rows (edits_in writes)
    → Decides (ends_in writes versions) (KeepsVersions rows writes)
ends_tell rows writes versions is = (there, back)
  where
    ofs : List Resource
    ofs = filter (is_touched (edits_in writes)) (resources_of (after rows (edits_in writes)))

    there : ends_in writes versions ≡ true → KeepsVersions rows writes
    there h =
        let k : ℕ = length writes - length versions in
        let rest = and_parts (nat_le (length versions) (length writes))
        (are_edits (take k writes) && pointwise gives_version (drop k writes) versions) h in
        let both = and_parts (are_edits (take k writes)) (pointwise gives_version (drop k writes) versions) rest.1 in
        let end : drop k writes ≡ map (next_version rows) ofs =
        all_exact rows (drop k writes) ofs (ap (λ (w : List Write). pointwise gives_version (drop k writes) w)
        (sym is) ∙ both.1) in
        let own : edits_in writes ≡ take k writes =
        ap edits_in (sym (take-append-drop k writes))
        ∙ (filter-append (λ write. not (is_version write.key)) (take k writes) (drop k writes)
        ∙ (ap (λ (w : List Write). edits_in (take k writes) ++ edits_in w) end
        ∙ (rw (no_edits rows ofs, all_edits (take k writes) both.0) (append-nil (take k writes))))) in
        sym (take-append-drop k writes)
        ∙ (ap (λ (w : List Write). take k writes ++ w) end
        ∙ ap (λ (w : List Write). w ++ map (next_version rows) ofs) (sym own))

    back : KeepsVersions rows writes → ends_in writes versions ≡ true
    back keeps = subst (λ (w : List Write). ends_in w versions ≡ true) (sym keeps)
        (rw is (ends_back rows (edits_in writes) ofs (edits_are writes)))
