-- What a batch that follows rows gives a resource: its next number, where the edits touch it and it is declared; else
-- nothing that touches it.
use Rattle.std.proofs.Common.{◌≡◌, refl, ap, sym, ◌∙◌}
use Rattle.std.proofs.lemmas.Bool.{and_parts, both_ways, or_parts}
use Rattle.std.proofs.lemmas.List.{map-append}
use Rattle.std.proofs.lemmas.List.Elements.{filter-append}
use Rattle.std.proofs.lemmas.List.Folds.{list_any-append}
use Rattle.std.specs.Prelude.{ℕ, ◌+◌, ◌==◌, Bool, true, false, cond, ◌||◌, ◌&&◌, List, [], ◌∷◌, ◌++◌, map, filter}
use Rattle.std.specs.Prelude.{Option}
use Rattle.std.specs.BTreeMap.{is_at}
use Rattle.std.specs.List.{list_any}
use Rattle.std.specs.Ordering.{is_eq}
use Rattle.alto_rows.specs.declared.key.Key.{Key}
use Rattle.alto_rows.specs.declared.key.Key.TheVariants as key
use Rattle.alto_rows.specs.declared.resource.Resource.{Resource}
use Rattle.alto_rows.specs.declared.resource.Resource.TheVariants as resource
use Rattle.alto_rows.specs.declared.value.Value.{Value}
use Rattle.alto_rows.specs.declared.write.Write.{Write}
use Rattle.alto_rows.proofs.ResourceLemmas.{resources_found}
use Rattle.alto_rows.proofs.StandsLemmas.{tied_resource, stands, stands-filter}
use Rattle.alto_rows.proofs.TouchesLemmas.{one_name}
use Rattle.alto_rows.proofs.WriteLemmas.{NoneWrites}
use Rattle.alto_rows.specs.Accepted.{Accepted}
use Rattle.alto_rows.specs.Good.{AreGood}
use Rattle.alto_rows.specs.Order.{key_cmp, resource_cmp, net_of, same_name}
use Rattle.alto_rows.specs.Rows.{Rows, AreSorted, value_of, after}
use Rattle.alto_rows.specs.Touches.{touches}
use Rattle.alto_rows.specs.Versions.{number_in, is_declared, resources_of, version_of}
use Rattle.alto_edits.proofs.VersionLemmas.{next_of}
use Rattle.alto_edits.specs.Versions.{is_written, is_touched, next_version, sequence_writes}
use Rattle.alto_book.specs.Legal.{edits_in, Follows}
use Rattle.alto_book.specs.Numbers.{is_number, gives, renews, touching}
use Rattle.alto_book.proofs.BatchLemmas.{none_versions_edited, value_of-follows, is_declared-follows}
use Rattle.alto_book.proofs.BatchLemmas.{is_declared-untouched}

-- the edits of a batch raise a resource
abbrev pub raised : Rows → List Write → Resource → Bool
raised rows edits of = is_touched edits of && is_declared (after rows edits) of

-- ---- the version rows that a test finds

-- a test of a resource's version row and of its value
abbrev is_version_of : Resource → (Option Value → Bool) → Write → Bool
is_version_of of test write = is_at (key_cmp (key.Seq of)) write.key && test write.value

-- it finds none of other keys
none_found : (at : Key) (test : Option Value → Bool) (writes : List Write) → NoneWrites at writes
    → list_any (λ write. is_at (key_cmp at) write.key && test write.value) writes ≡ false
none_found at test [] none = refl
none_found at test (write ∷ writes) none = rw none.0 (none_found at test writes none.1)

-- of version rows it finds that of the resource
found_among : (rows : Rows) (of : Resource) (test : Option Value → Bool) (ofs : List Resource)
    → list_any (is_version_of of test) (map (next_version rows) ofs) ≡ (stands of ofs && test (next_of rows of))
unfolding key_cmp
found_among rows of test [] = refl
found_among rows of test (one ∷ ofs) =
    by (is_eq (resource_cmp of one)) refl (test (next_of rows of)) refl (found_among rows of test ofs)
  where
    by : (c : Bool) → is_eq (resource_cmp of one) ≡ c → (t : Bool) → test (next_of rows of) ≡ t
        → list_any (is_version_of of test) (map (next_version rows) ofs) ≡ (stands of ofs && test (next_of rows of))
        → (is_eq (resource_cmp of one) && test (next_of rows one) || list_any (is_version_of of test)
        (map (next_version rows) ofs))
        ≡ ((is_eq (resource_cmp of one) || stands of ofs) && test (next_of rows of))
    by true e t f below =
        let same : test (next_of rows one) ≡ t =
        ap (λ (r : Resource). test (next_of rows r)) (sym (tied_resource of one e)) ∙ f in
        rw (e, same, below, f) (ends t (stands of ofs))
      where
        ends : (t s : Bool) → (t || (s && t)) ≡ t
        ends true s = refl
        ends false true = refl
        ends false false = refl
    by false e t f below = rw e below

-- in a batch it finds the next version, where the edits raise the resource
found_in : (rows : Rows) (batch : Accepted) (of : Resource) (test : Option Value → Bool) → Follows rows batch
    → list_any (is_version_of of test) batch.writes ≡ (raised rows (edits_in batch.writes) of && test (next_of rows of))
found_in rows batch of test follows =
    ap (list_any (is_version_of of test)) follows.whole
    ∙ (list_any-append (is_version_of of test) edits (sequence_writes rows edits)
    ∙ (rw (none_found (key.Seq of) test edits (none_versions_edited batch.writes of))
    (found_among rows of test (filter (is_touched edits) (resources_of (after rows edits)))
    ∙ ap (λ (b : Bool). b && test (next_of rows of)) standing)))
  where
    edits : List Write
    edits = edits_in batch.writes

    standing : stands of (filter (is_touched edits) (resources_of (after rows edits))) ≡ raised rows edits of
    standing = stands-filter (is_touched edits) of (resources_of (after rows edits))
        ∙ ap (λ (b : Bool). is_touched edits of && b) (resources_found (after rows edits) of)

-- a batch gives the next number of a resource that its edits raise, and no other
pub gives-batch : (rows : Rows) (batch : Accepted) (of : Resource) (number : ℕ) → Follows rows batch
    → gives of number batch ≡ (raised rows (edits_in batch.writes) of && version_of rows of + 1 == number)
gives-batch rows batch of number follows = found_in rows batch of (is_number number) follows

with_true : (b : Bool) → (b && true) ≡ b
with_true true = refl
with_true false = refl

any_value : (test : Write → Bool) (writes : List Write)
    → list_any test writes ≡ list_any (λ write. test write && true) writes
any_value test [] = refl
any_value test (write ∷ writes) =
    rw (with_true (test write)) (ap (λ (b : Bool). test write || b) (any_value test writes))

-- a batch gives a number exactly to the resources that its edits raise
pub renews-batch : (rows : Rows) (batch : Accepted) (of : Resource) → Follows rows batch
    → renews of batch ≡ raised rows (edits_in batch.writes) of
renews-batch rows batch of follows =
    any_value (λ (write : Write). is_at (key_cmp (key.Seq of)) write.key) batch.writes
    ∙ (found_in rows batch of (λ _. true) follows ∙ with_true (raised rows (edits_in batch.writes) of))

-- the version after a batch
pub version_of-renewed : (rows : Rows) (batch : Accepted) (of : Resource) → AreSorted rows → Follows rows batch
    → version_of (after rows batch.writes) of ≡ cond (renews of batch) (version_of rows of + 1) (version_of rows of)
version_of-renewed rows batch of s follows =
    rw (renews-batch rows batch of follows)
    (ap number_in (value_of-follows rows batch of s follows) ∙ by (raised rows (edits_in batch.writes) of))
  where
    by : (b : Bool) → number_in (cond b (next_of rows of) (value_of rows (key.Seq of)))
        ≡ cond b (version_of rows of + 1) (version_of rows of)
    by true = refl
    by false = refl

-- a resource that a batch gives a number is declared after it
pub declared_renewed : (rows : Rows) (batch : Accepted) (of : Resource) → AreGood rows → Follows rows batch
    → renews of batch ≡ true
    → is_declared (after rows batch.writes) of ≡ true
declared_renewed rows batch of good follows h =
    let both : raised rows (edits_in batch.writes) of ≡ true = sym (renews-batch rows batch of follows) ∙ h in
    is_declared-follows rows batch of good.sorted follows
    ∙ (and_parts (is_touched (edits_in batch.writes) of) (is_declared (after rows (edits_in batch.writes)) of) both).1

-- ---- what a batch that doesn't touch a resource writes

-- writes none of which touch a resource have no keys that do
pub none_touching : (of : Resource) (writes : List Write) → is_written writes of ≡ false → touching of writes ≡ []
none_touching of [] h = refl
none_touching of (write ∷ writes) h = by (λ g. none_touching of writes g) (touches of write.key) refl h
  where
    by : (is_written writes of ≡ false → touching of writes ≡ []) → (b : Bool) → touches of write.key ≡ b
        → (b || is_written writes of) ≡ false
        → touching of (write ∷ writes) ≡ []
    by below true e g = cc
    by below false e g = rw e (below g)

-- and writes that have no such keys touch nothing of it
pub none_written : (of : Resource) (writes : List Write) → touching of writes ≡ [] → is_written writes of ≡ false
none_written of [] h = refl
none_written of (write ∷ writes) h = by (λ g. none_written of writes g) (touches of write.key) refl h
  where
    by : (touching of writes ≡ [] → is_written writes of ≡ false) → (b : Bool) → touches of write.key ≡ b
        → touching of (write ∷ writes) ≡ []
        → (b || is_written writes of) ≡ false
    by below true e g = let some : write.key ∷ touching of writes ≡ [] = rw e at g in cc
    by below false e g = below (rw e at g)

-- edits that don't touch a resource don't write it
unwritten : (edits : List Write) (of : Resource) → is_touched edits of ≡ false → is_written edits of ≡ false
unwritten edits of h = (or_parts (is_written edits of) (is_written edits (resource.Net (net_of of))) h).0

-- nor is the version of a resource that they touch of it
other_version : (edits : List Write) (of one : Resource) → is_touched edits of ≡ false → is_touched edits one ≡ true
    → touches of (key.Seq one) ≡ false
other_version edits of (resource.Net other) h g = by (same_name (net_of of) other) refl
  where
    by : (b : Bool) → same_name (net_of of) other ≡ b → same_name (net_of of) other ≡ false
    by true e =
        let same : net_of of ≡ other = one_name (net_of of) other e in
        let none : is_written edits (resource.Net (net_of of)) ≡ false =
        (or_parts (is_written edits of) (is_written edits (resource.Net (net_of of))) h).1 in
        let here : is_written edits (resource.Net other) ≡ false = rw same at none in
        let never : is_touched edits (resource.Net other) ≡ false = rw here refl in
        absurd (both_ways (is_touched edits (resource.Net other)) never g)
    by false e = e
other_version edits of _ h g = refl

-- so no version row of a batch touches a resource that its edits don't
versions_untouched : (rows : Rows) (edits : List Write) (of : Resource) (ofs : List Resource)
    → is_touched edits of ≡ false
    → touching of (map (next_version rows) (filter (is_touched edits) ofs)) ≡ []
versions_untouched rows edits of [] h = refl
versions_untouched rows edits of (one ∷ ofs) h = by (is_touched edits one) refl (versions_untouched rows edits of ofs h)
  where
    by : (b : Bool) → is_touched edits one ≡ b
        → touching of (map (next_version rows) (filter (is_touched edits) ofs)) ≡ []
        → touching of (map (next_version rows) (filter (is_touched edits) (one ∷ ofs))) ≡ []
    by true e below = rw (e, other_version edits of one h e) below
    by false e below = rw e below

-- the keys of writes in two parts that touch a resource
pub touching-append : (of : Resource) (first second : List Write)
    → touching of (first ++ second) ≡ touching of first ++ touching of second
touching-append of first second =
    ap (filter (touches of)) (map-append (λ (write : Write). write.key) first second)
    ∙ filter-append (touches of) (map (λ (write : Write). write.key) first) (map (λ (write : Write). write.key) second)

-- a batch whose edits don't touch a resource writes no key that does
pub untouched_batch : (rows : Rows) (batch : Accepted) (of : Resource) → Follows rows batch
    → is_touched (edits_in batch.writes) of ≡ false
    → touching of batch.writes ≡ []
untouched_batch rows batch of follows h =
    ap (touching of) follows.whole
    ∙ (touching-append of (edits_in batch.writes) (sequence_writes rows (edits_in batch.writes))
    ∙ rw (none_touching of (edits_in batch.writes) (unwritten (edits_in batch.writes) of h))
    (versions_untouched rows (edits_in batch.writes) of (resources_of (after rows (edits_in batch.writes))) h))

-- ---- a batch that gives a declared resource no number

-- its edits don't touch the resource
pub untouched_quiet : (rows : Rows) (batch : Accepted) (of : Resource) → AreGood rows → Follows rows batch
    → is_declared (after rows batch.writes) of ≡ true
    → renews of batch ≡ false → is_touched (edits_in batch.writes) of ≡ false
untouched_quiet rows batch of good follows declared h = by (is_touched (edits_in batch.writes) of) refl
  where
    stays : is_declared (after rows (edits_in batch.writes)) of ≡ true
    stays = sym (is_declared-follows rows batch of good.sorted follows) ∙ declared

    by : (b : Bool) → is_touched (edits_in batch.writes) of ≡ b → is_touched (edits_in batch.writes) of ≡ false
    by true e =
        let given : renews of batch ≡ true = renews-batch rows batch of follows ∙ rw (e, stays) refl in
        absurd (both_ways (renews of batch) h given)
    by false e = e

-- so it writes no key that touches it
pub quiet_batch : (rows : Rows) (batch : Accepted) (of : Resource) → AreGood rows → Follows rows batch
    → is_declared (after rows batch.writes) of ≡ true
    → renews of batch ≡ false → touching of batch.writes ≡ []
quiet_batch rows batch of good follows declared h =
    untouched_batch rows batch of follows (untouched_quiet rows batch of good follows declared h)

-- and the resource was declared before
pub declared_quiet : (rows : Rows) (batch : Accepted) (of : Resource) → AreGood rows → Follows rows batch
    → is_declared (after rows batch.writes) of ≡ true
    → renews of batch ≡ false → is_declared rows of ≡ true
declared_quiet rows batch of good follows declared h =
    sym (is_declared-untouched rows (edits_in batch.writes) of
    good.sorted (untouched_quiet rows batch of good follows declared h))
    ∙ (sym (is_declared-follows rows batch of good.sorted follows) ∙ declared)

-- ---- which batches give a resource a number

-- one that declares it
pub renews_declared : (rows : Rows) (batch : Accepted) (of : Resource) → AreGood rows → Follows rows batch
    → is_declared rows of ≡ false
    → is_declared (after rows batch.writes) of ≡ true → renews of batch ≡ true
renews_declared rows batch of good follows out now = by (renews of batch) refl
  where
    by : (b : Bool) → renews of batch ≡ b → b ≡ true
    by true e = refl
    by false e = absurd (both_ways (is_declared rows of) out (declared_quiet rows batch of good follows now e))

-- one that writes a key that touches it, where it is declared afterwards
pub renews_written : (rows : Rows) (batch : Accepted) (of : Resource) → AreGood rows → Follows rows batch
    → is_declared (after rows batch.writes) of ≡ true
    → is_written batch.writes of ≡ true → renews of batch ≡ true
renews_written rows batch of good follows now written = by (renews of batch) refl
  where
    by : (b : Bool) → renews of batch ≡ b → b ≡ true
    by true e = refl
    by false e = absurd (both_ways (is_written batch.writes of)
        (none_written of batch.writes (quiet_batch rows batch of good follows now e)) written)
