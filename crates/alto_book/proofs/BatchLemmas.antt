-- A batch that follows rows: the writes of its edits and the version rows of what these touch. What edits make of good
-- rows
-- follows them.
use Rattle.std.proofs.Common.{◌≡◌, refl, ap, ◌∙◌, arith}
use Rattle.std.proofs.lemmas.Bool.{or_parts}
use Rattle.std.proofs.lemmas.List.{append-nil}
use Rattle.std.proofs.lemmas.List.Elements.{filter-append, recursion_from_All}
use Rattle.std.specs.Prelude.{◌+◌, ◌≤◌, Bool, true, false, not, cond, ◌&&◌, List, [], ◌∷◌, length, map, filter, Some}
use Rattle.std.specs.Prelude.{is_some}
use Rattle.std.specs.List.{AllByRecursion}
use Rattle.std.specs.Ordering.{is_eq}
use Rattle.alto_rows.proofs.SoundLemmas.{sound_of_good}
use Rattle.alto_rows.proofs.TouchesLemmas.{none_part}
use Rattle.alto_rows.proofs.WriteLemmas.{NoneWrites, value_of-after-none}
use Rattle.alto_rows.specs.declared.key.Key.{Key}
use Rattle.alto_rows.specs.declared.key.Key.TheVariants as key
use Rattle.alto_rows.specs.declared.resource.Resource.{Resource}
use Rattle.alto_rows.specs.declared.resource.Resource.TheVariants as resource
use Rattle.alto_rows.specs.declared.write.Write.{Write}
use Rattle.alto_rows.specs.Accepted.{Accepted}
use Rattle.alto_rows.specs.Order.{key_cmp, net_of}
use Rattle.alto_rows.specs.Rows.{Rows, AreSorted, value_of, after}
use Rattle.alto_rows.specs.Touches.{part_of}
use Rattle.alto_rows.specs.Versions.{number_in, declaring_key, is_declared, resources_of, version_of}
use Rattle.alto_edits.proofs.LawLemmas.{Compiles, compiles, compiled_rows_are_good, compiled_writes_fit}
use Rattle.alto_edits.proofs.LimitLemmas.{compiled_rows_are_within}
use Rattle.alto_edits.proofs.VersionLemmas.{next_of, value_of-batch, is_declared-batch}
use Rattle.alto_edits.specs.declared.edit.Edit.{Edit}
use Rattle.alto_edits.specs.declared.rule.Past.{Past}
use Rattle.alto_edits.specs.Laws.{IsOfEdit, IsOfBatch, FitsEdit, FitsBatch, MakeBatch}
use Rattle.alto_edits.specs.Limits.{AreWithin}
use Rattle.alto_edits.specs.Versions.{is_written, is_touched, next_version, sequence_writes}
use Rattle.alto_book.specs.Legal.{is_version, edits_in, Follows}

-- ---- the writes of edits in a batch

-- a write that a batch may have may be an edit's, where it is of no version
fits_edit : (write : Write) → FitsBatch write → is_version write.key ≡ false → FitsEdit write
fits_edit write fits h = (of_edit write.key fits.0 h, fits.1)
  where
    of_edit : (at : Key) → IsOfBatch at → is_version at ≡ false → IsOfEdit at
    of_edit (key.Seq of) is e = cc
    of_edit at is e = is

edits_fit_in : (writes : List Write) → AllByRecursion FitsBatch writes → AllByRecursion FitsEdit (edits_in writes)
edits_fit_in [] all = tt
edits_fit_in (write ∷ writes) all = by (is_version write.key) refl (edits_fit_in writes all.1)
  where
    by : (b : Bool) → is_version write.key ≡ b → AllByRecursion FitsEdit (edits_in writes)
        → AllByRecursion FitsEdit (edits_in (write ∷ writes))
    by true e below = rw e below
    by false e below = rw e (fits_edit write all.0 e, below)

-- the writes of edits in a batch that follows rows are such as edits may make
pub edits_fit : (rows : Rows) (batch : Accepted) → Follows rows batch → AllByRecursion FitsEdit (edits_in batch.writes)
edits_fit rows batch follows = edits_fit_in batch.writes (recursion_from_All FitsBatch batch.writes follows.fit)

-- a key that is of no version is not that of a resource's
apart : (at : Key) (of : Resource) → is_version at ≡ false → is_eq (key_cmp (key.Seq of) at) ≡ false
unfolding key_cmp
apart (key.Seq one) of e = cc
apart _ of e = refl

-- none of them is of a version
pub none_versions_edited : (writes : List Write) (of : Resource) → NoneWrites (key.Seq of) (edits_in writes)
none_versions_edited [] of = tt
none_versions_edited (write ∷ writes) of = by (is_version write.key) refl (none_versions_edited writes of)
  where
    by : (b : Bool) → is_version write.key ≡ b → NoneWrites (key.Seq of) (edits_in writes)
        → NoneWrites (key.Seq of) (edits_in (write ∷ writes))
    by true e below = rw e below
    by false e below = rw e (apart write.key of e, below)

-- ---- what the batch does

-- the version row of a resource after a batch
pub value_of-follows : (rows : Rows) (batch : Accepted) (of : Resource) → AreSorted rows → Follows rows batch
    → value_of (after rows batch.writes) (key.Seq of)
    ≡ cond (is_touched (edits_in batch.writes) of && is_declared (after rows (edits_in batch.writes)) of)
    (next_of rows of) (value_of rows (key.Seq of))
value_of-follows rows batch of s follows =
    ap (λ (writes : List Write). value_of (after rows writes) (key.Seq of)) follows.whole
    ∙ value_of-batch rows (edits_in batch.writes) of s (edits_fit rows batch follows)

-- a batch keeps a version or raises it by one
pub version_of-batch : (rows : Rows) (batch : Accepted) (of : Resource) → AreSorted rows → Follows rows batch
    → (version_of rows of ≤ version_of (after rows batch.writes) of)
    × (version_of (after rows batch.writes) of ≤ version_of rows of + 1)
version_of-batch rows batch of s follows =
    rw (value_of-follows rows batch of s follows)
    (by (is_touched (edits_in batch.writes) of && is_declared (after rows (edits_in batch.writes)) of))
  where
    by : (b : Bool) → (version_of rows of ≤ number_in (cond b (next_of rows of) (value_of rows (key.Seq of))))
        × (number_in (cond b (next_of rows of) (value_of rows (key.Seq of))) ≤ version_of rows of + 1)
    by true = (omega arith, omega arith)
    by false = (omega arith, omega arith)

-- a resource is declared after a batch where it is after the writes of its edits
pub is_declared-follows : (rows : Rows) (batch : Accepted) (of : Resource) → AreSorted rows → Follows rows batch
    → is_declared (after rows batch.writes) of ≡ is_declared (after rows (edits_in batch.writes)) of
is_declared-follows rows batch of s follows =
    ap (λ (writes : List Write). is_declared (after rows writes) of) follows.whole
    ∙ is_declared-batch rows (edits_in batch.writes) of s

-- the row that declares a resource is part of a document that the resource depends on
abbrev declared_by : Resource → Resource
declared_by (resource.Cost net metric) = resource.Cost net metric
declared_by of = resource.Net (net_of of)

part_declaring : (of : Resource) → part_of (declaring_key of) ≡ Some (declared_by of)
part_declaring (resource.Net net) = refl
part_declaring (resource.Cost net metric) = refl
part_declaring (resource.Prop net) = refl

-- writes that don't touch a resource leave whether it is declared
pub is_declared-untouched : (rows : Rows) (writes : List Write) (of : Resource) → AreSorted rows
    → is_touched writes of ≡ false
    → is_declared (after rows writes) of ≡ is_declared rows of
is_declared-untouched rows writes of s h =
    ap is_some (value_of-after-none rows writes (declaring_key of)
    s (none_part (declared_by of) (declaring_key of) writes (part_declaring of) (unwritten of h)))
  where
    unwritten : (one : Resource) → is_touched writes one ≡ false → is_written writes (declared_by one) ≡ false
    unwritten (resource.Cost net metric) g =
        (or_parts (is_written writes (resource.Cost net metric)) (is_written writes (resource.Net net)) g).0
    unwritten (resource.Net net) g =
        (or_parts (is_written writes (resource.Net net)) (is_written writes (resource.Net net)) g).1
    unwritten (resource.Prop net) g =
        (or_parts (is_written writes (resource.Prop net)) (is_written writes (resource.Net net)) g).1

-- ---- what edits make

-- a key that edits may write is no version's
edited : (at : Key) → IsOfEdit at → is_version at ≡ false
edited (key.Seq of) h = absurd h
edited _ h = refl

-- of writes that edits may make all are of edits
edits_in-edits : (writes : List Write) → AllByRecursion FitsEdit writes → edits_in writes ≡ writes
edits_in-edits [] all = refl
edits_in-edits (write ∷ writes) all = rw (edited write.key all.0.0, edits_in-edits writes all.1) refl

-- of version rows none is
edits_in-versions : (rows : Rows) (ofs : List Resource) → edits_in (map (next_version rows) ofs) ≡ []
edits_in-versions rows [] = refl
edits_in-versions rows (of ∷ ofs) = edits_in-versions rows ofs

-- a batch that edits make of good rows within the limits follows them
pub compiled_follows : (rows : Rows) (edits : List Edit) (past : Past) (batch : Accepted)
    → MakeBatch rows edits past batch.writes → AreWithin rows → Follows rows batch
compiled_follows rows edits past batch make within =
    let it : Compiles rows past batch.writes = compiles rows edits past batch.writes (sound_of_good rows make.good)
    make.are_edits make.made in
    let few : AreWithin (after rows batch.writes) × (length batch.writes ≤ 16384) =
    compiled_rows_are_within rows edits past batch.writes make within in
    record {
      fit = compiled_writes_fit rows edits past batch.writes make;
      whole = rw (own it) it.whole;
      good = compiled_rows_are_good rows edits past batch.writes make;
      within = few.0;
      few = few.1;
    }
  where
    own : (it : Compiles rows past batch.writes) → edits_in batch.writes ≡ it.edits
    own it =
        ap edits_in it.whole
        ∙ (filter-append (λ (write : Write). not (is_version write.key)) it.edits (sequence_writes rows it.edits)
        ∙ rw (
          edits_in-edits it.edits it.keeps.fit,
          edits_in-versions rows (filter (is_touched it.edits) (resources_of (after rows it.edits))),
        )
        (append-nil it.edits))
