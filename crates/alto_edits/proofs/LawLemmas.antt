-- The laws of batches: edits that break no rule, with their version rows, lead from good rows to good rows, by writes
-- that fit.
use Rattle.std.proofs.Common.{◌≡◌, refl, ap, sym, ◌∙◌, arith}
use Rattle.std.proofs.lemmas.Bool.{and_parts, both_ways, or_left, or_right}
use Rattle.std.proofs.lemmas.Cmp.{tied_itself}
use Rattle.std.proofs.lemmas.List.Elements.{All-from_recursion, recursion_from_All}
use Rattle.std.specs.Prelude.{Bool, true, false, cond, ◌&&◌, ℕ, ◌+◌, ◌≤◌, List, [], ◌∷◌, ◌++◌, All, map, filter, Option}
use Rattle.std.specs.Prelude.{Some, None, Result, Ok, Err, IfSome, is_some}
use Rattle.std.specs.List.{AllByRecursion}
use Rattle.std.specs.Ordering.{is_eq}
use Rattle.alto_rows.proofs.OrderLemmas.{resource_cmp_total}
use Rattle.alto_rows.proofs.ResourceLemmas.{resources_found}
use Rattle.alto_rows.proofs.WriteLemmas.{after-append, sorted_after}
use Rattle.alto_rows.specs.declared.key.Key.{Key}
use Rattle.alto_rows.specs.declared.key.Key.TheVariants as key
use Rattle.alto_rows.specs.declared.resource.Resource.{Resource}
use Rattle.alto_rows.specs.declared.write.Write.{Write}
use Rattle.alto_rows.specs.Good.{IsResource, Fits, AreGood}
use Rattle.alto_rows.specs.Order.{resource_cmp}
use Rattle.alto_rows.specs.Rows.{Rows, value_of, has_row, after}
use Rattle.alto_rows.specs.Versions.{is_declared, resources_of, version_of}
use Rattle.alto_rows.proofs.SoundLemmas.{AreSound, sound_of_good, good_of_sound, sound_versions, resource_fits}
use Rattle.alto_rows.proofs.StandsLemmas.{stands, stands-filter}
use Rattle.alto_edits.proofs.EditLemmas.{all_append, edit_fits, edit_keeps_sound}
use Rattle.alto_edits.proofs.VersionLemmas.{no_version, next_of, value_of-batch, value_of-batch_other}
use Rattle.alto_edits.proofs.VersionLemmas.{is_declared-batch, gained_touched}
use Rattle.alto_edits.specs.declared.edit.Edit.{Edit}
use Rattle.alto_edits.specs.declared.rule.Rule.{Rule}
use Rattle.alto_edits.specs.declared.rule.Past.{Past}
use Rattle.alto_edits.specs.declared.rule.CompileFault.{CompileFault}
use Rattle.alto_edits.specs.Compiled.{before, unless_broken, edits_writes, broken_by_batch, whole_batch, compiled}
use Rattle.alto_edits.specs.Edits.{IsEdit}
use Rattle.alto_edits.specs.Laws.{IsOfEdit, IsOfBatch, FitsEdit, FitsBatch, HaveNextVersions, MakeBatch}
use Rattle.alto_edits.specs.Laws.{CompiledRowsAreGood, CompiledWritesFit, EditsWritesFit}
use Rattle.alto_edits.specs.Rules.{broken_rule}
use Rattle.alto_edits.specs.Versions.{is_touched, next_version, sequence_writes}
use Rattle.alto_edits.specs.Writes.{writes_of}

-- ---- the writes of edits

-- writes that fit edits and leave sound rows
pub record Keeps (rows : Rows) (writes : List Write) : Type 0 where
  pub sound : AreSound (after rows writes)
  pub fit : AllByRecursion FitsEdit writes

-- writes that keep sound rows and then such writes keep them
keeps_then : (rows : Rows) (first second : List Write) → Keeps rows first → Keeps (after rows first) second
    → Keeps rows (first ++ second)
keeps_then rows first second a b = record {
  sound = rw (after-append rows first second) b.sound;
  fit = all_append FitsEdit first second a.fit b.fit;
}

-- edits that break no rule, one after another, keep sound rows
pub edits_keep_sound : (edits : List Edit) (rows : Rows) (row : ℕ) (writes : List Write) → AreSound rows
    → AllByRecursion IsEdit edits
    → edits_writes rows row edits ≡ Ok writes → Keeps rows writes
edits_keep_sound [] rows row writes sound are made =
    let none : [] ≡ writes = cc in
    rw (← none) record { sound = sound; fit = tt }
edits_keep_sound (edit ∷ edits) rows row writes sound are made =
    by (λ more keeps e. edits_keep_sound edits (after rows (writes_of rows edit)) (row + 1) more keeps are.1 e)
    (broken_rule rows edit) refl (edits_writes (after rows (writes_of rows edit)) (row + 1) edits) refl made
  where
    by : ((more : List Write) → AreSound (after rows (writes_of rows edit))
        → edits_writes (after rows (writes_of rows edit)) (row + 1) edits ≡ Ok more
        → Keeps (after rows (writes_of rows edit)) more)
        → (broken : Option Rule) → broken_rule rows edit ≡ broken
        → (rest : Result (List Write) CompileFault)
        → edits_writes (after rows (writes_of rows edit)) (row + 1) edits ≡ rest
        → unless_broken row broken (before (writes_of rows edit) rest) ≡ Ok writes → Keeps rows writes
    by below (Some r) b rest e h = cc
    by below None b (Err fault) e h = cc
    by below None b (Ok more) e h =
        let first : Keeps rows (writes_of rows edit) =
        record { sound = edit_keeps_sound rows edit sound are.0 b; fit = edit_fits rows edit sound are.0 } in
        let whole : writes_of rows edit ++ more ≡ writes = cc in
        rw (← whole) (keeps_then rows (writes_of rows edit) more first (below more first.sound e))

-- ---- with the version rows

-- the version rows fit after a batch
fit_version : (rows : Rows) (edits : List Write) (of : Resource) → AreGood rows → Keeps rows edits
    → HaveNextVersions rows
    → IfSome (value_of (after rows (edits ++ sequence_writes rows edits)) (key.Seq of)) (Fits (key.Seq of))
fit_version rows edits of good keeps next =
    rw (value_of-batch rows edits of good.sorted keeps.fit)
    (by (is_touched edits of) (is_declared (after rows edits) of) refl)
  where
    by : (t d : Bool) → is_declared (after rows edits) of ≡ d
        → IfSome (cond (t && d) (next_of rows of) (value_of rows (key.Seq of))) (Fits (key.Seq of))
    by true true e =
        let one : 1 ≤ version_of rows of + 1 = omega arith in
        (resource_fits (after rows edits) of keeps.sound e, (one, next of))
    by true false e = good.fit (key.Seq of)
    by false d e = good.fit (key.Seq of)

-- declared resources have versions after a batch
versions_batch : (rows : Rows) (edits : List Write) (of : Resource) → AreGood rows → Keeps rows edits
    → is_declared (after rows (edits ++ sequence_writes rows edits)) of ≡ true
    → has_row (after rows (edits ++ sequence_writes rows edits)) (key.Seq of) ≡ true
versions_batch rows edits of good keeps h =
    rw (value_of-batch rows edits of good.sorted keeps.fit)
    (by (is_touched edits of) (is_declared (after rows edits) of) (is_declared rows of) refl refl
    refl (sym (is_declared-batch rows edits of good.sorted) ∙ h))
  where
    by : (t d b : Bool) → is_touched edits of ≡ t → is_declared (after rows edits) of ≡ d
        → is_declared rows of ≡ b → d ≡ true
        → is_some (cond (t && d) (next_of rows of) (value_of rows (key.Seq of))) ≡ true
    by t false b f e g h = cc
    by true true b f e g h = refl
    by false true true f e g h = good.versions of g
    by false true false f e g h = absurd
        (both_ways (is_touched edits of) f (gained_touched rows edits of good.sorted g e))

-- writes that keep sound rows lead, with their version rows, from good rows to good rows
pub good_batch : (rows : Rows) (edits : List Write) → AreGood rows → Keeps rows edits → HaveNextVersions rows
    → AreGood (after rows (edits ++ sequence_writes rows edits))
good_batch rows edits good keeps next =
    good_of_sound (after rows (edits ++ sequence_writes rows edits))
    (sound_versions (after rows edits) (after rows (edits ++ sequence_writes rows edits)) keeps.sound
    (sorted_after rows (edits ++ sequence_writes rows edits) good.sorted)
    (λ at other. value_of-batch_other rows edits at good.sorted (no_version at other))
    (λ of. fit_version rows edits of good keeps next))
    (λ of h. versions_batch rows edits of good keeps h)

-- ---- what edits compile to

-- the writes are those of edits that keep sound rows, with their version rows, and break no rule as a whole
pub record Compiles (rows : Rows) (past : Past) (writes : List Write) : Type 0 where
  pub edits : List Write
  pub keeps : Keeps rows edits
  pub whole : writes ≡ edits ++ sequence_writes rows edits
  pub small : broken_by_batch rows past writes ≡ None

-- what edits compile to is such
pub compiles : (rows : Rows) (edits : List Edit) (past : Past) (writes : List Write) → AreSound rows → All IsEdit edits
    → compiled rows edits past ≡ Ok writes → Compiles rows past writes
compiles rows edits past writes sound are made =
    by (edits_writes rows 1 edits)
    (λ own e. edits_keep_sound edits rows 1 own sound (recursion_from_All IsEdit edits are) e) made
  where
    whole : (own : List Write) → Keeps rows own → (broken : Option Rule)
        → broken_by_batch rows past (own ++ sequence_writes rows own) ≡ broken
        → unless_broken 0 broken (Ok (own ++ sequence_writes rows own)) ≡ Ok writes → Compiles rows past writes
    whole own keeps (Some rule) b h = cc
    whole own keeps None b h =
        let is : own ++ sequence_writes rows own ≡ writes = cc in
        record { edits = own; keeps = keeps; whole = sym is; small = rw (← is) b }

    by : (result : Result (List Write) CompileFault) → ((own : List Write) → result ≡ Ok own → Keeps rows own)
        → whole_batch rows past result ≡ Ok writes → Compiles rows past writes
    by (Err fault) keeps h = cc
    by (Ok own) keeps h = whole own (keeps own refl) (broken_by_batch rows past (own ++ sequence_writes rows own)) refl
        h

-- ---- the laws

-- a write that fits an edit fits a batch
fits_batch : (write : Write) → FitsEdit write → FitsBatch write
fits_batch write fits = (of_batch write.key fits.0, fits.1, λ none. fits.0)
  where
    of_batch : (at : Key) → IsOfEdit at → IsOfBatch at
    of_batch (key.Seq of) h = absurd h
    of_batch at h = h

all_fit_batch : (writes : List Write) → AllByRecursion FitsEdit writes → AllByRecursion FitsBatch writes
all_fit_batch [] all = tt
all_fit_batch (write ∷ writes) all = (fits_batch write all.0, all_fit_batch writes all.1)

-- the version rows of resources whose names are of their alphabets fit a batch
versions_fit : (rows : Rows) (ofs : List Resource) → ((of : Resource) → stands of ofs ≡ true → IsResource of)
    → HaveNextVersions rows
    → AllByRecursion FitsBatch (map (next_version rows) ofs)
versions_fit rows [] names next = tt
versions_fit rows (one ∷ ofs) names next = (
  (name, (positive, next one), λ none. put none),
  versions_fit rows ofs (λ of h. names of (or_right (is_eq (resource_cmp of one)) (stands of ofs) h)) next,
)
  where
    name : IsResource one
    name = names one (or_left (is_eq (resource_cmp one one)) (stands one ofs)
        (ap is_eq (tied_itself resource_cmp_total one)))

    positive : 1 ≤ version_of rows one + 1
    positive = omega arith

    put : next_of rows one ≡ None → ⊥
    put e = cc

-- what edits make of good rows is the writes of edits with their version rows
made_of : (rows : Rows) (edits : List Edit) (past : Past) (writes : List Write) → MakeBatch rows edits past writes
    → Compiles rows past writes
made_of rows edits past writes make =
    compiles rows edits past writes (sound_of_good rows make.good) make.are_edits make.made

-- good rows are good after a batch
pub compiled_rows_are_good : CompiledRowsAreGood
compiled_rows_are_good rows edits past writes make =
    let it : Compiles rows past writes = made_of rows edits past writes make in
    rw it.whole (good_batch rows it.edits make.good it.keeps make.room)

-- each write of a batch fits
pub compiled_writes_fit : CompiledWritesFit
compiled_writes_fit rows edits past writes make =
    let it : Compiles rows past writes = made_of rows edits past writes make in
    All-from_recursion FitsBatch writes (rw it.whole
    (all_append FitsBatch it.edits (sequence_writes rows it.edits) (all_fit_batch it.edits it.keeps.fit)
    (versions_fit rows (filter (is_touched it.edits) (resources_of (after rows it.edits))) (named it) make.room)))
  where
    named : (it : Compiles rows past writes) (of : Resource)
        → stands of (filter (is_touched it.edits) (resources_of (after rows it.edits))) ≡ true → IsResource of
    named it of h =
        let both : (is_touched it.edits of && stands of (resources_of (after rows it.edits))) ≡ true =
        sym (stands-filter (is_touched it.edits) of (resources_of (after rows it.edits))) ∙ h in
        resource_fits (after rows it.edits) of it.keeps.sound
        (sym (resources_found (after rows it.edits) of)
        ∙ (and_parts (is_touched it.edits of) (stands of (resources_of (after rows it.edits))) both).1)

-- each write that edits make fits
pub edits_writes_fit : EditsWritesFit
edits_writes_fit rows row edits writes good are made =
    let keeps : Keeps rows writes =
    edits_keep_sound edits rows row writes (sound_of_good rows good) (recursion_from_All IsEdit edits are) made in
    All-from_recursion FitsEdit writes keeps.fit
