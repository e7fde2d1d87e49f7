-- How the writes of edits grow edit by edit, and that they are of no versions.
use Rattle.std.proofs.Common.{◌≡◌, refl, ap, sym, ◌∙◌, append_assoc, add-one, drop-cons, suc, ◌<◌, length, get_or, drop}
use Rattle.std.proofs.lemmas.Bool.{both_ways}
use Rattle.std.specs.Prelude.{ℕ, ◌+◌, Bool, true, false, cond, List, [], ◌∷◌, ◌++◌, filter, map, Option, Some, None}
use Rattle.std.specs.Prelude.{Result, Ok, Err, is_some}
use Rattle.alto_rows.specs.declared.key.Key.{Key}
use Rattle.alto_rows.specs.declared.key.Key.TheVariants as key
use Rattle.alto_rows.specs.declared.resource.Resource.{Resource}
use Rattle.alto_rows.specs.declared.value.Value.{Value}
use Rattle.alto_rows.specs.declared.value.Value.TheVariants as value
use Rattle.alto_rows.specs.Order.{key_cmp}
use Rattle.alto_rows.specs.declared.write.Write.{Write}
use Rattle.alto_rows.specs.Rows.{Rows, after}
use Rattle.alto_rows.specs.Touches.{versions_map}
use Rattle.alto_rows.proofs.WriteLemmas.{after-append}
use Rattle.alto_rows.proofs.DeletionLemmas.{deletion}
use Rattle.alto_edits.specs.declared.edit.Edit.{Edit}
use Rattle.alto_edits.specs.declared.edit.Edit.TheVariants as edit
use Rattle.alto_edits.specs.declared.rule.CompileFault.{CompileFault}
use Rattle.alto_edits.specs.declared.rule.CompileFault.TheVariants.{Broken}
use Rattle.alto_edits.specs.declared.rule.Past.{Past}
use Rattle.alto_edits.specs.Versions.{sequence_writes}
use Rattle.alto_edits.specs.declared.rule.Rule.{Rule}
use Rattle.alto_edits.specs.Rules.{broken_rule}
use Rattle.alto_edits.specs.Writes.{names, putting, withdrawing, taking, writes_of}
use Rattle.alto_edits.specs.Compiled.{before, broken_by_batch, compiled, edits_writes, unless_broken}
use Rattle.alto_edits.proofs.ClosedLemmas.{is_elsewhere, taking-elsewhere}
use Rattle.alto_edits.proofs.EditLemmas.{all_append}
use Rattle.alto_rules.specs.Draft.{Drafted, GivesAlone, HaveNoVersions, drafted_rows, gives_none, wrote}
use Rattle.alto_rules.specs.Parts.{edit_key, edit_value, has_one_write}
use Rattle.alto_rules.specs.Withdrawal.{withdraws}
use Rattle.alto_rules.proofs.DraftedLemmas.{alone_none}

-- ---- edit by edit

-- writes before writes before others
before-append : (first second : List Write) (later : Result (List Write) CompileFault)
    → before first (before second later) ≡ before (first ++ second) later
before-append first second (Ok more) = ap (λ (all : List Write). Ok all) (sym (append_assoc first second more))
before-append first second (Err fault) = refl

-- the writes of the edits from a place on, where the edit there breaks no rule
pub edits_writes-next : (rows : Rows) (done : List Write) (edits : List Edit) (i : ℕ) (edit : Edit)
    (writes : List Write)
    → i < length edits → edit ≡ get_or edits i edit → broken_rule (after rows done) edit ≡ None
    → writes ≡ writes_of (after rows done) edit
    → before done (edits_writes (after rows done) (i + 1) (drop i edits))
    ≡ before (done ++ writes) (edits_writes (after rows (done ++ writes)) (i + 1 + 1) (drop (i + 1) edits))
edits_writes-next rows done edits i edit writes within is unbroken of =
    rw (
      drop-cons edits i edit,
      ← is,
      unbroken,
      of,
      after-append rows done (writes_of (after rows done) edit),
      add-one i,
    )
    (before-append done (writes_of (after rows done) edit)
    (edits_writes (after (after rows done) (writes_of (after rows done) edit)) (suc i + 1) (drop (suc i) edits)))

-- ---- the writes of one edit

-- an edit that withdraws nothing and puts no prefix has one write
pub one_left : (of : Edit) → ((net : List ℕ) → of ≡ edit.NetDrop net → ⊥)
    → ((net pid : List ℕ) → of ≡ edit.PidDrop net pid → ⊥)
    → ((net metric : List ℕ) → of ≡ edit.MetricDrop net metric → ⊥)
    → ((net pid : List ℕ) (prefix : _) → of ≡ edit.PrefixPut net pid prefix → ⊥)
    → has_one_write of ≡ true
one_left (edit.NetDrop net) a b c d = absurd (a net refl)
one_left (edit.PidDrop net pid) a b c d = absurd (b net pid refl)
one_left (edit.MetricDrop net metric) a b c d = absurd (c net metric refl)
one_left (edit.PrefixPut net pid prefix) a b c d = absurd (d net pid prefix refl)
one_left _ a b c d = refl

pub one_write : (rows : Rows) (of : Edit) → has_one_write of ≡ true
    → writes_of rows of ≡ record { key = edit_key of; value = edit_value of } ∷ []
one_write rows (edit.NetDrop net) h = cc
one_write rows (edit.PidDrop net pid) h = cc
one_write rows (edit.MetricDrop net metric) h = cc
one_write rows (edit.PrefixPut net pid prefix) h = cc
one_write rows _ h = refl

-- which gives no prefix to a PID
pub one_alone : (rows : Rows) (of : Edit) → has_one_write of ≡ true → is_some (edit_value of) ≡ true
    → GivesAlone rows (edit_key of)
one_alone rows of h some = alone_none rows (edit_key of) (gives of h some)
  where
    gives : (of : Edit) → has_one_write of ≡ true → is_some (edit_value of) ≡ true → gives_none (edit_key of) ≡ true
    gives (edit.PrefixPut net pid prefix) h some = cc
    gives (edit.PrefixDel net pid prefix) h some = cc
    gives _ h some = refl

-- ---- no versions

-- deletions of rows that no version's passes
deletions_plain : (goes : Key × Value → Bool) (rows : Rows)
    → ((of : Resource) (v : Value) → goes (key.Seq of, v) ≡ false)
    → HaveNoVersions (map deletion (filter goes rows))
deletions_plain goes [] none = tt
deletions_plain goes (row ∷ rows) none = by (deletions_plain goes rows none) (goes row) refl
  where
    plain : (at : Key) (v : Value) → goes (at, v) ≡ true → versions_map at ≡ None
    plain (key.Seq of) v h = absurd (both_ways (goes (key.Seq of, v)) (none of v) h)
    plain _ v h = refl

    by : HaveNoVersions (map deletion (filter goes rows)) → (b : Bool) → goes row ≡ b
        → HaveNoVersions (map deletion (cond b (row ∷ filter goes rows) (filter goes rows)))
    by more true e = (plain row.0 row.1 e, more)
    by more false e = more

version_names_none : (declared : Key) (of : Resource) (v : Value) → withdraws declared ≡ true
    → names declared (key.Seq of, v) ≡ false
unfolding key_cmp
version_names_none (key.Net net) of v h = refl
version_names_none (key.Pid net pid) of v h = refl
version_names_none (key.Metric net metric) of v h = refl
version_names_none _ of v h = cc

withdrawing_plain : (rows : Rows) (declared : Key) → withdraws declared ≡ true
    → HaveNoVersions (withdrawing rows declared)
withdrawing_plain rows declared h = deletions_plain (names declared) rows (λ of v. version_names_none declared of v h)

-- no edit writes a version
pub edit_plain : (rows : Rows) (of : Edit) → HaveNoVersions (writes_of rows of)
edit_plain rows (edit.NetDrop net) = withdrawing_plain rows (key.Net net) refl
edit_plain rows (edit.PidDrop net pid) = withdrawing_plain rows (key.Pid net pid) refl
edit_plain rows (edit.MetricDrop net metric) = withdrawing_plain rows (key.Metric net metric) refl
edit_plain rows (edit.PrefixPut net pid prefix) =
    all_append (λ write. versions_map write.key ≡ None) (taking rows net pid prefix)
    (putting (key.Prefix net pid prefix) value.Unit ∷ [])
    (rw (taking-elsewhere rows net pid prefix) (deletions_plain (is_elsewhere net pid prefix) rows (λ of v. refl)))
    (refl, tt)
edit_plain rows _ = (refl, tt)

-- nor do many
pub edits_plain : (edits : List Edit) (rows : Rows) (row : ℕ) (writes : List Write)
    → edits_writes rows row edits ≡ Ok writes → HaveNoVersions writes
edits_plain [] rows row writes made =
    let none : [] ≡ writes = cc in
    rw (← none) tt
edits_plain (of ∷ edits) rows row writes made =
    by (λ more e. edits_plain edits (after rows (writes_of rows of)) (row + 1) more e)
    (broken_rule rows of) (edits_writes (after rows (writes_of rows of)) (row + 1) edits) refl made
  where
    by : ((more : List Write) → edits_writes (after rows (writes_of rows of)) (row + 1) edits ≡ Ok more
        → HaveNoVersions more)
        → (broken : Option Rule) (rest : Result (List Write) CompileFault)
        → edits_writes (after rows (writes_of rows of)) (row + 1) edits ≡ rest
        → unless_broken row broken (before (writes_of rows of) rest) ≡ Ok writes → HaveNoVersions writes
    by below (Some r) rest e h = cc
    by below None (Err fault) e h = cc
    by below None (Ok more) e h =
        let whole : writes_of rows of ++ more ≡ writes = cc in
        rw (← whole) (all_append (λ write. versions_map write.key ≡ None) (writes_of rows of)
        more (edit_plain rows of) (below more e))

-- ---- a whole batch

-- writes with their version rows that break no rule as a whole
pub compiled_whole : (rows : Rows) (edits : List Edit) (past : Past) (writes : List Write)
    → edits_writes rows 1 edits ≡ Ok writes
    → None ≡ broken_by_batch rows past (writes ++ sequence_writes rows writes)
    → compiled rows edits past ≡ Ok (writes ++ sequence_writes rows writes)
compiled_whole rows edits past writes made whole = rw (made, ← whole) refl

-- such that break one
pub compiled_broken : (rows : Rows) (edits : List Edit) (past : Past) (writes : List Write) (rule : Rule)
    → edits_writes rows 1 edits ≡ Ok writes
    → Some rule ≡ broken_by_batch rows past (writes ++ sequence_writes rows writes)
    → compiled rows edits past ≡ Err (Broken 0 rule)
compiled_broken rows edits past writes rule made broken = rw (made, ← broken) refl

-- edits that break one
pub compiled_refused : (rows : Rows) (edits : List Edit) (past : Past) (fault : CompileFault)
    → edits_writes rows 1 edits ≡ Err fault
    → compiled rows edits past ≡ Err fault
compiled_refused rows edits past fault refused = rw refused refl

-- ---- a draft goes on

-- with the writes of the edit at a place
pub drafted_next : (rows : Rows) (edits : List Edit) (i : ℕ) (edit : Edit) (first same later : Drafted) → same ≡ first
    → broken_rule (drafted_rows same) edit ≡ None → later ≡ wrote same (writes_of (drafted_rows same) edit)
    → i < length edits → edit ≡ get_or edits i edit
    → (first.rows ≡ rows) × (edits_writes rows 1 edits
    ≡ before first.writes (edits_writes (after rows first.writes) (i + 1) (drop i edits)))
    → (later.rows ≡ rows) × (edits_writes rows 1 edits
    ≡ before later.writes (edits_writes (after rows later.writes) (i + 1 + 1) (drop (i + 1) edits)))
drafted_next rows edits i edit first same later is_same unbroken more within is old =
    let at : drafted_rows same ≡ after rows first.writes = ap drafted_rows is_same
    ∙ ap (λ (r : Rows). after r first.writes) old.0 in
    let all : later.writes ≡ first.writes ++ writes_of (after rows first.writes) edit =
    ap (λ (d : Drafted). d.writes) more
    ∙ (ap (λ (d : Drafted). d.writes ++ writes_of (drafted_rows same) edit) is_same
    ∙ ap (λ (r : Rows). first.writes ++ writes_of r edit) at) in (
      ap (λ (d : Drafted). d.rows) more ∙ (ap (λ (d : Drafted). d.rows) is_same ∙ old.0),
      old.1
          ∙ (edits_writes-next rows first.writes edits i edit (writes_of (after rows first.writes) edit) within is
          (ap (λ (r : Rows). broken_rule r edit) (sym at) ∙ unbroken) refl
          ∙ ap (λ (ws : List Write). before ws (edits_writes (after rows ws) (i + 1 + 1) (drop (i + 1) edits)))
          (sym all)),
    )
