-- Edits so far, before those of the records that are left.
use Rattle.std.proofs.Common.{◌≡◌, ◌≤◌, ℕ, suc, List, [], ◌∷◌, ◌++◌, drop, length, slice_get, Some, None, Result, Ok}
use Rattle.std.proofs.Common.{Err, refl, ap, sym, subst, append_assoc, append-nil, arith}
use Rattle.csv.specs.Reading.{default_config, records, strip_bom}
use Rattle.alto_edits.specs.declared.edit.Edit.{Edit}
use Rattle.edit_forms.specs.declared.fault.FormFault.{FormFault}
use Rattle.edit_forms.specs.declared.fault.FormFault.TheVariants.{Empty}
use Rattle.edit_forms.specs.Csv.{CsvReads, without_header}
use Rattle.edit_forms.specs.Edits.{BodyReads, RecordReads, RecordsRead, before, reads, fails}

-- edits before those that follow, unless these have a fault
abbrev pub after_edits : List Edit → Result (List Edit) FormFault → Result (List Edit) FormFault
after_edits edits (Ok more) = Ok (edits ++ more)
after_edits edits (Err fault) = Err fault

-- whatever the records that are left read as, all read as the edits so far and that
pub record GoesOn (all : List (List (List ℕ))) (edits : List Edit) (row : ℕ)
    (left : List (List (List ℕ))) : Type 0 where
  pub goes_on : (read : Result (List Edit) FormFault) → RecordsRead row left read
      → RecordsRead 1 all (after_edits edits read)

-- at the start all are left
after_edits-nil : (read : Result (List Edit) FormFault) → read ≡ after_edits [] read
after_edits-nil (Ok more) = refl
after_edits-nil (Err fault) = refl

pub all_left : (all : List (List (List ℕ))) → GoesOn all [] 1 all
all_left all = record { goes_on = λ read h. subst (RecordsRead 1 all) (after_edits-nil read) h }

-- one edit more
after_edits-before : (edits : List Edit) (made : Edit) (more : Result (List Edit) FormFault)
    → after_edits edits (before made more) ≡ after_edits (edits ++ made ∷ []) more
after_edits-before edits made (Ok more) = ap Ok (sym (append_assoc edits (made ∷ []) more))
after_edits-before edits made (Err fault) = refl

-- a record that reads goes to the edits so far
pub one_more : (all : List (List (List ℕ))) (edits : List Edit) (made : Edit) (row next : ℕ)
    (left : List (List (List ℕ)))
    (fields : List (List ℕ)) → Some fields ≡ slice_get left 0 → RecordReads row fields (Ok made) → next ≡ suc row
    → GoesOn all edits row left → GoesOn all (edits ++ made ∷ []) next (drop 1 left)
one_more all edits made row next [] fields at_hand read numbered on = cc at_hand
one_more all edits made row next (found ∷ left) fields at_hand read numbered on =
    let same : fields ≡ found = cc at_hand in
    record {
      goes_on = λ more h. subst (RecordsRead 1 all) (after_edits-before edits made more)
          (on.goes_on (before made more) (reads made more (rw (← same) read) (rw (← numbered) h) refl));
    }

-- a record that doesn't read is the fault of all
pub first_fault : (all : List (List (List ℕ))) (edits : List Edit) (fault : FormFault) (row : ℕ)
    (left : List (List (List ℕ)))
    (fields : List (List ℕ)) → Some fields ≡ slice_get left 0 → RecordReads row fields (Err fault)
    → GoesOn all edits row left → RecordsRead 1 all (Err fault)
first_fault all edits fault row [] fields at_hand read on = cc at_hand
first_fault all edits fault row (found ∷ left) fields at_hand read on =
    let same : fields ≡ found = cc at_hand in
    on.goes_on (Err fault) (fails fault (rw (← same) read) refl)

-- where no record is left the edits so far are all
pub no_more : (all : List (List (List ℕ))) (edits : List Edit) (row : ℕ) (left : List (List (List ℕ)))
    → slice_get left 0 ≡ None → GoesOn all edits row left → RecordsRead 1 all (Ok edits)
no_more all edits row [] at_hand on = subst (λ (made : List Edit). RecordsRead 1 all (Ok made)) (append-nil edits)
    (on.goes_on (Ok []) refl)
no_more all edits row (found ∷ left) at_hand on = cc at_hand

-- records with a fault are a body's
pub body_fault : (records : List (List (List ℕ))) (fault : FormFault) → RecordsRead 1 records (Err fault)
    → BodyReads records (Err fault)
body_fault [] fault h = cc h
body_fault (first ∷ more) fault h = h

-- records with an edit are a body's
pub body_edits : (records : List (List (List ℕ))) (edits : List Edit) → RecordsRead 1 records (Ok edits)
    → 1 ≤ length edits
    → BodyReads records (Ok edits)
body_edits [] edits h some =
    let same : edits ≡ [] = cc h in
    absurd (omega (arith, ap length same, some))
body_edits (first ∷ more) edits h some = h

-- the same read has no edit and one
some_edit : (made : Edit) (more : Result (List Edit) FormFault) → Ok [] ≡ before made more → ⊥
some_edit made (Ok more) h = cc h
some_edit made (Err fault) h = cc h

-- only no records have no edit
pub body_empty : (records : List (List (List ℕ))) → RecordsRead 1 records (Ok []) → BodyReads records (Err Empty)
body_empty [] h = refl
body_empty (first ∷ more) (reads made rest record_ behind e) = absurd (some_edit made rest e)
body_empty (first ∷ more) (fails fault record_ e) = cc e

-- what a CSV body reads as, by its records past a header line
pub csv_body : (body : List ℕ) (all past : List (List (List ℕ))) (read : Result (List Edit) FormFault)
    → all ≡ records default_config (strip_bom body) → past ≡ without_header all → BodyReads past read
    → CsvReads body read
unfolding CsvReads
csv_body body all past read opened passed h = rw (← opened, ← passed) h
