-- The edges of a book whose base moves on hold what they did.
use Rattle.std.proofs.Common.{◌≡◌, ℕ, ◌≤◌, ◌<◌, ◌⊎◌, inl, inr, refl, ap, ap₂, sym, ◌∙◌, arith}
use Rattle.std.proofs.Math.Path.{fun_ext}
use Rattle.std.proofs.lemmas.Bool.Decides.{nat_tests}
use Rattle.std.proofs.lemmas.Bool.{cases_lt}
use Rattle.std.specs.Prelude.{Bool, true, false, ◌==◌, List, [], ◌++◌, Result, Ok, map, if◌then◌else◌}
use Rattle.std.specs.List.{flat_map}
use Rattle.serde_json.specs.Data.{Data}
use Rattle.json_patch.specs.Operations.{Operation, operations_applied}
use Rattle.json_patch.specs.declared.operations.patch_fault.PatchFault.{PatchFault}
use Rattle.alto_rows.specs.declared.key.Key.{Key}
use Rattle.alto_rows.specs.declared.resource.Resource.{Resource}
use Rattle.alto_rows.specs.Rows.{Rows}
use Rattle.alto_rows.specs.Versions.{version_of}
use Rattle.alto_maps.specs.Differ.{DifferAt}
use Rattle.alto_maps.specs.OperationForm as maps
use Rattle.alto_maps.specs.OperationForm.{by_standing, on_group, on_member, on_meta, under}
use Rattle.alto_maps.specs.Places.{touched_groups, touched_members}
use Rattle.alto_maps.specs.Shape.{Face, Name, Shape, group_object, member_in, stands}
use Rattle.alto_maps.specs.declared.place.Place.{Place}
use Rattle.net_docs.specs.Differ.{DifferBy}
use Rattle.edge_patch.specs.Documents.{face_of, place_of, shape_of}
use Rattle.edge_patch.specs.Documents as documents
use Rattle.edge_patch.specs.Merge.{merge_form}
use Rattle.edge_patch.specs.OperationForm.{operation_form}
use Rattle.edge_patch.specs.declared.form.PatchForm.{PatchForm}
use Rattle.edge_patch.specs.declared.form.PatchForm.TheVariants as form
use Rattle.edge_patch.proofs.KindLemmas.{differ_at}
use Rattle.edge_patch.proofs.LawLemmas.{untouched}
use Rattle.edge_patch.proofs.StepLemmas.{step_operates}
use Rattle.alto_book.specs.Book.{Book, rows_of, trimmed}
use Rattle.alto_book.specs.NumberLaws.{KeepsNumbers}
use Rattle.alto_book.specs.Numbers.{first_kept, keys_between, rows_at}
use Rattle.alto_book.specs.TrimLaws.{TrimKeepsBodies}
use Rattle.alto_book.specs.Walks.{document, document_at, merge_patch, operations, patch}
use Rattle.alto_book.proofs.TellLemmas.{LeadsOn, leads_on}
use Rattle.alto_book.proofs.TrimNumberLemmas.{trim_keeps_numbers}

-- ---- rows that differ by no key

-- maps that differ nowhere have the same operations behind them
same_on_group : (shape : Shape) (before others later : Face) (places : List Place)
    → DifferAt shape [] before others → (g : Name)
    → on_group others later places g ≡ on_group before later places g
same_on_group shape before others later places differ g =
    ap₂ (λ (on : Name → List Operation) (stood : Bool). by_standing g (group_object later g)
    (flat_map on (touched_members g places)) stood (stands later g))
    (fun_ext (λ m. ap (λ old. on_member m old (member_in later g m)) (sym (differ.members g m refl))))
    (sym (differ.groups g refl))

same_on_maps : (shape : Shape) (before others later : Face) (places : List Place) → DifferAt shape [] before others
    → maps.operation_form shape others later places ≡ maps.operation_form shape before later places
unfolding maps.operation_form
same_on_maps shape before others later places differ =
    ap (λ (on : Name → List Operation). on_meta shape later places ++ map (under shape.section)
    (flat_map on (touched_groups places)))
    (fun_ext (same_on_group shape before others later places differ))

same_operations : (of : Resource) (before others later : Rows) (keys : List Key) → DifferBy [] before others of
    → operation_form of others later keys ≡ operation_form of before later keys
same_operations of before others later keys differ =
    same_on_maps (shape_of of) (face_of of before) (face_of of others) (face_of of later) (map (place_of of) keys)
    (differ_at of before others [] differ)

-- what is Ok is one
one_ok : (outcome : Result Data PatchFault) (a b : Data) → outcome ≡ Ok a → outcome ≡ Ok b → a ≡ b
one_ok outcome a b first second = cc

none_applied : (d : Data) → operations_applied [] d ≡ Ok d
unfolding operations_applied
none_applied d = refl

-- and the same document
same_document : (of : Resource) (before others : Rows) → DifferBy [] before others of
    → documents.document of others ≡ documents.document of before
same_document of before others differ =
    let none : operation_form of before others [] ≡ [] = (untouched of before others [] refl).1 in
    let applied = step_operates of before others [] differ in
    sym (one_ok (operations_applied [] (documents.document of before)) (documents.document of before)
    (documents.document of others)
    (none_applied (documents.document of before))
    (sym (ap (λ (changes : List Operation). operations_applied changes (documents.document of before)) none) ∙ applied))

-- ---- the law

from_one : (i : ℕ) → (i == 0) ≡ false → 1 ≤ i
from_one i other = grind (arith, nat_tests)

pub trim_keeps_bodies : TrimKeepsBodies
trim_keeps_bodies book n of written i j legal le declared here = by (i == 0) refl
  where
    later : Book
    later = trimmed book n

    keeps : KeepsNumbers book later of
    keeps = trim_keeps_numbers book n of legal le declared

    leads : LeadsOn (first_kept later of) (version_of (rows_of later) of) i j
    leads = leads_on (first_kept later of) (version_of (rows_of later) of) i j here

    -- the rows at a number that is kept are the same, or differ by no key
    ends : (number : ℕ) → first_kept later of ≤ number → number ≤ version_of (rows_of later) of
        → (rows_at later of number ≡ rows_at book of number) ⊎ DifferBy [] (rows_at book of number)
        (rows_at later of number) of
    ends number low high = which (cases_lt (version_of later.base of) number)
      where
        which : (version_of later.base of < number) ⊎ (number ≤ version_of later.base of)
            → (rows_at later of number ≡ rows_at book of number) ⊎ DifferBy [] (rows_at book of number)
            (rows_at later of number) of
        which (inl above) = inl (keeps.rows number above high)
        which (inr at) = inr (keeps.base number low (omega (arith, at, low)))

    whole : (rows_at later of j ≡ rows_at book of j) ⊎ DifferBy [] (rows_at book of j) (rows_at later of j) of
        → document_at later of j ≡ document_at book of j
    whole (inl same) = ap (documents.document of) same
    whole (inr differ) = same_document of (rows_at book of j) (rows_at later of j) differ

    onto : 1 ≤ i → rows_at later of j ≡ rows_at book of j
    onto some = keeps.rows j (omega (arith, leads.onward, leads.from some)) leads.high

    between : 1 ≤ i → keys_between later of i j ≡ keys_between book of i j
    between some = keeps.keys i j (leads.from some) (omega (arith, leads.onward)) leads.high

    from : 1 ≤ i → (rows_at later of i ≡ rows_at book of i) ⊎ DifferBy [] (rows_at book of i) (rows_at later of i) of
        → operation_form of (rows_at later of i) (rows_at book of j) (keys_between book of i j)
        ≡ operation_form of (rows_at book of i) (rows_at book of j) (keys_between book of i j)
    from some (inl same) = ap (λ (rows : Rows). operation_form of rows (rows_at book of j) (keys_between book of i j))
        same
    from some (inr differ) = same_operations of (rows_at book of i) (rows_at later of i) (rows_at book of j)
        (keys_between book of i j) differ

    patches : (one : PatchForm) → 1 ≤ i
        → patch one of (rows_at later of i) (rows_at later of j) (keys_between later of i j)
        ≡ patch one of (rows_at book of i) (rows_at book of j) (keys_between book of i j)
    patches form.Merge some =
        ap₂ (λ (rows : Rows) (keys : List Key). merge_patch (merge_form of rows keys)) (onto some) (between some)
    patches form.Operations some =
        ap₂ (λ (rows : Rows) (keys : List Key). operations (operation_form of (rows_at later of i) rows keys))
        (onto some) (between some)
        ∙ ap operations (from some (ends i (leads.from some) (omega (arith, leads.onward, leads.high))))

    by : (b : Bool) → (i == 0) ≡ b
        → (if b then document (document_at later of j) else patch written of (rows_at later of i) (rows_at later of j)
        (keys_between later of i j))
        ≡ (if b then document (document_at book of j) else patch written of (rows_at book of i) (rows_at book of j)
        (keys_between book of i j))
    by true e = ap document (whole (ends j leads.low leads.high))
    by false e = patches written (from_one i e)
