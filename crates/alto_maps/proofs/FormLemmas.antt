-- Forms made part by part, as the code makes them.
use Rattle.std.proofs.Common.{◌≡◌, ℕ, ◌≤◌, length, take, refl, ap, sym, ◌∙◌}
use Rattle.std.proofs.lemmas.List.{take_all}
use Rattle.std.proofs.lemmas.List.Sums.{fold-append}
use Rattle.std.specs.Prelude.{List, [], ◌∷◌, ◌++◌, map, codes}
use Rattle.std.specs.List.{flat_map}
use Rattle.serde_json.specs.Data.{Data, Members, no_members, object}
use Rattle.json_tree.specs.Document.{with_member}
use Rattle.json_patch.specs.Operations.{Operation}
use Rattle.alto_maps.specs.Shape.{Name, Shape, Face}
use Rattle.alto_maps.specs.Places.{touched_groups, touched_members}
use Rattle.alto_maps.specs.Touched.{Touched, touched_parts}
use Rattle.alto_maps.specs.MergeForm.{part, with_members, meta_change, change_of, group_change, section_change}
use Rattle.alto_maps.specs.MergeForm.{merge_form}
use Rattle.alto_maps.specs.OperationForm.{under, on_touched, on_meta, operation_form}
use Rattle.alto_maps.specs.declared.place.Place.{Place}

-- what is made of each touched group is made of its name and its members
over_touched : {X : Type 0} (make : Touched → X) (members : Name → List Name) (names : List Name)
    → map make (map (λ g. (g, members g)) names) ≡ map (λ g. make (g, members g)) names
over_touched make members [] = refl
over_touched make members (g ∷ names) = ap (λ xs. make (g, members g) ∷ xs) (over_touched make members names)

flat_over_touched : {X : Type 0} (make : Touched → List X) (members : Name → List Name) (names : List Name)
    → flat_map make (map (λ g. (g, members g)) names) ≡ flat_map (λ g. make (g, members g)) names
flat_over_touched make members [] = refl
flat_over_touched make members (g ∷ names) = ap (λ xs. make (g, members g) ++ xs) (flat_over_touched make members names)

-- a merge form is made part by part
pub merge_parts : (shape : Shape) (after : Face) (places : List Place)
    → object
    (with_members (with_members no_members (part (codes "meta") (meta_change shape after places)))
    (part shape.section (section_change (map (λ t. (t.0, change_of after t.0 t.1)) (touched_parts places)))))
    ≡ merge_form shape after places
unfolding merge_form
merge_parts shape after places =
    ap
    (λ changes. object (with_members (with_members no_members (part (codes "meta") (meta_change shape after places)))
    (part shape.section (section_change changes))))
    (over_touched (λ t. (t.0, change_of after t.0 t.1)) (λ g. touched_members g places) (touched_groups places))
    ∙ ap object
    (sym
    (fold-append (λ (before : Members) (m : Name × Data). with_member m.0 m.1 before)
    no_members (part (codes "meta") (meta_change shape after places))
    (part shape.section (section_change (map (λ g. (g, group_change after places g)) (touched_groups places))))))

-- and so are operations, group by group: these are all that a loop over the touched groups has put
pub operation_parts : (shape : Shape) (before after : Face) (places : List Place) (operations : List Operation) (n : ℕ)
    (groups : List Touched)
    → operations ≡ on_meta shape after places ++ map (under shape.section)
    (flat_map (λ t. on_touched before after t.0 t.1) (take n groups))
    → length groups ≤ n → groups ≡ touched_parts places
    → operations ≡ operation_form shape before after places
unfolding operation_form
operation_parts shape before after places operations n groups put all are =
    put
    ∙ ap (λ os. on_meta shape after places ++ map (under shape.section) os)
    (ap (flat_map (λ t. on_touched before after t.0 t.1)) (take_all n groups all ∙ are)
    ∙ flat_over_touched (λ t. on_touched before after t.0 t.1) (λ g. touched_members g places) (touched_groups places))
