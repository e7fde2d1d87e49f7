-- Edges of the story's updates graph, with what they hold.
use Rattle.std.specs.Prelude.{ℕ, List, [], ◌∷◌, Option, Some, None, Result, Ok, Err, codes}
use Rattle.serde_json.specs.Data.{Data}
use Rattle.serde_json.specs.Written.{compact_text}
use Rattle.json_patch.specs.declared.operations.patch_fault.PatchFault.{PatchFault}
use Rattle.alto_book.specs.Walks.{Edge, edge_content}
use Rattle.edge_patch.specs.declared.form.PatchForm.{PatchForm}
use Rattle.edge_patch.specs.declared.form.PatchForm.TheVariants as form
use Rattle.alto_rows.specs.declared.resource.Resource.TheVariants.{Net}
use Rattle.worked_examples.specs.Story.{metro_book}

-- the edge between two numbers, told in a form
abbrev pub edge : PatchForm → ℕ → ℕ → Edge
edge how i j = record { i = i; j = j; form = how; content = edge_content (metro_book 8) (Net (codes "metro")) how i j }

-- the first snapshot, the step to the next number, and the longer edge from there to the last, as operations
abbrev pub walk : List Edge
walk = edge form.Merge 0 1 ∷ edge form.Merge 1 2 ∷ edge form.Operations 2 4 ∷ []

-- the text of what a client holds, if each edge could be applied
abbrev pub held_text : Result Data PatchFault → Option (List ℕ)
held_text (Ok d) = Some (compact_text d)
held_text (Err fault) = None
