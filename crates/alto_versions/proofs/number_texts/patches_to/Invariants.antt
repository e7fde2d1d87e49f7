-- The patches so far are those of their edges.
use Rattle.std.proofs.Common.{All}
use Rattle.alto_versions.specs.Followed.{IsPatchText, text_in_form}
use Rattle.edge_patch.specs.declared.form.PatchForm.{PatchForm}
use Rattle.alto_versions.proofs.number_texts.patches_to.Given as goal

abbrev pub invariant-loop-stride : goal.invariant-loop-stride
invariant-loop-stride g l =
    All (λ patch. (form : PatchForm)
    → IsPatchText l.graph l.of form patch.from l.graph.last (text_in_form patch form)) l.patches.items
