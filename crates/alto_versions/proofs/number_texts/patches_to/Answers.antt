-- One patch more, if there is one, is that of its edge.
use Rattle.std.proofs.lemmas.List.Elements.{All-push}
use Rattle.edge_patch.specs.declared.form.PatchForm.{PatchForm}
use Rattle.alto_versions.specs.Followed.{IsPatchText, PatchTexts, text_in_form}
use Rattle.alto_versions.proofs.number_texts.patches_to.Goals.{in-Some+in_ok-push, in_default-2}
use Rattle.alto_versions.proofs.number_texts.patches_to.Goals as goal

pub loop-stride-preserved : goal.loop-stride-preserved
loop-stride-preserved g c =
    let graph = c.args.graph.now in
    let P : PatchTexts → Type 0 = λ patch. (form : PatchForm)
    → IsPatchText graph c.args.of.now form patch.from graph.last (text_in_form patch form) in
    elim c.match-branch-2.branch [
      | in-Some+in_ok-push w ↦
          rw (w.patches-is, w.in_ok-push.ensures.items)
          (All-push P c.loop-stride.patches.items w.in-Some.patch c.loop-stride.invariant
          (rw w.in-Some.is at c.in_ok-patch.ensures))
      | in_default-2 w ↦ rw w.patches-is c.loop-stride.invariant
    ]
