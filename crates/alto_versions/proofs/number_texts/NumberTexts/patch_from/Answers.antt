-- The patch at a place is one of those that are kept.
use Rattle.std.proofs.Common.{◌≡◌, ℕ, List, ap, sym, subst, ◌∙◌}
use Rattle.alto_versions.specs.Followed.{IsPatchText, NumberTexts, PatchTexts, text_in_form}
use Rattle.alto_versions.proofs.FollowedLemmas.{patch_at}
use Rattle.alto_versions.proofs.number_texts.NumberTexts.patch_from.Goals as goal

pub returns-then-patch-from : goal.returns-then-patch-from
returns-then-patch-from c = λ graph of are.
    let items : c.deref-patch-items.result.now ≡ c.args.self.now.patches =
    c.deref-patch-items.ensures.value ∙ ap (λ (texts : NumberTexts). texts.patches) c.self.view_is in
    let from : c.patch-item.result.from ≡ c.args.from =
    sym (ap (λ (patch : PatchTexts). patch.from) c.patch.view_is) ∙ c.if-patch-from.true in
    subst (λ (text : List ℕ). IsPatchText graph of c.args.form c.args.from c.args.self.now.number text)
    (sym c.text.ensures)
    (subst (λ (i : ℕ). IsPatchText graph of c.args.form i c.args.self.now.number
    (text_in_form c.patch-item.result c.args.form)) from
    (patch_at graph of c.args.self.now _ c.loop-patch.patch-index c.patch-item.result c.args.form are items
    c.loop-patch-test.true c.patch-item.is))
