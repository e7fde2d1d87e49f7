use Rattle.std.proofs.Common.{ap, ◌∙◌}
use Rattle.std.specs.Arc.{arc_value}
use Rattle.alto_versions.specs.Front.{Version}
use Rattle.alto_versions.specs.Graphs.{entries}
use Rattle.alto_versions.specs.Texts.{declared_text, text_in}
use Rattle.alto_versions.proofs.TextLemmas.{found_told}
use Rattle.alto_versions.proofs.front.Front.text.Goals as goal

pub returns : goal.returns
returns g c =
    let rows = g.R.RowStore.rows (arc_value c.self.inside.rows) in
    let of = c.args.of.now in
    found_told rows of (entries c.self.inside.texts.items) (λ text. arc_value text.now) c.text_of.result
    c.self.invariant.0 (c.text_of.ensures ∙ ap (λ texts. text_in (entries texts) of) c.deref.ensures.value)
    ∙ ap (λ (version : Version). declared_text version.rows of) c.self.view_is
