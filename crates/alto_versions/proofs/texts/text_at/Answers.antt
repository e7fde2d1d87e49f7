use Rattle.std.proofs.Common.{◌≡◌, [], length, sym, ◌∙◌}
use Rattle.std.proofs.lemmas.Bool.{eqb-true}
use Rattle.std.proofs.lemmas.List.{nil_from_length}
use Rattle.std.proofs.lemmas.Result.{IfOk-weaker}
use Rattle.alto_versions.proofs.TextLemmas.{stays}
use Rattle.alto_versions.proofs.texts.text_at.Goals as goal

pub returns-then-is_empty : goal.returns-then-is_empty
returns-then-is_empty g c =
    let keys = c.args.keys.now in
    let none : keys ≡ [] = nil_from_length
    keys (eqb-true (length keys) 0 (sym c.is_empty.ensures ∙ c.if-is_empty.true)) in
    IfOk-weaker c.try_clone.result _ _
    (λ after is before differ had. is ∙ (had ∙ stays c.args.of.now before _ keys none differ))
    c.try_clone.ensures
