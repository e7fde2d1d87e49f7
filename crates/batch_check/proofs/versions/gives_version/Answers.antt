-- Keys are compared in their order, and numbers as they are.
use Rattle.std.proofs.Common.{◌≡◌, refl, ap, sym, ◌∙◌}
use Rattle.std.specs.Prelude.{true, false}
use Rattle.std.specs.Ordering.{is_eq}
use Rattle.alto_rows.specs.Order.{key_cmp}
use Rattle.alto_rows.specs.Versions.{number_in}
use Rattle.alto_rows.proofs.OrderLemmas.{derived_key_cmp}
use Rattle.batch_check.proofs.versions.gives_version.Goals as goal

pub returns-then-is_eq : goal.returns-then-is_eq
returns-then-is_eq c =
    let same : is_eq (key_cmp c.args.write.now.key c.args.version.now.key) ≡ true =
    ap is_eq (sym (c.cmp.ensures ∙ derived_key_cmp c.args.write.now.key c.args.version.now.key))
    ∙ (sym c.is_eq.ensures ∙ c.if-is_eq.true) in
    rw (
      same,
      c.number_in.ensures ∙ ap number_in c.as_ref.ensures.value,
      c.number_in-then-is_eq.ensures ∙ ap number_in c.as_ref-then-is_eq.ensures.value,
    ) refl

pub returns-else-is_eq : goal.returns-else-is_eq
returns-else-is_eq c =
    let apart : is_eq (key_cmp c.args.write.now.key c.args.version.now.key) ≡ false =
    ap is_eq (sym (c.cmp.ensures ∙ derived_key_cmp c.args.write.now.key c.args.version.now.key))
    ∙ (sym c.is_eq.ensures ∙ c.if-is_eq.false) in
    rw (apart, c.if-is_eq.false) refl
