-- Keys that compare alike are one.
use Rattle.std.proofs.Common.{ap, sym, ◌∙◌}
use Rattle.std.specs.Prelude.{◌≡◌, true}
use Rattle.std.specs.Ordering.{is_eq}
use Rattle.alto_rows.proofs.OrderLemmas.{one_key}
use Rattle.alto_rules.proofs.Orders.{by_key_cmp}
use Rattle.alto_rules.proofs.written.if_same.Goals as goal

pub returns-then-is_eq : goal.returns-then-is_eq
returns-then-is_eq c =
    one_key c.args.at.now c.args.key.now
    (by_key_cmp (λ R. is_eq (R c.args.at.now c.args.key.now) ≡ true) (ap is_eq (sym c.cmp.ensures)
    ∙ (sym c.is_eq.ensures ∙ c.if-is_eq.true)))
