-- A count that is kept, or else that of the rows before.
use Rattle.std.proofs.Common.{refl, ap, ◌∙◌}
use Rattle.std.specs.BTreeMap as map
use Rattle.std.specs.Prelude.{◌≡◌, Some, None}
use Rattle.alto_rows.specs.declared.span.Span.{Span}
use Rattle.alto_rows.specs.Span.{count_in}
use Rattle.alto_rules.proofs.Orders.{by_counted_cmp}
use Rattle.alto_rules.proofs.sizes.Sizes.count.Goals as goal

pub returns-in-Some : goal.returns-in-Some
returns-in-Some g c =
    rw (← by_counted_cmp (λ R. Some c.in-Some.count.now ≡ map.get R c.args.self.now.counts c.args.counted.now)
    c.in-Some.ensures.value) refl

pub returns-in_ok-span-in-None : goal.returns-in_ok-span-in-None
returns-in_ok-span-in-None g c =
    rw (← by_counted_cmp (λ R. None ≡ map.get R c.args.self.now.counts c.args.counted.now) c.in-None.ensures.value)
    (c.count_in-count.ensures.count ∙ ap (λ (s : Span). count_in (g.R.RowStore.rows c.args.rows.now) s)
    c.in_ok-span-in-None.ensures)
