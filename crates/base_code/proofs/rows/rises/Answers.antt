use Rattle.std.proofs.Common.{ap, sym, ◌∙◌, refl}
use Rattle.std.specs.Ordering.{is_gt}
use Rattle.base_code.proofs.RowLemmas.{first_rises, if_rises, rises_if}
use Rattle.base_code.proofs.rows.rises.Goals as goal

pub returns-in-Some : goal.returns-in-Some
returns-in-Some c value =
    let test = c.is_gt.ensures ∙ ap is_gt c.order.ensures in (
      (λ yes. rises_if c.args.rows.now c.in-Some.row.now c.args.key.now value c.requires c.in-Some.ensures.value
          (sym test ∙ yes)),
      (λ sorted. test ∙ if_rises c.args.rows.now c.in-Some.row.now c.args.key.now value c.in-Some.ensures.value sorted),
    )

pub returns-in-None : goal.returns-in-None
returns-in-None c value = (
  (λ yes. first_rises c.args.rows.now c.args.key.now value c.in-None.ensures.value),
  (λ sorted. refl),
)
