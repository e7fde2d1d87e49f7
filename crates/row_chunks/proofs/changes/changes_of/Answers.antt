-- Writes whose keys rise are the changes themselves; of others the last of each key are.
use Rattle.std.proofs.Common.{◌≡◌, sym, subst}
use Rattle.std.proofs.lemmas.Result.{IfOk-weaker}
use Rattle.alto_rows.specs.Changes.{Changes, DoAs, changed}
use Rattle.alto_rows.specs.Rows.{Rows, AreSorted}
use Rattle.row_chunks.proofs.LastLemmas.{last_do}
use Rattle.row_chunks.proofs.RisingLemmas.{made_do}
use Rattle.row_chunks.proofs.changes.changes_of.Goals as goal

pub returns-then-are_rising-clause-does : goal.returns-then-are_rising-clause-does
returns-then-are_rising-clause-does c =
    subst (λ (all : Changes). DoAs c.args.writes.now all) (sym c.in_ok-made.ensures) (made_do c.args.writes.now)

pub returns-clause-does : goal.returns-clause-does
returns-clause-does c =
    IfOk-weaker c.last_of_each.result _ _
    (λ last same. last_do c.args.writes.now c.in_ok-in_order.field-0.items last.items
    (rw c.in_ok-made.ensures at c.in_ok-in_order.ensures.stable)
    (subst (λ (all : Changes). (rows : Rows) → AreSorted rows → changed rows last.items ≡ changed rows all)
    c.deref.ensures.value same))
    c.last_of_each.ensures.same
