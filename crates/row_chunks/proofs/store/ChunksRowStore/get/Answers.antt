-- The first row from the key on is the key's, or the key has none.
use Rattle.std.proofs.Common.{◌≡◌, sym, rules}
use Rattle.std.specs.Prelude.{true, false, Some, None, slice_get}
use Rattle.std.specs.Ordering.{is_eq}
use Rattle.alto_rows.specs.Order.{key_cmp}
use Rattle.alto_rows.proofs.OrderLemmas.{derived_key_cmp}
use Rattle.row_chunks.proofs.ReadLemmas.{value_of-no_run, value_of-run, value_of-other_run}
use Rattle.row_chunks.proofs.store.ChunksRowStore.get.Goals as goal

pub returns-in_err-row-clause-value : goal.returns-in_err-row-clause-value
returns-in_err-row-clause-value c =
    let none : slice_get c.run_from.result.now 0 ≡ None = search rules in
    rw c.from_residual.ensures (sym (value_of-no_run c.args.self.now c.args.key.now c.run_from.result.now
    c.run_from.ensures.run none))

pub returns-then-is_eq-clause-value : goal.returns-then-is_eq-clause-value
returns-then-is_eq-clause-value c =
    let row = c.in_ok-row.row.now in
    let first : slice_get c.run_from.result.now 0 ≡ Some row = search rules in
    let same : is_eq (key_cmp c.args.key.now row.0) ≡ true = search (rules, derived_key_cmp) in
    sym (value_of-run c.args.self.now c.args.key.now c.run_from.result.now row c.run_from.ensures.run first same)

pub returns-else-is_eq-clause-value : goal.returns-else-is_eq-clause-value
returns-else-is_eq-clause-value c =
    let row = c.in_ok-row.row.now in
    let first : slice_get c.run_from.result.now 0 ≡ Some row = search rules in
    let apart : is_eq (key_cmp c.args.key.now row.0) ≡ false = search (rules, derived_key_cmp) in
    sym (value_of-other_run c.args.self.now c.args.key.now c.run_from.result.now row c.run_from.ensures.sorted
    c.run_from.ensures.run first apart)
