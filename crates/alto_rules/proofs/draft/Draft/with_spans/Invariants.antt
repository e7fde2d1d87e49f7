-- What is there, with what is picked from the spans that are left, makes the whole.
use Rattle.std.proofs.Common.{◌≡◌}
use Rattle.std.specs.Prelude.{◌&&◌, ◌||◌}
use Rattle.std.specs.BTreeSet.{contains}
use Rattle.std.specs.List.{list_any}
use Rattle.alto_rows.specs.declared.key.Key.{Key}
use Rattle.alto_rows.specs.Order.{key_cmp}
use Rattle.alto_rows.specs.Rows.{has_row}
use Rattle.alto_rows.specs.Span.{rows_in}
use Rattle.alto_rules.specs.Draft.{drafted_rows}
use Rattle.alto_rules.specs.Withdrawal.{is_withdrawn}
use Rattle.alto_rules.proofs.draft.Draft.with_spans.Given as goal

abbrev pub invariant-loop-span : goal.invariant-loop-span
invariant-loop-span g l = (at : Key)
    → (contains key_cmp l.all at || (is_withdrawn (drafted_rows l.self) l.declared at
    && list_any (λ span. has_row (rows_in l.self.rows span) at) l.span-iterator.rest.items))
    ≡ (is_withdrawn (drafted_rows l.self) l.declared at && list_any (λ span. has_row (rows_in l.self.rows span) at)
    l.fn.spans.items)
