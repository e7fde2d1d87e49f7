-- What is picked from the spans and from the written keys is all.
use Rattle.std.proofs.Common.{◌≡◌, ap, ◌∙◌, subst, rules}
use Rattle.std.proofs.lemmas.Result.{IfOk-weaker}
use Rattle.std.specs.Prelude.{◌&&◌, ◌||◌, List}
use Rattle.std.specs.List.{list_any}
use Rattle.alto_rows.specs.declared.span.Span.{Span}
use Rattle.alto_rows.specs.declared.write.Write.{Write}
use Rattle.alto_rows.specs.Rows.{AreSorted, has_row}
use Rattle.alto_rows.specs.Span.{rows_in}
use Rattle.alto_rules.specs.Draft.{Drafted, drafted_rows}
use Rattle.alto_rules.specs.Withdrawal.{is_withdrawn, is_written_key, spans_of}
use Rattle.alto_rules.proofs.DraftedLemmas.{sorted_drafted}
use Rattle.alto_rules.proofs.WithdrawLemmas.{all_withdrawn}
use Rattle.alto_rules.proofs.draft.Draft.withdrawn.Goals as goal

pub returns-clause-keys : goal.returns-clause-keys
returns-clause-keys g c =
    let draft = c.args.self.now in
    let declared = c.args.declared.now in
    let whole : c.deref.result.now ≡ c.self.inside.writes.items = search rules in
    IfOk-weaker c.with_written.result _ _
    (λ all h at.
    h at
    ∙ (ap (λ b. b || (is_withdrawn (drafted_rows draft) declared at && is_written_key c.deref.result.now at))
    (c.in_ok-all.ensures at
    ∙ ap (λ (spans : List Span). is_withdrawn (drafted_rows draft) declared at
    && list_any (λ span. has_row (rows_in draft.rows span) at) spans) c.in_ok-spans.ensures)
    ∙ (ap (λ (writes : List Write). (is_withdrawn (drafted_rows draft) declared at
    && list_any (λ span. has_row (rows_in draft.rows span) at) (spans_of declared))
    || (is_withdrawn (drafted_rows draft) declared at && is_written_key writes at))
    (whole ∙ ap (λ (d : Drafted). d.writes) c.self.view_is)
    ∙ all_withdrawn draft declared at (subst (λ (d : Drafted). AreSorted d.rows) c.self.view_is c.self.invariant.sorted)
    c.requires)))
    c.with_written.ensures

pub returns-clause-sorted : goal.returns-clause-sorted
returns-clause-sorted g c = sorted_drafted _ _ c.self.view_is c.self.invariant.sorted

pub returns-in_err-spans-clause-sorted : goal.returns-in_err-spans-clause-sorted
returns-in_err-spans-clause-sorted g c = sorted_drafted _ _ c.self.view_is c.self.invariant.sorted

pub returns-in_err-all-clause-sorted : goal.returns-in_err-all-clause-sorted
returns-in_err-all-clause-sorted g c = sorted_drafted _ _ c.self.view_is c.self.invariant.sorted
