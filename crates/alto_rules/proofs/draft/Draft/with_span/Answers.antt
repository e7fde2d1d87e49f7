-- The keys of the span that name what is declared are those that can be withdrawn.
use Rattle.std.proofs.Common.{◌≡◌, ap, ◌∙◌, subst}
use Rattle.std.proofs.lemmas.Result.{IfOk-weaker}
use Rattle.std.specs.Prelude.{List}
use Rattle.alto_rows.specs.declared.key.Key.{Key}
use Rattle.alto_rules.specs.Draft.{Drafted, drafted_rows}
use Rattle.alto_rules.specs.Withdrawal.{HasPicked, has_key, is_withdrawn, named_in}
use Rattle.alto_rules.proofs.WithdrawLemmas.{picked_named}
use Rattle.alto_rules.proofs.draft.Draft.with_span.Goals as goal

pub returns : goal.returns
returns g c =
    let draft = c.args.self.now in
    let declared = c.args.declared.now in
    let same : c.deref.result.now ≡ named_in c.args.self.now.rows c.args.span c.args.declared.now =
    c.deref.ensures.value ∙ (c.in_ok-named.ensures
    ∙ ap (λ (d : Drafted). named_in d.rows c.args.span c.args.declared.now) c.self.view_is) in
    IfOk-weaker c.with_keys.result _ _
    (λ all picked. picked_named (drafted_rows draft) draft.rows c.args.span declared c.args.keys all
    (subst (λ (these : List Key). HasPicked (is_withdrawn (drafted_rows draft) declared) (has_key these) c.args.keys
    all) same picked))
    c.with_keys.ensures
