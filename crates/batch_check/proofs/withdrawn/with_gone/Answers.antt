-- The set gains the key where it is gone.
use Rattle.std.proofs.Common.{ap, sym, ◌∙◌}
use Rattle.std.proofs.lemmas.Bool.{and_from}
use Rattle.std.proofs.lemmas.Result.{IfOk-weaker}
use Rattle.std.specs.Prelude.{not}
use Rattle.batch_check.specs.Named.{is_gone}
use Rattle.batch_check.proofs.DeclaredLemmas.{gone_more}
use Rattle.batch_check.proofs.withdrawn.with_gone.Goals as goal

pub returns : goal.returns
returns g c =
    IfOk-weaker c.with_key.result _ _
    (λ all more. gone_more (is_gone (g.R.RowStore.rows c.args.next.now) c.args.key.now) c.args.key.now c.args.gone all
    (and_from _ _ (sym c.declares.ensures ∙ c.if-not-declares.false)
    (ap not (sym c.has_row.ensures ∙ c.if-has_row.false))) more)
    c.with_key.ensures
