-- The key is put where it has a row and names the other.
use Rattle.std.proofs.Common.{refl}
use Rattle.std.proofs.lemmas.Result.{IfOk-weaker}
use Rattle.alto_rules.specs.Draft.{drafted_rows}
use Rattle.alto_rules.specs.Withdrawal.{is_withdrawn}
use Rattle.alto_rules.proofs.WithdrawLemmas.{picked_none, picked_put}
use Rattle.alto_rules.proofs.draft.Draft.with_named.Goals as goal

pub returns-then-not-names : goal.returns-then-not-names
returns-then-not-names g c =
    picked_none (is_withdrawn (drafted_rows c.args.self.now) c.args.declared.now) c.args.key.now c.args.keys
    (rw (← c.names.ensures, c.if-not-names.true) refl)

pub returns-then-not-has : goal.returns-then-not-has
returns-then-not-has g c =
    picked_none (is_withdrawn (drafted_rows c.args.self.now) c.args.declared.now) c.args.key.now c.args.keys
    (rw (← c.names.ensures, c.if-not-names.false, ← c.has.ensures, c.if-not-has.true) refl)

pub returns : goal.returns
returns g c =
    IfOk-weaker c.with_key.result _ _
    (λ all put. picked_put (is_withdrawn (drafted_rows c.args.self.now) c.args.declared.now)
    c.args.key.now c.args.keys all
    (rw (← c.names.ensures, c.if-not-names.false, ← c.has.ensures, c.if-not-has.false) refl) put)
    c.with_key.ensures
