-- The rows gain one behind them.
use Rattle.std.proofs.Common.{refl, ◌∙◌}
use Rattle.alto_rows.specs.declared.value.Value.TheVariants as value
use Rattle.alto_rules.proofs.WrittenLemmas.{gains_put}
use Rattle.alto_rules.proofs.written.Written.add_put.Goals as goal

pub returns : goal.returns
returns c =
    gains_put c.args.self.now _ c.args.key.now value.Unit c.requires.new refl
    (c.in_ok-self.ensures ∙ rw (c.replace-put.ensures.value, c.in_ok-copied.ensures) refl)
