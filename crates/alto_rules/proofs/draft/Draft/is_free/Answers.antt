-- A prefix is free where it has no owner.
use Rattle.std.proofs.Common.{◌≡◌, refl, ap, sym, ◌∙◌}
use Rattle.std.specs.Prelude.{Bool, true, false, not}
use Rattle.alto_rules.specs.Draft.{drafted_rows}
use Rattle.alto_rules.proofs.TakeLemmas.{free_owner}
use Rattle.alto_rules.proofs.draft.Draft.is_free.Goals as goal

twice : (b : Bool) → b ≡ not (not b)
twice true = refl
twice false = refl

pub returns : goal.returns
returns g c =
    twice c.is_none.result ∙ (ap not (sym c.is_none.ensures)
    ∙ sym (free_owner (drafted_rows c.args.self.now) c.args.net.now c.args.prefix.now c.in_ok-owner.field-0
    c.in_ok-owner.ensures))
