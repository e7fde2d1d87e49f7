use Rattle.std.proofs.Common.{◌+◌, ◌∙◌, ap}
use Rattle.std.proofs.lemmas.List.{take_rest}
use Rattle.alto_http.proofs.Heads.{breaks_behind}
use Rattle.alto_http.proofs.scan.breaks_before.Goals as goal

pub returns-clause-value : goal.returns-clause-value
returns-clause-value c =
    ap (λ k. c.args.passed + k) (rw take_rest at c.leading_breaks.ensures.value)
    ∙ breaks_behind _ _ c.requires.within c.requires.breaks
