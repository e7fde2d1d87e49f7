use Rattle.std.proofs.Common.{◌≡◌, IfOk, string_bytes, subst}
use Rattle.alto_drill.specs.Drilled.{text_of}
use Rattle.alto_run.specs.Runs.{drill_text}
use Rattle.alto_run.proofs.running.drilled_text.Goals as goal

pub drill-requires-clause-at_least : goal.drill-requires-clause-at_least
drill-requires-clause-at_least c = c.requires.at_least

pub drill-requires-clause-at_most : goal.drill-requires-clause-at_most
drill-requires-clause-at_most c = c.requires.at_most

pub returns-in-Ok : goal.returns-in-Ok
unfolding drill_text
returns-in-Ok c =
    subst (λ drilled. IfOk c.text.result (λ text. string_bytes text ≡ text_of drilled))
    c.in-Ok.ensures.drilled c.text.ensures

pub returns-in-Err : goal.returns-in-Err
returns-in-Err c = tt
