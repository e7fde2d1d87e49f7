-- The last of the rows up to there is in the span.
use Rattle.std.proofs.Common.{◌∙◌, sym, rules}
use Rattle.alto_rows.proofs.AheadLemmas.{known_up_to}
use Rattle.alto_rows.proofs.within.known_ahead.Goals as goal

pub returns-then-contains : goal.returns-then-contains
returns-then-contains c = λ rest first.
    known_up_to c.args.span.now c.args.run.now rest c.in-Some.last c.min-near.result c.index-run-last.result
    (search rules) (search rules) (sym c.contains.ensures ∙ c.if-contains.true) first
