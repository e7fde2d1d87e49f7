use Rattle.std.proofs.Common.{◌∙◌, ◌==◌, [], unwrap_or, ap, rules, tests}
use Rattle.std.proofs.lemmas.Iterator.Consumers.{nth_from_yields_List}
use Rattle.std.proofs.lemmas.Iterator.Splits.{YieldsList-from_slice_split}
use Rattle.alto_answers.specs.Target.{slash}
use Rattle.alto_answers.proofs.TargetLemmas.{now-unwrap_or}
use Rattle.alto_answers.proofs.target.raw_segment.Goals as goal

pub returns : goal.returns
returns c =
    let nth =
    nth_from_yields_List _ _ _ c.nth.ensures.ran
    (YieldsList-from_slice_split _ (λ b. b == slash) c.args.path.now c.split.ensures.rest c.split.ensures.done
    c.split.ensures.closure
    (λ x b q k. search (rules, tests))) in
    ap (λ x. x.now) c.unwrap_or.ensures ∙ now-unwrap_or c.nth.result _ ∙ ap (λ o. unwrap_or o []) nth
