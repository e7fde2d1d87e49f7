use Rattle.std.proofs.Common.{◌∙◌, ◌==◌, ℕ, List, [], Some, None, ap, sym, unwrap_or, rules, tests}
use Rattle.std.specs.List.{slice_split}
use Rattle.std.proofs.lemmas.Iterator.Consumers.{nth_from_yields_List}
use Rattle.std.proofs.lemmas.Iterator.Splits.{YieldsList-from_slice_split}
use Rattle.alto_answers.specs.Target.{slash}
use Rattle.alto_answers.proofs.TargetLemmas.{next_from_yields, none_behind, now-unwrap_or}
use Rattle.alto_answers.proofs.target.two_raw_segments.Goals as goal

segments : List ℕ → List (List ℕ)
segments path = slice_split (λ b. b == slash) path

pub returns-in_default-clause-first : goal.returns-in_default-clause-first
returns-in_default-clause-first c =
    let split = c.split-segments.ensures in
    let none =
    nth_from_yields_List None _ _ c.in_default.ensures.ran
    (YieldsList-from_slice_split _ (λ b. b == slash) c.args.path.now split.rest split.done split.closure
    (λ x b q k. search (rules, tests))) in
    ap (λ o. unwrap_or o []) none

pub returns-in_default-clause-second : goal.returns-in_default-clause-second
returns-in_default-clause-second c =
    let split = c.split-segments.ensures in
    let none =
    nth_from_yields_List None _ _ c.in_default.ensures.ran
    (YieldsList-from_slice_split _ (λ b. b == slash) c.args.path.now split.rest split.done split.closure
    (λ x b q k. search (rules, tests))) in
    ap (λ o. unwrap_or o []) (sym (none_behind _ c.args.place (sym none)))

pub returns-clause-first : goal.returns-clause-first
returns-clause-first c =
    let split = c.split-segments.ensures in
    let nth =
    nth_from_yields_List (Some c.in-Some.first) c.nth.new.self _ c.in-Some.ensures.ran
    (YieldsList-from_slice_split _ (λ b. b == slash) c.args.path.now split.rest split.done split.closure
    (λ x b q k. search (rules, tests))) in
    ap (λ o. unwrap_or o []) nth

pub returns-clause-second : goal.returns-clause-second
returns-clause-second c =
    let split = c.split-segments.ensures in
    let next =
    next_from_yields c.in-Some.first _ c.next.result _ _ c.in-Some.ensures.ran c.next.ensures.steps
    (YieldsList-from_slice_split _ (λ b. b == slash) c.args.path.now split.rest split.done split.closure
    (λ x b q k. search (rules, tests))) in
    ap (λ x. x.now) c.unwrap_or.ensures ∙ now-unwrap_or c.next.result _ ∙ ap (λ o. unwrap_or o []) next
