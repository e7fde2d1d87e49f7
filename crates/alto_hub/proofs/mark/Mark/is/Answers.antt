use Rattle.std.proofs.Common.{◌≡◌, List, length, ap, sym, subst, ◌∙◌, arith}
use Rattle.std.proofs.lemmas.Bool.Decides.{nat_tests}
use mathlib.Core.List.{IsPrefix}
use Rattle.alto_hub.specs.History.{Submitted, Reached}
use Rattle.alto_hub.proofs.PrefixLemmas.{prefix_alike}
use Rattle.alto_hub.proofs.mark.Mark.is.Goals as goal

reached_alike : (r s : Reached) → r.name ≡ s.name → r.log ≡ s.log → r ≡ s
reached_alike r s names logs = λ i. record { name = names i; log = logs i }

pub returns : goal.returns
returns c same =
    let all = c.learn.new.self.log in
    let this : IsPrefix c.self.inside.seen.log all =
    subst (λ (log : List Submitted). IsPrefix log all) (ap (λ s. s.log) c.again-both.ensures) c.learn.ensures.2 in
    let long : length c.self.inside.seen.log ≡ length c.other.inside.seen.log =
    grind (arith, nat_tests, same, c.self.invariant.0, c.other.invariant.0) in
    let logs : c.self.inside.seen.log ≡ c.other.inside.seen.log = prefix_alike _ _ all this c.learn.ensures.3 long in
    reached_alike _ _ c.requires (sym (ap (λ r. r.log) c.self.view_is) ∙ (logs ∙ ap (λ r. r.log) c.other.view_is))
