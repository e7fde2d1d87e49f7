-- Without an owner nothing is taken.
use Rattle.alto_rules.specs.Draft.{HasOwner, drafted_rows}
use Rattle.std.proofs.Common.{subst}
use Rattle.std.specs.Prelude.{ℕ, List, Option, None}
use Rattle.alto_rules.proofs.DraftedLemmas.{sorted_drafted, wrote_none}
use Rattle.alto_rules.proofs.TakeLemmas.{taking_none}
use Rattle.alto_rules.proofs.draft.Draft.take.Goals as goal

pub returns-in-None-clause-taken : goal.returns-in-None-clause-taken
returns-in-None-clause-taken g c =
    wrote_none c.args.self _
    (taking_none (drafted_rows c.args.self) c.args.net.now c.args.pid.now c.args.prefix.now
    None (sorted_drafted _ _ c.self.view_is c.self.invariant.sorted)
    (subst (λ (o : Option (List ℕ)). HasOwner (drafted_rows c.args.self) c.args.net.now c.args.prefix.now o)
    c.in-None.is c.in_ok-owner.ensures) (λ other h. cc))

pub take_from-requires-clause-sorted : goal.take_from-requires-clause-sorted
take_from-requires-clause-sorted g c = sorted_drafted _ _ c.self.view_is c.self.invariant.sorted
