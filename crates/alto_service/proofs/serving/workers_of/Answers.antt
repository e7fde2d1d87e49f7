use Rattle.std.proofs.Common.{◌≡◌, ◌∙◌, ◌++◌, [], ◌∷◌, ap, arith, rules}
use Rattle.alto_doors.specs.Door.{just_opened}
use Rattle.alto_service.proofs.CountLemmas.{all_parted, all_with}
use Rattle.alto_service.proofs.serving.workers_of.Goals as goal

pub loop-one-preserved : goal.loop-one-preserved
loop-one-preserved g c =
    let parts = all_parted c.in-Some.ensures.steps.0 (λ one. g.E.Door.state one.door ≡ just_opened)
    c.loop-one.invariant.left in
    let made : c.push.new.self.items ≡ c.loop-one.workers.items ++ c.new.result ∷ [] = search rules in
    record {
      even = search (rules, arith);
      made = search (rules, arith);
      left = parts.1;
      fresh = all_with c.new.result c.loop-one.workers.items c.push.new.self.items
          made (λ worker. g.E.Door.state worker.door ≡ just_opened) c.loop-one.invariant.fresh
          (ap g.E.Door.state c.new.ensures ∙ parts.0);
    }
