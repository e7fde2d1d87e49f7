use Rattle.std.proofs.Common.{◌≡◌, ◌∙◌}
use Rattle.alto_doors.specs.Door.{just_opened}
use Rattle.alto_service.proofs.CountLemmas.{all_parted, closed_unused}
use Rattle.alto_service.proofs.doors.close_unused.Goals as goal

pub loop-one-preserved : goal.loop-one-preserved
loop-one-preserved g c =
    let parts = all_parted c.in-Some.ensures.steps.0 (λ one. g.D.Door.Door.state one.door ≡ just_opened)
    c.loop-one.invariant.fresh in
    record {
      fresh = parts.1;
      same = c.close-closed.ensures.counted ∙ closed_unused _ _ parts.0 ∙ c.loop-one.invariant.same;
    }
