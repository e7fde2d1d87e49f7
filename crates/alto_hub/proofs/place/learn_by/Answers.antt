use Rattle.std.proofs.Common.{refl}
use Rattle.alto_hub.specs.Seen.{after_lesson}
use Rattle.alto_hub.specs.Versions.{log_of}
use Rattle.alto_hub.proofs.TurnLemmas.{turns}
use Rattle.alto_hub.proofs.place.learn_by.Goals as goal

pub enter_as-requires : goal.enter_as-requires
enter_as-requires g c x views held = turns g.J.Naming.opening after_lesson (λ v log. refl) _ _ (log_of x)
    views held.0.led held
