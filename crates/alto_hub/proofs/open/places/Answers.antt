use Rattle.alto_hub.specs.Versions.{log_of}
use Rattle.alto_hub.proofs.TurnLemmas.{admits}
use Rattle.alto_hub.proofs.open.places.Goals as goal

pub reader-requires : goal.reader-requires
reader-requires g c x views held = (held.0, admits (log_of x) views held.1)

pub new-requires : goal.new-requires
new-requires g c = rw c.in_ok-eye.ensures.view c.requires
