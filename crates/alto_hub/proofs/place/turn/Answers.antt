use Rattle.alto_hub.specs.Versions.{log_of, shown_of}
use Rattle.alto_hub.proofs.TurnLemmas.{publishes}
use Rattle.alto_hub.proofs.place.turn.Goals as goal

pub publish_as-requires : goal.publish_as-requires
publish_as-requires g c next is views =
    publishes g.J.Naming.name g.J.Naming.opening _ _ (log_of c.args.pen.desk.shown.value) _ (shown_of next) views is
    c.requires.stands c.requires.begins
