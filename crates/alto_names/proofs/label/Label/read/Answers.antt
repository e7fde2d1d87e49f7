use Rattle.alto_names.proofs.NameLemmas.{text_if_none_bad}
use Rattle.alto_names.proofs.label.Label.read.Goals as goal

-- bytes of an alphabet are text
pub unreachable-requires : goal.unreachable-requires
unreachable-requires g c =
    c.in_default-from_utf8.ensures.cases.0 (text_if_none_bad _ _ g.met.K.Kind.ascii c.in_default.ensures)
