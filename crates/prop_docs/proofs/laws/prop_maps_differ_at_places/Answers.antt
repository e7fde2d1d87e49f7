use Rattle.prop_docs.proofs.PlaceLemmas.{differ_at, nowhere}
use Rattle.prop_docs.proofs.laws.prop_maps_differ_at_places.Goals as goal

pub returns-clause-same : goal.returns-clause-same
returns-clause-same c = differ_at

pub returns-clause-nowhere : goal.returns-clause-nowhere
returns-clause-nowhere c = nowhere
