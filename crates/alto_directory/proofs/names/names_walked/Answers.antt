use Rattle.std.specs.List.{filter_map}
use Rattle.alto_directory.specs.Network.{property_in}
use Rattle.alto_directory.proofs.NameLemmas.{all_names}
use Rattle.alto_directory.proofs.names.names_walked.Goals as goal

pub loop-row-init : goal.loop-row-init
loop-row-init g c = rw c.new-names.ensures (all_names (filter_map property_in c.args.properties.now))
