use Rattle.std.proofs.Common.{refl}
use Rattle.json.specs.Print.{escape_byte}
use Rattle.json_tree.specs.Document.{with_member}
use Rattle.alto_maps.specs.Places.{set_of}
use Rattle.alto_directory.proofs.laws.addresses_have_pids.Goals as goal

pub returns : goal.returns
unfolding set_of with_member escape_byte
returns c = refl
