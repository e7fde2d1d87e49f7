use Rattle.std.proofs.Common.{refl}
use Rattle.json.specs.Print.{escape_byte}
use Rattle.json_tree.specs.Document.{with_member}
use Rattle.alto_directory.specs.Directory.{directory}
use Rattle.alto_directory.proofs.laws.nothing_without_networks.Goals as goal

pub returns : goal.returns
unfolding directory with_member escape_byte
returns c = λ rows none. rw none refl
