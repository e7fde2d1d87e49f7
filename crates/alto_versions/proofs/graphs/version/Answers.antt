-- The key is that of the resource's version.
use Rattle.std.proofs.Common.{refl}
use Rattle.alto_versions.proofs.graphs.version.Goals as goal

pub returns-clause-room : goal.returns-clause-room
returns-clause-room g c = c.version_at-version.ensures.room c.args.of refl
