use Rattle.std.proofs.Common.{arith}
use Rattle.serde_json.proofs.Texts.{print-outline}
use Rattle.alto_maps.specs.Shape.{document}
use Rattle.alto_maps.proofs.writing.write_document.Goals as goal

pub returns : goal.returns
returns g c = let added = c.in_ok-write_whole.ensures in
    grind (
      arith,
      added.tokens,
      added.before,
      print-outline (document g.M.MapSource.shape (g.M.MapSource.face c.args.map.now)),
    )
