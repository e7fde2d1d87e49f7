use Rattle.std.proofs.Common.{arith, codes}
use Rattle.doc_pieces.proofs.TextLemmas.{print_member}
use Rattle.doc_pieces.proofs.frame.meta_text.Goals as goal

pub returns : goal.returns
returns g c = let added = c.in_ok-write_meta.ensures in
    grind (arith, added.tokens, added.before, print_member (codes "meta") (g.M.MapSource.face c.args.source.now).meta)
